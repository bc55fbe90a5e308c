-- A table built over time is the table after a history of accepted inserts, those that the build's steps ask for: so a build begins a
-- trace of calls (map_rules, Trace), and demand 3 holds of it and of what calls make of it. Assumes nothing.
use Rattle.std.proofs.Math.Path.{◌≡◌, refl, sym, ap, subst}
use Rattle.std.proofs.Common.{◌∙◌, le→leb}
use Rattle.std.specs.Prelude.{ℕ, ◌+◌, ◌≤◌, ◌&&◌, length, T}
use native.Mathlib.Omega.{arith}
use mathlib.Core.List.{List, [], ◌∷◌}
use Rattle.std.proofs.Math.Dec.{leb}
use Rattle.theory.specs.RunsTools.{cond_yes, T_and}
use Rattle.map_rules.specs.Table.{Row, ordered, all_known, Outcome, refused_by, stored, now_stored, room_fits, names_fit, well_formed, entered, inserted}
use Rattle.map_rules.specs.Tests.{good_room}
use Rattle.map_rules.specs.Memory.{same_value, known_value}
use Rattle.map_rules.specs.Pieces.{symbols}
use Rattle.map_rules.specs.History.{after, accepted, noted, Accepted, entered_ok}
use Rattle.map_rules.specs.Trace.{events, Comes}
use Rattle.metadata_rules.specs.declared.Interval.{Interval}
use Rattle.metadata_rules.specs.Metadata.{Mapping, Metadata}
use Rattle.build_rules.specs.Reading.{Read, fault, value, and_then, text_of, number_in, direction_of}
use Rattle.build_rules.specs.declared.reading.Direction.{Direction}
use Rattle.build_rules.specs.declared.reading.Direction.TheVariants.{Forward, Inverse}
use Rattle.build_rules.specs.OverTime.{Step, stop, skip, give, forward_step, inverse_step, taken, Build, stopped, built, onward, further, lay_intervals, lay_read, lay_mapping, lay_mappings, directed, over_time}

-- ---- the inserts that a build asks for, the latest first

-- one more step
unfoldable pub asks : Step (Row ℕ) → List (Row ℕ) → List (Row ℕ)
asks (stop c) ns = ns
asks skip ns = ns
asks (give n) ns = n ∷ ns

-- the intervals of a mapping
unfoldable pub intervals_ask : (Interval → Step (Row ℕ)) → List Interval → List (Row ℕ) → List (Row ℕ)
unfolding asks
intervals_ask step [] ns = ns
intervals_ask step (x ∷ xs) ns = intervals_ask step xs (asks (step x) ns)

-- an inverse mapping whose name was read
unfoldable pub read_asks : List (List ℕ) → List Interval → Read ℕ → List (Row ℕ) → List (Row ℕ)
unfolding intervals_ask inverse_step
read_asks texts xs (fault c) ns = ns
read_asks texts xs (value instrument) ns = intervals_ask (inverse_step texts instrument) xs ns

-- a mapping
unfoldable pub mapping_asks : List (List ℕ) → Direction → Mapping → List (Row ℕ) → List (Row ℕ)
unfolding intervals_ask forward_step read_asks and_then text_of number_in
mapping_asks texts Forward m ns = intervals_ask (forward_step texts m.name) m.intervals ns
mapping_asks texts Inverse m ns = read_asks texts m.intervals (and_then (text_of texts m.name) number_in) ns

-- mappings
unfoldable pub mappings_ask : List (List ℕ) → Direction → List Mapping → List (Row ℕ) → List (Row ℕ)
unfolding mapping_asks
mappings_ask texts d [] ns = ns
mappings_ask texts d (m ∷ ms) ns = mappings_ask texts d ms (mapping_asks texts d m ns)

-- a metadata
unfoldable pub directed_asks : List (List ℕ) → List Mapping → Read Direction → List (Row ℕ)
unfolding mappings_ask
directed_asks texts ms (fault c) = []
directed_asks texts ms (value d) = mappings_ask texts d ms []

unfoldable pub inserts_asked : List (List ℕ) → Metadata → List (Row ℕ)
unfolding directed_asks direction_of
inserts_asked texts m = directed_asks texts m.mappings (direction_of m.fields)

-- ---- the theorem

module _ (names room : ℕ) (few : names ≤ 4096) (small : room ≤ 65536) where
  -- an insert into a well-formed table within the limits is judged by its own order alone
  entered_here : (n : Row ℕ) (ys : List (Row ℕ)) → T (well_formed same_value known_value names ys) → length ys ≤ room
      → inserted same_value known_value names room n ys ≡ entered same_value known_value names room n ys
  unfolding inserted names_fit
  entered_here n ys f l =
      cond_yes (room_fits room (length ys) && leb names 4096) _ _
      (T_and (room_fits room (length ys)) (leb names 4096) (good_room room (length ys) (record { limit = small; in_use = l })) (le→leb names 4096 few))
      ∙ cond_yes (well_formed same_value known_value names ys) _ _ f

  comes_entered : (n : Row ℕ) (ns ys zs : List (Row ℕ)) → Comes names room ns ys → entered same_value known_value names room n ys ≡ stored zs → Comes names room (n ∷ ns) zs
  unfolding events after accepted now_stored noted
  comes_entered n ns ys zs c e =
      let a : Accepted same_value symbols known_value names room n ys zs = rw e at (entered_ok same_value symbols known_value names room n ys c.fits c.formed) in
      let i : inserted same_value known_value names room n (after same_value known_value (events names room ns)) ≡ stored zs =
      subst (λ (xs : List (Row ℕ)). inserted same_value known_value names room n xs ≡ stored zs) c.history (entered_here n ys c.formed c.fits ∙ e) in
      record {
        history = sym (ap (now_stored (after same_value known_value (events names room ns))) i);
        each = ap (noted n (accepted same_value known_value (events names room ns))) i ∙ ap (λ (l : List (Row ℕ)). n ∷ l) c.each;
        formed = a.formed;
        fits = a.fits;
      }

  comes_taken : (s : Step (Row ℕ)) (ns ys zs : List (Row ℕ)) → Comes names room ns ys → taken names room s ys ≡ stored zs → Comes names room (asks s ns) zs
  unfolding taken asks
  comes_taken (stop k) ns ys zs c e = absurd (let z : ◌≡◌ {A = ℕ} 0 1 = cc in omega arith)
  comes_taken skip ns ys zs c e = let d : ys ≡ zs = cc in subst (Comes names room ns) d c
  comes_taken (give n) ns ys zs c e = comes_entered n ns ys zs c e

  comes_intervals : (step : Interval → Step (Row ℕ)) (t k : ℕ) (xs : List Interval) (ns ys zs : List (Row ℕ)) → Comes names room ns ys
      → lay_intervals names room step t k xs ys ≡ built zs → Comes names room (intervals_ask step xs ns) zs
  unfolding lay_intervals intervals_ask onward
  comes_intervals step t k [] ns ys zs c e = let d : ys ≡ zs = cc in subst (Comes names room ns) d c
  comes_intervals step t k (x ∷ xs) ns ys zs c e =
      go (λ ws. comes_intervals step t (k + 1) xs (asks (step x) ns) ws zs) (taken names room (step x) ys) refl e
    where
      go : ((ws : List (Row ℕ)) → Comes names room (asks (step x) ns) ws → lay_intervals names room step t (k + 1) xs ws ≡ built zs
          → Comes names room (intervals_ask step xs (asks (step x) ns)) zs)
          → (o : Outcome (Row ℕ)) → taken names room (step x) ys ≡ o → onward t k (lay_intervals names room step t (k + 1) xs) o ≡ built zs
          → Comes names room (intervals_ask step xs (asks (step x) ns)) zs
      go rest (refused_by q) f g = absurd (let z : ◌≡◌ {A = ℕ} 0 1 = cc in omega arith)
      go rest (stored ws) f g = rest ws (comes_taken (step x) ns ys ws c f) g

module _ (room : ℕ) (texts : List (List ℕ)) (few : length texts ≤ 4096) (small : room ≤ 65536) where
  comes_mapping : (d : Direction) (t : ℕ) (m : Mapping) (ns ys zs : List (Row ℕ)) → Comes (length texts) room ns ys
      → lay_mapping room texts d t m ys ≡ built zs → Comes (length texts) room (mapping_asks texts d m ns) zs
  unfolding lay_mapping mapping_asks lay_read read_asks
  comes_mapping Forward t m ns ys zs c e = comes_intervals (length texts) room few small (forward_step texts m.name) t 0 m.intervals ns ys zs c e
  comes_mapping Inverse t m ns ys zs c e = go (and_then (text_of texts m.name) number_in) e
    where
      go : (r : Read ℕ) → lay_read room texts t m.intervals ys r ≡ built zs → Comes (length texts) room (read_asks texts m.intervals r ns) zs
      go (fault q) f = absurd (let z : ◌≡◌ {A = ℕ} 0 1 = cc in omega arith)
      go (value i) f = comes_intervals (length texts) room few small (inverse_step texts i) t 0 m.intervals ns ys zs c f

  comes_mappings : (d : Direction) (t : ℕ) (ms : List Mapping) (ns ys zs : List (Row ℕ)) → Comes (length texts) room ns ys
      → lay_mappings room texts d t ms ys ≡ built zs → Comes (length texts) room (mappings_ask texts d ms ns) zs
  unfolding lay_mappings mappings_ask further
  comes_mappings d t [] ns ys zs c e = let q : ys ≡ zs = cc in subst (Comes (length texts) room ns) q c
  comes_mappings d t (m ∷ ms) ns ys zs c e =
      go (λ ws. comes_mappings d (t + 1) ms (mapping_asks texts d m ns) ws zs) (lay_mapping room texts d t m ys) refl e
    where
      go : ((ws : List (Row ℕ)) → Comes (length texts) room (mapping_asks texts d m ns) ws → lay_mappings room texts d (t + 1) ms ws ≡ built zs
          → Comes (length texts) room (mappings_ask texts d ms (mapping_asks texts d m ns)) zs)
          → (b : Build (Row ℕ)) → lay_mapping room texts d t m ys ≡ b → further (lay_mappings room texts d (t + 1) ms) b ≡ built zs
          → Comes (length texts) room (mappings_ask texts d ms (mapping_asks texts d m ns)) zs
      go rest (stopped q s k) f g = absurd (let z : ◌≡◌ {A = ℕ} 0 1 = cc in omega arith)
      go rest (built ws) f g = rest ws (comes_mapping d t m ns ys ws c f) g

  -- a done build's rows are those after the inserts that its steps ask for, each accepted
  pub built_history : (m : Metadata) (ys : List (Row ℕ)) → over_time room texts m ≡ built ys → Comes (length texts) room (inserts_asked texts m) ys
  unfolding over_time directed inserts_asked directed_asks events after accepted well_formed ordered all_known
  built_history m ys = go (direction_of m.fields)
    where
      go : (r : Read Direction) → directed room texts m.mappings r ≡ built ys → Comes (length texts) room (directed_asks texts m.mappings r) ys
      go (fault q) e = absurd (let z : ◌≡◌ {A = ℕ} 0 1 = cc in omega arith)
      go (value d) e = comes_mappings d 0 m.mappings [] [] ys (record { history = refl; each = refl; formed = tt; fits = omega arith }) e
