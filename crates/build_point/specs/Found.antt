-- Build at a point in time, then look up: the bytes of a done build read back as its entries and meet the premise of `points::get`, and
-- what that finds for an instrument is the entry that the build set last for it. Assumes nothing.
use Rattle.std.specs.Prelude.{◌≡◌, Bool, false, not, ◌&&◌, ◌||◌, cond, ltb, leb, eqb}
use Rattle.std.proofs.Math.Path.{refl, ap, subst}
use Rattle.std.proofs.Common.{sym, ◌∙◌, arith, le-leb}
use Prim.Native.Nat.{ℕ, ◌/◌, ◌%◌, ◌≤◌, ◌<◌}
use Rattle.std.proofs.Math.Bool.{true, and-eq-true_iff}
use mathlib.Core.List.{List, [], ◌∷◌}
use Rattle.std.proofs.Math.ListN.{length, replicate, length-replicate}
use Rattle.std.proofs.Math.Dec.{T}
use Rattle.std.proofs.Math.Facts.{ltb_yes}
use Rattle.theory.specs.Answer.{Answer, answer}
use Rattle.theory.specs.RunsTools.{T_fst, T_snd, T_right}
use Rattle.leaves_names.specs.Names.{names_of, well_formed as wellFormedNames}
use Rattle.leaves_names.specs.NamesLaws.{memory}
use Rattle.leaves_names.specs.NamesList.{names_length}
use Rattle.map_rules.specs.Table.{room_fits}
use Rattle.map_point.specs.declared.entries.Entry.{Entry}
use Rattle.map_point.specs.Entries.{entries, put_entries}
use Rattle.map_point.specs.EntriesLaws.{AllSmall, entries_put, length_put_entries}
use Rattle.map_point.specs.Points.{rising, all_known, well_formed, symbol_for, points_fit, symbol_answer, point_found}
use Rattle.metadata_form.specs.declared.header.Header.{Header}
use Rattle.metadata_form.specs.Header.{Lists, lengths_of, metadata_of}
use Rattle.build_rules.specs.declared.reading.Direction.{Direction}
use Rattle.build_rules.specs.Reading.{value, day_in, direction_of}
use Rattle.build_rules.specs.OverTime.{Build, stopped, built, build_answer}
use Rattle.build_rules.specs.PointInTime.{point_in_time}
use Rattle.build_rules.specs.PointInTimeLaws.{AllNarrow, Sorted, point_sound}
use Rattle.build_rules.specs.PointInTimeLatest.{settings, point_latest}
use Rattle.build_rules.specs.Call.{build_fits}
use Rattle.build_rules.specs.CallLaws.{fits_facts}
use Rattle.build_point.specs.Build.{point_build, point_in_time_answer, built_memory, point_in_time_memory}

-- entries with known symbols, of instruments of 32 bits, can be read back
all_small : (names : ℕ) (es : List Entry) → names ≤ 4096 → T (all_known names es) → AllNarrow es → AllSmall es
unfolding all_known
all_small names [] h k n = tt
all_small names (e ∷ es) h k n =
    let l : e.symbol < names = ltb_yes (T_fst (ltb e.symbol names) (all_known names es) k) in
    (record { instrument = n.0; symbol = omega arith }, all_small names es h (T_snd (ltb e.symbol names) (all_known names es) k) n.1)

T_both : (a b : Bool) → T a → T b → (a && b) ≡ true
T_both true true s t = refl
T_both true false s t = absurd t
T_both false b s t = absurd s

well : (names : ℕ) (es : List Entry) → T (rising es) → T (all_known names es) → well_formed names es ≡ true
unfolding well_formed
well names es a b = T_both (rising es) (all_known names es) a b

-- a table that may hold none in use may hold as many as its room
more_fit : (size used : ℕ) → points_fit size 0 ≡ true → used ≤ size / 8 → points_fit size used ≡ true
unfolding points_fit room_fits
more_fit size used e h =
    let a = (and-eq-true_iff (eqb (size % 8) 0) (leb (size / 8) 65536 && leb 0 (size / 8))).0 e in
    let b = (and-eq-true_iff (leb (size / 8) 65536) (leb 0 (size / 8))).0 a.1 in
    rw (a.0, b.0, le-leb used (size / 8) h) refl

module _ (size : ℕ) (h : Header) (l : Lists) (bytes ends : List ℕ) (names name_bytes date : ℕ) where
  -- what a done build with so many in use leaves in these bytes
  pub record BuiltThere (u : ℕ) (t : List ℕ) : Type 0 where
    -- the entries are the build's
    pub is : point_in_time (size / 8) (names_of bytes ends names) (metadata_of h l) date ≡ built (entries t u)
    pub fits : points_fit (length t) u ≡ true
    pub formed : well_formed names (entries t u) ≡ true
    pub sorted : T (rising (entries t u))

  -- a done build's bytes
  pub built_there : (u : ℕ) (t : List ℕ) → point_in_time_answer size h l bytes ends names name_bytes date ≡ answer 0 (u ∷ [])
      → t ≡ point_in_time_memory size h l bytes ends names name_bytes date → BuiltThere u t
  unfolding point_in_time_answer point_in_time_memory point_build build_answer built_memory
  built_there u t =
      go (build_fits (points_fit size 0) h (lengths_of l) l.mappings (length bytes) (length ends) names name_bytes) refl (wellFormedNames bytes ends names name_bytes)
      (point_in_time (size / 8) (names_of bytes ends names) (metadata_of h l) date) refl
    where
      there : (es : List Entry) → points_fit size 0 ≡ true → names ≤ 4096 → point_in_time (size / 8) (names_of bytes ends names) (metadata_of h l) date ≡ built es
          → length es ≡ u → t ≡ put_entries (replicate size 0) 0 es → BuiltThere u t
      there es p n z q m =
          let k : length (names_of bytes ends names) ≡ names = names_length bytes ends names in
          let s : Sorted (size / 8) (length (names_of bytes ends names)) es =
          rw z at (point_sound (size / 8) (names_of bytes ends names) (metadata_of h l) date) in
          let f : length es ≤ size / 8 = s.fits in
          let zeros : List ℕ = replicate size 0 in
          let w : length zeros ≡ size = length-replicate size 0 in
          let known : T (all_known names es) = subst (λ (c : ℕ). T (all_known c es)) k s.known in
          let back : entries t u ≡ es = ap (λ (x : List ℕ). entries x u) m ∙ ap (entries (put_entries zeros 0 es)) (sym q)
          ∙ entries_put zeros 0 es (omega arith) (all_small names es n known s.narrow) in
          let long : length t ≡ size = ap length m ∙ length_put_entries zeros 0 es ∙ w in
          record {
            is = z ∙ ap built (sym back);
            fits = ap (λ (c : ℕ). points_fit c u) long ∙ more_fit size u p (omega arith);
            formed = ap (well_formed names) back ∙ well names es s.sorted known;
            sorted = subst (λ (x : List Entry). T (rising x)) (sym back) s.sorted;
          }

      go : (f : Bool) → build_fits (points_fit size 0) h (lengths_of l) l.mappings (length bytes) (length ends) names name_bytes ≡ f → (w : Bool) (b : Build Entry)
          → point_in_time (size / 8) (names_of bytes ends names) (metadata_of h l) date ≡ b
          → build_answer (cond f (cond w b (stopped 14 0 0)) (stopped 15 0 0)) ≡ answer 0 (u ∷ [])
          → t ≡ built_memory size (cond f (cond w b (stopped 14 0 0)) (stopped 15 0 0)) → BuiltThere u t
      go false y w b z e m = absurd (let q : ◌≡◌ {A = ℕ} 15 0 = cc in omega arith)
      go true y false b z e m = absurd (let q : ◌≡◌ {A = ℕ} 14 0 = cc in omega arith)
      go true y true (stopped c s k) z e m = absurd (let q : ◌≡◌ {A = ℕ} 0 1 = cc in omega arith)
      go true y true (built es) z e m =
          let a = fits_facts (points_fit size 0) h (lengths_of l) l.mappings (length bytes) (length ends) names name_bytes y in
          let m' = memory (length bytes) (length ends) names name_bytes a.2 in
          let q : length es ≡ u = cc in
          there es a.0 (omega (arith, m'.held, m'.few)) z q m

  -- THE THEOREM: a lookup in them answers the symbol of the entry that the build set last for the instrument, and nothing where it set none
  pub built_found : (u : ℕ) (t : List ℕ) → point_in_time_answer size h l bytes ends names name_bytes date ≡ answer 0 (u ∷ [])
      → t ≡ point_in_time_memory size h l bytes ends names name_bytes date → {d : Direction} {day : ℕ}
      → direction_of (metadata_of h l).fields ≡ value d → day_in date ≡ value day → (i : ℕ) (a : Answer)
      → (T (not (points_fit (length t) u) || rising (entries t u)) → a ≡ point_found t u i)
      → a ≡ symbol_answer (symbol_for i (settings (names_of bytes ends names) d day (metadata_of h l).mappings []))
  unfolding point_found
  built_found u t e m p q i a f =
      let b = built_there u t e m in
      f (T_right (not (points_fit (length t) u)) (rising (entries t u)) b.sorted)
      ∙ rw b.fits (ap symbol_answer (point_latest (size / 8) (names_of bytes ends names) (metadata_of h l) date p q b.is i))
