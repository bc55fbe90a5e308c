-- The table while the mappings are laid: its entries, and 0 in every other place; what each mapping makes of it. Assumes nothing.
use Rattle.std.proofs.Math.Path.{◌≡◌, sym, ap, subst}
use Rattle.std.specs.Prelude.{refl, Bool, true, false, cond, List, [], ◌∷◌, length, replicate, T, leb, Option, Some, None, Result, Ok, Err}
use Rattle.std.proofs.Common.{◌∙◌, leb-true, leb-false}
use Prim.Native.Nat.{ℕ, suc, ◌+◌, ◌-◌, ◌*◌, ◌/◌, ◌≤◌, ◌<◌}
use native.Mathlib.Omega.{arith}
use Rattle.theory.specs.Answer.{Answer, answer, one_value}
use Rattle.leaves.specs.Refusal.{number_of, refused, answer_with}
use Rattle.leaves.specs.declared.refusal.Refusal.{Refusal}
use Rattle.leaves.specs.declared.refusal.Refusal.TheVariants.{NoRoom}
use Rattle.map_rules.specs.Table.{Outcome, refused_by, stored}
use Rattle.map_point.specs.declared.entries.Entry.{Entry}
use Rattle.map_point.specs.Entries.{entries_from, entries, put_entries}
use Rattle.map_point.specs.EntriesLaws.{length_put_entries}
use Rattle.map_point.specs.Points.{rising, set_entry, has_room, stored_answer, stored_bytes, used_then, entries_then}
use Rattle.map_point.specs.PointsLaws.{set_rising}
use Rattle.map_point.specs.PointsSteps.{Stores}
use Rattle.metadata_rules.specs.Metadata.{Mapping, mapping}
use Rattle.metadata_rules.specs.Words.{name_at, count_at, stretch, mappings_from, before}
use Rattle.metadata_rules.specs.WordsLaws.{before_up}
use Rattle.build_rules.specs.declared.reading.Direction.{Direction}
use Rattle.build_rules.specs.Reading.{fault, value, read_of}
use Rattle.build_rules.specs.ReadingLaws.{refused_read}
use Rattle.metadata_rules.specs.declared.Interval.{Interval}
use Rattle.build_rules.specs.OverTime.{Step, stop, give, step_by, Build, built, build_answer}
use Rattle.build_rules.specs.PointInTime.{point_step, counting, point_taken, pick_mapping, pick_mappings}
use Rattle.build_rules.specs.PointInTimeLaws.{pick_end, pick_stored, pick_refused, pick_is, taken_stop, taken_skip, taken_set, taken_full}
use Rattle.build_rules.specs.PointInTimeLatest.{entries_over, set_longer}

-- a table of this size whose entries in use are sorted, and 0 in every other place
pub record Clean (size : ℕ) (t : List ℕ) (used : ℕ) : Type 0 where
  pub lent : length t ≡ size
  pub fits : used * 8 ≤ length t
  pub sorted : T (rising (entries t used))
  pub bytes : t ≡ put_entries (replicate size 0) 0 (entries t used)

-- a step's outcome: the table's entries, or the refusal's number
abbrev pub Picked : ℕ → Outcome Entry → Result ℕ Refusal → List ℕ → Type 0
Picked size o (Ok used) t = Clean size t used × (o ≡ stored (entries t used))
Picked size o (Err r) t = o ≡ refused_by (number_of r)

-- what the mappings come to
abbrev pub Laid : ℕ → Build Entry → Result ℕ Refusal → List ℕ → Type 0
Laid size b (Ok used) t = Clean size t used × (b ≡ built (entries t used))
Laid size b (Err r) t = build_answer b ≡ answer (number_of r) []

-- ---- one step

-- an entry that was set, in a table of this size
module _ (size : ℕ) (t : List ℕ) (used : ℕ) (clean : Clean size t used) (x : Entry) (t' : List ℕ) where
  abbrev old : List Entry
  old = entries t used

  abbrev out : List Entry
  out = set_entry x old

  set_clean : t' ≡ put_entries t 0 out → entries t' (length out) ≡ out → length out ≤ size / 8 → Clean size t' (length out)
  set_clean p q l =
      let n : length t' ≡ length t = ap length p ∙ length_put_entries t 0 out in
      let e = clean.lent in
      record {
        lent = n ∙ clean.lent;
        fits = omega arith;
        sorted = rw q (set_rising x old clean.sorted);
        bytes =
            p ∙ ap (λ (b : List ℕ). put_entries b 0 out) clean.bytes ∙ entries_over (replicate size 0) old out (set_longer x old)
            ∙ ap (put_entries (replicate size 0) 0) (sym q);
      }

  -- no refusal is done
  never_done : (r : Refusal) (n : ℕ) → refused r ≡ answer 0 (n ∷ []) → ⊥
  unfolding read_of
  never_done r n e =
      let f : fault (number_of r) ≡ value n = sym (refused_read r) ∙ ap read_of e in
      let z : ◌≡◌ {A = ℕ} 0 1 = cc in
      omega arith

  abbrev Stored_so : Bool → Answer → Type 0
  Stored_so b a =
      (a ≡ cond b (answer 0 (length out ∷ [])) (refused NoRoom))
      × ((t' ≡ cond b (put_entries t 0 out) t)
      × (entries t' (cond b (length out) used) ≡ cond b out old))

  took : (b : Bool) → leb (length out) (size / 8) ≡ b → (r : Result ℕ Refusal) → Stored_so b (answer_with one_value r) → Picked size (point_taken (size / 8) (give x) old) r t'
  took true f (Ok k) s =
      let l : length out ≤ size / 8 = leb-true (length out) (size / 8) f in
      let k_is : length out ≡ k = cc in (
        subst (Clean size t') k_is (set_clean s.1.0 s.1.1 l),
        taken_set (size / 8) old x l ∙ ap stored (sym s.1.1 ∙ ap (entries t') k_is),
      )
  took true f (Err r) s = absurd (never_done r (length out) s.0)
  took false f (Ok k) s = let z : ◌≡◌ {A = ℕ} 0 2 = cc in absurd (omega arith)
  took false f (Err r) s =
      let n : 2 ≡ number_of r = cc in
      taken_full (size / 8) old x (leb-false (length out) (size / 8) f) ∙ ap refused_by n

-- a mapping, by what it asks for
module _ (texts : List (List ℕ)) (d : Direction) (day name : ℕ) (xs : List Interval) (t : List ℕ) (used : ℕ) where
  abbrev asked : Step Entry
  asked = point_step texts d name (counting day 0 xs)

  abbrev picks : Outcome Entry
  picks = pick_mapping (length t / 8) texts d day (mapping name xs) (entries t used)

  picks_by : {s : Step Entry} → s ≡ point_step texts d name (counting day 0 xs) → picks ≡ point_taken (length t / 8) s (entries t used)
  picks_by e = pick_is (length t / 8) texts d day (mapping name xs) (entries t used) e

  pub store_stops : (r : Refusal) → stop (number_of r) ≡ point_step texts d name (counting day 0 xs)
      → pick_mapping (length t / 8) texts d day (mapping name xs) (entries t used) ≡ refused_by (number_of r)
  store_stops r e = picks_by e ∙ taken_stop (length t / 8) (entries t used) (number_of r)

  module _ (clean : Clean (length t) t used) (o : Option Entry) (e : step_by (λ x. x) (Ok o) ≡ point_step texts d name (counting day 0 xs)) where
    pub store_skip : o ≡ None → Picked (length t) (pick_mapping (length t / 8) texts d day (mapping name xs) (entries t used)) (Ok used) t
    store_skip h = (clean, picks_by (ap (λ (o : Option Entry). step_by (λ x. x) (Ok o)) (sym h) ∙ e) ∙ taken_skip (length t / 8) (entries t used))

    pub store_set : (x : Entry) → o ≡ Some x → (r : Result ℕ Refusal) (t' : List ℕ) → Stores t used x (answer_with one_value r) t'
        → Picked (length t) (pick_mapping (length t / 8) texts d day (mapping name xs) (entries t used)) r t'
    unfolding stored_answer stored_bytes used_then entries_then has_room
    store_set x h r t' s =
        subst (λ (o : Outcome Entry). Picked (length t) o r t') (sym (picks_by (ap (λ (o : Option Entry). step_by (λ x. x) (Ok o)) (sym h) ∙ e)))
        (took (length t) t used clean x t' (leb (length (set_entry x (entries t used))) (length t / 8)) refl r s)

-- ---- the mappings

-- from the mapping i on, whose intervals begin at `from`, the build comes to what it comes to in all
pub record Going (size : ℕ) (texts : List (List ℕ)) (d : Direction) (day : ℕ) (m v : List ℕ) (count : ℕ) (t : List ℕ) (used from i : ℕ) : Type 0 where
  pub within : i ≤ count
  pub begins : from ≡ before m i
  pub clean : Clean size t used
  pub same : pick_mappings (size / 8) texts d day i (mappings_from m v i from (count - i)) (entries t used) ≡ pick_mappings (size / 8) texts d day 0 (mappings_from m v 0 0 count) []

pub clean_own : {size : ℕ} {t : List ℕ} {used : ℕ} → Clean size t used → Clean (length t) t used
clean_own {size} {t} {used} w = subst (λ (n : ℕ). Clean n t used) (sym w.lent) w

module _ (size : ℕ) (texts : List (List ℕ)) (d : Direction) (day : ℕ) (m v : List ℕ) (count : ℕ) where
  abbrev all : Build Entry
  all = pick_mappings (size / 8) texts d day 0 (mappings_from m v 0 0 count) []

  pub going_start : {t : List ℕ} → Clean size t 0 → Going size texts d day m v count t 0 0 0
  unfolding before entries_from
  going_start {t} w =
      let e : count - 0 ≡ count = omega arith in
      record {
        within = omega arith;
        begins = refl;
        clean = w;
        same = ap (λ (n : ℕ). pick_mappings (size / 8) texts d day 0 (mappings_from m v 0 0 n) []) e;
      }

  module _ {t : List ℕ} {used from i : ℕ} (g : Going size texts d day m v count t used from i) where
    pub going_end : count ≤ i → Clean size t used × (all ≡ built (entries t used))
    unfolding mappings_from
    going_end h =
        let e : count - i ≡ 0 = omega arith in (
          g.clean,
          sym g.same ∙ ap (λ (n : ℕ). pick_mappings (size / 8) texts d day i (mappings_from m v i from n) (entries t used)) e ∙ pick_end (size / 8) texts d day i (entries t used),
        )

    module _ (h : i < count) {n : ℕ} (q : n ≡ count_at m i) where
      pub going_room : 3 * before m count ≤ length v → 3 * (from + n) ≤ length v
      unfolding before
      going_room l =
          let up : before m (suc i) ≤ before m count = before_up m (suc i) count h in
          let b = g.begins in
          omega arith

      module _ {name : ℕ} (p : name ≡ name_at m i) {xs : List Interval} (s : xs ≡ stretch v from n) where
        abbrev rest : List Mapping
        rest = mappings_from m v (i + 1) (from + n) (count - (i + 1))

        left : pick_mappings (size / 8) texts d day i (mapping name xs ∷ rest) (entries t used) ≡ all
        unfolding mappings_from
        left =
            let e : count - i ≡ suc (count - (i + 1)) = omega arith in
            let k = count - (i + 1) in
            ap (λ (l : List Interval). pick_mappings (size / 8) texts d day i (mapping name l ∷ rest) (entries t used)) s
            ∙ ap (λ (c : ℕ). pick_mappings (size / 8) texts d day i (mapping c (stretch v from n) ∷ mappings_from m v (i + 1) (from + n) k) (entries t used)) p
            ∙ ap (λ (c : ℕ). pick_mappings (size / 8) texts d day i (mapping (name_at m i) (stretch v from c) ∷ mappings_from m v (i + 1) (from + c) k) (entries t used)) q
            ∙ sym (ap (λ (c : ℕ). pick_mappings (size / 8) texts d day i (mappings_from m v i from c) (entries t used)) e)
            ∙ g.same

        module _ (r : Result ℕ Refusal) (t' : List ℕ) (o : Picked (length t) (pick_mapping (length t / 8) texts d day (mapping name xs) (entries t used)) r t') where
          own : Picked size (pick_mapping (size / 8) texts d day (mapping name xs) (entries t used)) r t'
          own = subst (λ (n : ℕ). Picked n (pick_mapping (n / 8) texts d day (mapping name xs) (entries t used)) r t') g.clean.lent o

        pub going_refused : (why : Refusal) (t' : List ℕ) → Picked (length t) (pick_mapping (length t / 8) texts d day (mapping name xs) (entries t used)) (Err why) t'
            → build_answer all ≡ answer (number_of why) []
        unfolding build_answer
        going_refused why t' o =
            let f : pick_mapping (size / 8) texts d day (mapping name xs) (entries t used) ≡ refused_by (number_of why) = own (Err why) t' o in
            ap build_answer (sym left ∙ pick_refused (size / 8) texts d day i (mapping name xs) rest (entries t used) f)

        pub going_on : (then : ℕ) (t' : List ℕ) → Picked (length t) (pick_mapping (length t / 8) texts d day (mapping name xs) (entries t used)) (Ok then) t'
            → Going size texts d day m v count t' then (from + n) (i + 1)
        unfolding before
        going_on then t' o =
            let f : Clean size t' then × (pick_mapping (size / 8) texts d day (mapping name xs) (entries t used) ≡ stored (entries t' then)) = own (Ok then) t' o in
            let z : suc i ≡ i + 1 = omega arith in
            let b = g.begins in
            record {
              within = omega arith;
              begins = (let y : from + n ≡ before m i + count_at m i = omega arith in y) ∙ ap (before m) z;
              clean = f.0;
              same = sym (pick_stored (size / 8) texts d day i (mapping name xs) rest (entries t used) f.1) ∙ left;
            }

-- what one mapping comes to, and a turn of the mappings
pub ruleset storing = (store_stops, store_skip, store_set)

pub ruleset going = (clean_own, going_start, going_room, going_refused, going_on, going_end)
