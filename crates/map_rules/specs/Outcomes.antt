-- Which outcome an insert into lent memory has, by its tests: 15, 14, 1, start = end, 3, 2. Assumes nothing.
use Rattle.std.specs.Prelude.{◌≡◌, ◌≢◌, ℕ, ◌*◌, ◌/◌, ◌%◌, ◌≤◌, ◌<◌, Bool, not, ◌&&◌, List, [], ◌∷◌}
use Rattle.std.proofs.Math.Path.{refl, sym, ap}
use Rattle.std.proofs.Common.{◌∙◌}
use Rattle.std.proofs.Math.Decide.{dec_le}
use native.Mathlib.Omega.{arith}
use Rattle.std.proofs.Math.Bool.{true, false, cond}
use Rattle.std.proofs.Math.ListN.{length}
use Rattle.std.proofs.Math.Dec.{T, leb, eqb, eqb_refl, not_T}
use Rattle.std.proofs.Math.Arith.{lt→nleb}
use borrow.Author.Tests.{le-leb, eq-eqb, eqb-true}
use Rattle.std.proofs.Math.Facts.{eqb_yes}
use Rattle.theory.specs.Bools.{both, true_T, false_T, T_true, T_false, fails, holds}
use Rattle.theory.specs.Answer.{Answer, answer}
use Rattle.theory.specs.Fields.{Bytes}
use Rattle.theory.specs.RunsTools.{cond_lt, cond_ge, cond_yes, cond_no, T_and}
use Rattle.map_rules.specs.Table.{Row, Ordered, Outcome, refused_by, stored, now_stored, if_room, room_fits, names_fit, well_formed, insert_rows, entered, inserted}
use Rattle.map_rules.specs.Tests.{Good, room_good, good_room, formed_parts}
use Rattle.map_rules.specs.Memory.{width, same_value, known_value, rows, table_fits, insert_outcome, check_answer, memory_after, outcome_answer, used_after, Gives}
use Rattle.map_rules.specs.MemoryLaws.{length_rows, written_same}
use Rattle.map_rules.specs.Pieces.{symbols}

-- ---- the memory

and_false : (a b : Bool) → a ≡ false → false ≡ a && b
and_false a b e = rw e refl

-- what a table's memory is where it fits, as numbers
pub record Lent (long used : ℕ) : Type 0 where
  pub whole : long ≡ long / width * width
  pub even : long % width ≡ 0
  pub limit : long / width ≤ 65536
  pub in_use : used ≤ long / width

pub table_lent : (long used : ℕ) → table_fits long used ≡ true → Lent long used
unfolding table_fits
table_lent long used e =
    let p : (eqb (long % width) 0 ≡ true) × (room_fits (long / width) used ≡ true) = both (eqb (long % width) 0) (room_fits (long / width) used) e in
    let z : long % width ≡ 0 = eqb-true (long % width) 0 p.0 in
    let g : Good (long / width) used = room_good (long / width) used (true_T (room_fits (long / width) used) p.1) in
    record { whole = omega arith; even = z; limit = g.limit; in_use = g.in_use }

-- the tests of the code: nothing is divided but the length, for its remainder
module _ (long used : ℕ) where
  unfit : (Lent long used → ⊥) → false ≡ table_fits long used
  unfit f = go (table_fits long used) (table_lent long used)
    where
      go : (b : Bool) → (b ≡ true → Lent long used) → false ≡ b
      go true g = absurd (f (g refl))
      go false g = refl

  pub table_many : 65536 < used → false ≡ table_fits long used
  table_many h = unfit (λ l. omega (arith, l.limit, l.in_use))

  pub table_long : 1572864 < long → false ≡ table_fits long used
  table_long h = unfit (λ l. omega (arith, l.whole, l.limit))

  pub table_odd : long % width ≢ 0 → false ≡ table_fits long used
  table_odd h = unfit (λ l. h l.even)

  pub table_rest : long ≤ 1572864 → long % width ≡ 0 → leb (used * width) long ≡ table_fits long used
  unfolding table_fits
  table_rest h k = go (dec_le (used * width) long)
    where
      go : Dec (used * width ≤ long) → leb (used * width) long ≡ table_fits long used
      go (yes l) =
          let g : T (room_fits (long / width) used) = good_room (long / width) used (record { limit = omega arith; in_use = omega arith }) in
          le-leb (used * width) long l ∙ sym (λ i. eq-eqb (long % width) 0 k i && T_true (room_fits (long / width) used) g i)
      go (no l) = T_false (leb (used * width) long) (lt→nleb (used * width) long (omega arith)) ∙ unfit (λ l'. omega (arith, l'.whole, l'.in_use))

-- with the names
module _ (long used names : ℕ) where
  pub memory_not : {b : Bool} → b ≡ table_fits long used → b ≡ false → false ≡ table_fits long used && names_fit names
  memory_not e f = and_false (table_fits long used) (names_fit names) (sym e ∙ f)

  pub memory_rest : {b : Bool} → b ≡ table_fits long used → b ≡ true → leb names 4096 ≡ table_fits long used && names_fit names
  unfolding names_fit
  memory_rest e f = sym (ap (λ (c : Bool). c && leb names 4096) (sym e ∙ f))

  pub memory_lent : {b : Bool} → b ≡ table_fits long used && names_fit names → not b ≡ false → Lent long used
  memory_lent e f = table_lent long used (both (table_fits long used) (names_fit names) (holds e f)).0

  -- what the code asks of it
  pub memory_holds : {b : Bool} → b ≡ table_fits long used && names_fit names → not b ≡ false → used * width ≤ long
  memory_holds e f = let l : Lent long used = memory_lent e f in omega (arith, l.whole, l.in_use)

  pub memory_whole : {b : Bool} → b ≡ table_fits long used && names_fit names → not b ≡ false → long ≡ long / width * width
  memory_whole e f = (memory_lent e f).whole

  pub memory_use : {b : Bool} → b ≡ table_fits long used && names_fit names → not b ≡ false → used ≤ long / width
  memory_use e f = (memory_lent e f).in_use

-- ---- the check

module _ (t : List ℕ) (used names : ℕ) where
  pub checked_unfit : {b : Bool} → b ≡ table_fits (length t) used && names_fit names → not b ≡ true → answer 15 [] ≡ check_answer t used names
  unfolding check_answer
  checked_unfit e f = sym (cond_no (table_fits (length t) used && names_fit names) _ _ (false_T _ (fails e f)))

  checked_on : {b : Bool} → b ≡ table_fits (length t) used && names_fit names → not b ≡ false
      → check_answer t used names ≡ cond (well_formed same_value known_value names (rows t used)) (answer 0 []) (answer 14 [])
  unfolding check_answer
  checked_on e f = cond_yes (table_fits (length t) used && names_fit names) _ _ (true_T _ (holds e f))

  pub checked_yes : {b w : Bool} → b ≡ table_fits (length t) used && names_fit names → not b ≡ false
      → w ≡ well_formed same_value known_value names (rows t used) → w ≡ true → answer 0 [] ≡ check_answer t used names
  checked_yes e f g h = sym (checked_on e f ∙ ap (λ (b : Bool). cond b (answer 0 []) (answer 14 [])) (sym g ∙ h))

  pub checked_no : {b w : Bool} → b ≡ table_fits (length t) used && names_fit names → not b ≡ false
      → w ≡ well_formed same_value known_value names (rows t used) → w ≡ false → answer 14 [] ≡ check_answer t used names
  checked_no e f g h = sym (checked_on e f ∙ ap (λ (b : Bool). cond b (answer 0 []) (answer 14 [])) (sym g ∙ h))

  pub checked_ordered : {w : Bool} → w ≡ well_formed same_value known_value names (rows t used) → w ≡ true → Ordered (rows t used)
  checked_ordered g h = (formed_parts same_value symbols known_value names (rows t used) (rw (sym g ∙ h) tt)).0

-- what the check's answer tells: it is 0 [] for a table that fits and is well-formed, and for no other
pub record Passed (t : List ℕ) (used names : ℕ) : Type 0 where
  pub fits : table_fits (length t) used && names_fit names ≡ true
  pub formed : well_formed same_value known_value names (rows t used) ≡ true

module _ (t : List ℕ) (used names : ℕ) where
  -- by the two tests
  pub check_cases : (P : Answer → Type 0) → (table_fits (length t) used && names_fit names ≡ false → P (answer 15 []))
      → (table_fits (length t) used && names_fit names ≡ true → well_formed same_value known_value names (rows t used) ≡ false → P (answer 14 []))
      → (Passed t used names → P (answer 0 [])) → P (check_answer t used names)
  unfolding check_answer
  check_cases P unfit ill passed = go (table_fits (length t) used && names_fit names) (well_formed same_value known_value names (rows t used)) refl refl
    where
      go : (b w : Bool) → table_fits (length t) used && names_fit names ≡ b → well_formed same_value known_value names (rows t used) ≡ w
          → P (cond b (cond w (answer 0 []) (answer 14 [])) (answer 15 []))
      go false w e f = unfit e
      go true false e f = ill e f
      go true true e f = passed (record { fits = e; formed = f })

  pub check_passed : answer 0 [] ≡ check_answer t used names → Passed t used names
  check_passed = check_cases (λ a. answer 0 [] ≡ a → Passed t used names)
      (λ f e. let z : ◌≡◌ {A = ℕ} 0 15 = cc in absurd (omega arith))
      (λ f g e. let z : ◌≡◌ {A = ℕ} 0 14 = cc in absurd (omega arith))
      (λ p e. p)

  module _ (p : Passed t used names) where
    not_unfit : not (table_fits (length t) used && names_fit names) ≡ false
    not_unfit = ap not p.fits

    -- what an insert asks of the table
    pub passed_table : (length t ≡ length t / width * width) × (used ≤ length t / width) × Ordered (rows t used)
    passed_table = (memory_whole (length t) used names refl not_unfit, memory_use (length t) used names refl not_unfit, checked_ordered t used names refl p.formed)

-- ---- the insert

-- a refusal leaves all as it was
refusal : (o : Outcome (Row ℕ)) (t : List ℕ) (used c : ℕ) → o ≡ refused_by c → Gives o t used (answer c []) t
unfolding outcome_answer memory_after used_after now_stored
refusal o t used c e = rw e (record { answers = refl; memory = refl; holds = refl })

module _ (t : List ℕ) (used names : ℕ) (n : Row ℕ) where
  abbrev o : Outcome (Row ℕ)
  o = entered same_value known_value names (length t / width) n (rows t used)

  pub entered_back : n.end < n.start → Gives (entered same_value known_value names (length t / width) n (rows t used)) t used (answer 1 []) t
  unfolding entered
  entered_back h = refusal o t used 1 (cond_lt n.end n.start _ _ h)

  past : n.start ≤ n.end → o ≡ cond (eqb n.start n.end) (stored (rows t used))
      (cond (known_value names n.value) (if_room (length t / width) (insert_rows same_value n (rows t used))) (refused_by 3))
  unfolding entered
  past h = cond_ge n.end n.start _ _ h

  pub entered_empty : n.start ≤ n.end → n.end ≤ n.start → Bytes t → length t ≡ length t / width * width → used ≤ length t / width
      → Gives (entered same_value known_value names (length t / width) n (rows t used)) t used (answer 0 (used ∷ [])) t
  unfolding outcome_answer memory_after used_after now_stored
  entered_empty h k b l u =
      let e : n.start ≡ n.end = omega arith in
      let m : length (rows t used) ≡ used = length_rows t 0 used in
      let d : o ≡ stored (rows t used) = past h ∙ cond_yes (eqb n.start n.end) _ _ (rw e (eqb_refl n.end)) in
      rw d (record {
        answers = ap (λ (c : ℕ). answer 0 (c ∷ [])) (sym m);
        memory = written_same t (length t / width) used b l u;
        holds = ap (λ (c : ℕ). rows t c) m;
      })

  on : n.start < n.end → o ≡ cond (known_value names n.value) (if_room (length t / width) (insert_rows same_value n (rows t used))) (refused_by 3)
  on h =
      let d : n.start ≢ n.end = omega arith in
      past (omega arith) ∙ cond_no (eqb n.start n.end) _ _ (not_T (eqb n.start n.end) (λ t. d (eqb_yes t)))

  pub entered_unknown : n.start < n.end → names ≤ n.value
      → Gives (entered same_value known_value names (length t / width) n (rows t used)) t used (answer 3 []) t
  entered_unknown h k = refusal o t used 3 (on h ∙ cond_ge n.value names _ _ k)

  pub entered_placed : {a : Answer} {t' : List ℕ} → n.start < n.end → n.value < names
      → Gives (if_room (length t / width) (insert_rows same_value n (rows t used))) t used a t'
      → Gives (entered same_value known_value names (length t / width) n (rows t used)) t used a t'
  entered_placed h k g = rw (on h ∙ cond_lt n.value names _ _ k) g

  -- the whole, in order
  abbrev i : Outcome (Row ℕ)
  i = insert_outcome t used names n

  same_room : room_fits (length t / width) (length (rows t used)) ≡ room_fits (length t / width) used
  same_room = ap (λ (c : ℕ). room_fits (length t / width) c) (length_rows t 0 used)

  pub inserted_unfit : {b : Bool} → b ≡ table_fits (length t) used && names_fit names → not b ≡ true → Gives (insert_outcome t used names n) t used (answer 15 []) t
  unfolding insert_outcome table_fits inserted
  inserted_unfit e f = refusal i t used 15 (go (eqb (length t % width) 0) refl (fails e f))
    where
      go : (p : Bool) → eqb (length t % width) 0 ≡ p → table_fits (length t) used && names_fit names ≡ false → i ≡ refused_by 15
      go true d c =
          ap (λ (q : Bool). cond q (inserted same_value known_value names (length t / width) n (rows t used)) (refused_by 15)) d
          ∙ cond_no (room_fits (length t / width) (length (rows t used)) && names_fit names) _ _
          (false_T _ (ap (λ (q : Bool). q && names_fit names) same_room ∙ sym (ap (λ (q : Bool). (q && room_fits (length t / width) used) && names_fit names) d) ∙ c))
      go false d c = ap (λ (q : Bool). cond q (inserted same_value known_value names (length t / width) n (rows t used)) (refused_by 15)) d

  fit : {b : Bool} → b ≡ table_fits (length t) used && names_fit names → not b ≡ false
      → i ≡ cond (well_formed same_value known_value names (rows t used)) (entered same_value known_value names (length t / width) n (rows t used)) (refused_by 14)
  unfolding insert_outcome inserted
  fit e f =
      let p : (table_fits (length t) used ≡ true) × (names_fit names ≡ true) = both (table_fits (length t) used) (names_fit names) (holds e f) in
      let l : Lent (length t) used = table_lent (length t) used p.0 in
      let g : T (room_fits (length t / width) used) = good_room (length t / width) used (record { limit = l.limit; in_use = l.in_use }) in
      ap (λ (q : Bool). cond q (inserted same_value known_value names (length t / width) n (rows t used)) (refused_by 15)) (eq-eqb (length t % width) 0 l.even)
      ∙ cond_yes (room_fits (length t / width) (length (rows t used)) && names_fit names) _ _
      (rw (same_room, p.1) (T_and (room_fits (length t / width) used) true g tt))

  pub inserted_ill : {b w : Bool} → b ≡ table_fits (length t) used && names_fit names → not b ≡ false
      → w ≡ well_formed same_value known_value names (rows t used) → w ≡ false → Gives (insert_outcome t used names n) t used (answer 14 []) t
  inserted_ill e f g h = refusal i t used 14 (fit e f ∙ cond_no (well_formed same_value known_value names (rows t used)) _ _ (rw (sym g ∙ h) tt))

  pub inserted_enters : {b w : Bool} {a : Answer} {t' : List ℕ} → b ≡ table_fits (length t) used && names_fit names → not b ≡ false
      → w ≡ well_formed same_value known_value names (rows t used) → w ≡ true
      → Gives (entered same_value known_value names (length t / width) n (rows t used)) t used a t'
      → Gives (insert_outcome t used names n) t used a t'
  inserted_enters e f g h k = rw (fit e f ∙ cond_yes (well_formed same_value known_value names (rows t used)) _ _ (rw (sym g ∙ h) tt)) k

  -- by the check's answer
  pub inserted_refused : {a : Answer} → (a ≡ answer 0 [] → ⊥) → a ≡ check_answer t used names → Gives (insert_outcome t used names n) t used a t
  inserted_refused {a} d e = check_cases t used names (λ b. a ≡ b → Gives (insert_outcome t used names n) t used a t)
      (λ f g. rw g (inserted_unfit refl (ap not f)))
      (λ f w g. rw g (inserted_ill refl (ap not f) refl w))
      (λ p g. absurd (d g))
      e

  pub inserted_passed : {a : Answer} {t' : List ℕ} → Passed t used names
      → Gives (entered same_value known_value names (length t / width) n (rows t used)) t used a t'
      → Gives (insert_outcome t used names n) t used a t'
  inserted_passed p k = inserted_enters refl (ap not p.fits) refl p.formed k
