-- What the loops of a comparison keep, and which outcome it has by its tests. Assumes nothing.
use Rattle.std.specs.Prelude.{◌≡◌, ℕ, ◌+◌, ◌*◌, ◌/◌, ◌%◌, ◌≤◌, ◌<◌, Bool, true, false, not, ◌&&◌, cond, List, [], ◌∷◌, length, Result, Ok, Err, IsErrAnd, Option, Some, None}
use Rattle.std.proofs.Math.Path.{refl, sym, ap}
use Rattle.std.proofs.Common.{◌∙◌, arith}
use Rattle.std.proofs.Math.Dec.{eqb}
use Rattle.theory.specs.Bools.{both, true_T, false_T, fails, holds}
use Rattle.theory.specs.Answer.{Answer, answer}
use Rattle.theory.specs.RunsTools.{cond_yes, cond_no, cond_lt, cond_ge}
use Rattle.map_rules.specs.Table.{Row, refused_by, if_room, names_fit, well_formed}
use Rattle.map_rules.specs.Memory.{same_value, known_value, width, rows, table_fits}
use Rattle.map_rules.specs.MemoryLaws.{length_rows}
use Rattle.map_rules.specs.Outcomes.{Lent, table_lent, checked_ordered}
use Rattle.map_compare_rules.specs.Compare.{Difference, Stretches}
use Rattle.map_compare_rules.specs.Laws.{compared_length}
use Rattle.map_compare_rules.specs.Memory.{Value, nothing, symbol_in, stretch_width, put_stretch, compare_fits, both_formed, stretches_of, compare_outcome, compared_answer, compared_memory, Compares, lay_stretches}
use Rattle.map_compare_rules.specs.MemoryLaws.{length_put_stretch, lay_memory}
use Rattle.map_compare.specs.Compare.{tables_answer, Holds, Needed}
use Rattle.map_compare_walk.specs.declared.tables.Tables.{Tables}
use Rattle.std.specs.Option.{unwrap_or}
use Rattle.map_compare_walk.specs.Walk.{InOrder, said}
use Rattle.leaves.specs.declared.refusal.Refusal.{Refusal}
use Rattle.leaves.specs.Refusal.{refused, answer_with}
use Rattle.leaves.specs.RefusalLaws.{refused_not_done}

-- ---- the room

-- two places an interval suffice, and a count tells exactly
pub needed_none : (left : List ℕ) (n : ℕ) (right : List ℕ) (m room : ℕ) → 2 * (n + m) ≤ room → Needed 0 room (length (stretches_of left n right m))
needed_none left n right m room h = record {
  fits = λ k. omega (arith, compared_length same_value (rows left n) (rows right m), length_rows left 0 n, length_rows right 0 m);
  over = λ k. absurd (omega arith);
}

pub needed_counted : {r room many : ℕ} → r ≡ many → Needed r room many
needed_counted e = record { fits = λ k. omega arith; over = λ k. omega arith }

-- ---- the list

-- a side in bytes
pub symbol_said : (o : Option ℕ) → unwrap_or o nothing ≡ symbol_in (said o)
unfolding symbol_in
symbol_said None = refl
symbol_said (Some v) = refl

-- so many were laid, and with those to come they are the whole list
pub record Laying (all : Stretches Value) (t₀ t : List ℕ) (i : ℕ) (ds : Stretches Value) : Type 0 where
  pub sum : i + length ds ≡ length all
  pub kept : length t ≡ length t₀
  pub laid : lay_stretches t i ds ≡ lay_stretches t₀ 0 all

pub lay_start : {all ds : Stretches Value} (t : List ℕ) → ds ≡ all → Laying all t t 0 ds
lay_start t e = record { sum = omega (arith, ap length e); kept = refl; laid = ap (lay_stretches t 0) e }

module _ {all : Stretches Value} {t₀ t : List ℕ} {i : ℕ} {ds : Stretches Value} (w : Laying all t₀ t i ds) where
  pub lay_on : {d : Row (Difference Value)} {es : Stretches Value} → ds ≡ d ∷ es → Laying all t₀ (put_stretch t i d) (i + 1) es
  unfolding lay_stretches
  lay_on {d} e = record {
    sum = omega (arith, w.sum, ap length e);
    kept = length_put_stretch t i d ∙ w.kept;
    laid = sym (ap (lay_stretches t i) e) ∙ w.laid;
  }

  -- there is room for the next one
  pub lay_room : {d : Row (Difference Value)} {es : Stretches Value} → ds ≡ d ∷ es → length all * stretch_width ≤ length t₀
      → i * stretch_width + stretch_width ≤ length t
  lay_room e h = omega (arith, w.sum, w.kept, ap length e)

  pub lay_end : ds ≡ [] → t ≡ lay_stretches t₀ 0 all
  unfolding lay_stretches
  lay_end e = sym (ap (lay_stretches t i) e) ∙ w.laid

-- ---- 15 and 14

module _ (left n right m names long : ℕ) where
  -- what the first table's memory gives, the second's, and the list's
  pub unfit_left : {a : Bool} → a ≡ table_fits left n && names_fit names → a ≡ false → false ≡ compare_fits left n right m names long
  unfolding compare_fits
  unfit_left e h = sym (ap (λ (b : Bool). b && ((table_fits right m && names_fit names) && eqb (long % stretch_width) 0)) (sym e ∙ h))

  pub unfit_right : {a b : Bool} → a ≡ table_fits left n && names_fit names → a ≡ true → b ≡ table_fits right m && names_fit names → b ≡ false
      → false ≡ compare_fits left n right m names long
  unfolding compare_fits
  unfit_right e h f k = sym (λ i. (sym e ∙ h) i && ((sym f ∙ k) i && eqb (long % stretch_width) 0))

  pub fit_rest : {a b c : Bool} → a ≡ table_fits left n && names_fit names → a ≡ true → b ≡ table_fits right m && names_fit names → b ≡ true
      → c ≡ eqb (long % stretch_width) 0 → c ≡ compare_fits left n right m names long
  unfolding compare_fits
  fit_rest e h f k g = g ∙ sym (λ i. (sym e ∙ h) i && ((sym f ∙ k) i && eqb (long % stretch_width) 0))

-- what the tables that passed disagree in
pub holds_stretches : {left : List ℕ} {n : ℕ} {right : List ℕ} {m : ℕ} {t : Tables} → Holds left n right m t
    → stretches_of t.left.now t.left_used t.right.now t.right_used ≡ stretches_of left n right m
holds_stretches w = λ i. stretches_of (w.left_same i) (w.left_used i) (w.right_same i) (w.right_used i)

-- what good memory is, as numbers
pub record Lends (left n right m long : ℕ) : Type 0 where
  pub left_fits : n * width ≤ left
  pub right_fits : m * width ≤ right
  pub left_few : n ≤ 65536
  pub right_few : m ≤ 65536

pub lends : (left n right m names long : ℕ) {b : Bool} → b ≡ compare_fits left n right m names long → not b ≡ false → Lends left n right m long
unfolding compare_fits
lends left n right m names long e h =
    let p = both (table_fits left n && names_fit names) ((table_fits right m && names_fit names) && eqb (long % stretch_width) 0) (holds e h) in
    let q = both (table_fits right m && names_fit names) (eqb (long % stretch_width) 0) p.1 in
    let l : Lent left n = table_lent left n (both (table_fits left n) (names_fit names) p.0).0 in
    let r : Lent right m = table_lent right m (both (table_fits right m) (names_fit names) q.0).0 in
    record {
      left_fits = omega (arith, l.whole, l.in_use);
      right_fits = omega (arith, r.whole, r.in_use);
      left_few = omega (arith, l.limit, l.in_use);
      right_few = omega (arith, r.limit, r.in_use);
    }

module _ (left : List ℕ) (n : ℕ) (right : List ℕ) (m names : ℕ) where
  pub formed_both : {a b : Bool} → a ≡ well_formed same_value known_value names (rows left n) → a ≡ true
      → b ≡ well_formed same_value known_value names (rows right m) → b ≡ both_formed left n right m names
  unfolding both_formed
  formed_both e h f = f ∙ ap (λ (a : Bool). a && well_formed same_value known_value names (rows right m)) (sym (sym e ∙ h))

  pub formed_not : {a : Bool} → a ≡ well_formed same_value known_value names (rows left n) → a ≡ false → false ≡ both_formed left n right m names
  unfolding both_formed
  formed_not e h = ap (λ (a : Bool). a && well_formed same_value known_value names (rows right m)) (sym (sym e ∙ h))

  -- two tables that passed are in order
  pub formed_order : {b : Bool} {long : ℕ} → Lends (length left) n (length right) m long → b ≡ both_formed left n right m names → b ≡ true → InOrder left n right m
  unfolding both_formed
  formed_order w e h =
      let p = both (well_formed same_value known_value names (rows left n)) (well_formed same_value known_value names (rows right m)) (sym e ∙ h) in
      record {
        left_fits = w.left_fits;
        right_fits = w.right_fits;
        left_few = w.left_few;
        right_few = w.right_few;
        left_order = checked_ordered left n names refl p.0;
        right_order = checked_ordered right m names refl p.1;
      }

  module _ (t : List ℕ) where
    abbrev number : Answer → ℕ
    number (answer c vs) = c

    -- a refusal of the tables is the call's
    pub compared_refused : (r : Refusal) → refused r ≡ tables_answer left n right m names (length t)
        → Compares (compare_outcome left n right m names t) t (refused r) t
    unfolding tables_answer compare_outcome compared_answer compared_memory
    compared_refused r e = go (compare_fits (length left) n (length right) m names (length t)) (both_formed left n right m names) e
      where
        go : (b f : Bool) → refused r ≡ cond b (cond f (answer 0 []) (answer 14 [])) (answer 15 [])
            → Compares (cond b (cond f (if_room (length t / stretch_width) (stretches_of left n right m)) (refused_by 14)) (refused_by 15)) t (refused r) t
        go true true q = absurd (refused_not_done r (ap number q))
        go true false q = record { answers = q; memory = refl }
        go false f q = record { answers = q; memory = refl }

    -- so is it as a result with another value
    pub compared_err : {X : Type 0} (f : X → List ℕ) (x : Result X Refusal) (r : Refusal) → IsErrAnd x (λ s. s ≡ r)
        → refused r ≡ tables_answer left n right m names (length t) → Compares (compare_outcome left n right m names t) t (answer_with f x) t
    compared_err f (Ok v) r h e = absurd h
    compared_err f (Err s) r h e = rw h (compared_refused r e)

    -- tables that pass leave the room to judge
    passes : answer 0 [] ≡ tables_answer left n right m names (length t)
        → compare_outcome left n right m names t ≡ if_room (length t / stretch_width) (stretches_of left n right m)
    unfolding tables_answer compare_outcome
    passes e = go (compare_fits (length left) n (length right) m names (length t)) (both_formed left n right m names) e
      where
        go : (b f : Bool) → answer 0 [] ≡ cond b (cond f (answer 0 []) (answer 14 [])) (answer 15 [])
            → cond b (cond f (if_room (length t / stretch_width) (stretches_of left n right m)) (refused_by 14)) (refused_by 15)
            ≡ if_room (length t / stretch_width) (stretches_of left n right m)
        go true true q = refl
        go true false q = absurd (let z : ◌≡◌ {A = ℕ} 0 14 = ap number q in omega arith)
        go false f q = absurd (let z : ◌≡◌ {A = ℕ} 0 15 = ap number q in omega arith)

    module _ (e : answer 0 [] ≡ tables_answer left n right m names (length t)) where
      pub compared_no_room : length t / stretch_width < length (stretches_of left n right m) → Compares (compare_outcome left n right m names t) t (answer 2 []) t
      unfolding if_room compared_answer compared_memory
      compared_no_room l =
          rw (passes e ∙ cond_lt (length t / stretch_width) (length (stretches_of left n right m)) _ _ l) (record { answers = refl; memory = refl })

      pub compared_done : {total : ℕ} {t' : List ℕ} → total ≡ length (stretches_of left n right m) → total ≤ length t / stretch_width
          → t' ≡ lay_stretches t 0 (stretches_of left n right m) → Compares (compare_outcome left n right m names t) t (answer 0 (total ∷ [])) t'
      unfolding if_room compared_answer compared_memory
      compared_done g l q =
          rw (passes e ∙ cond_ge (length t / stretch_width) (length (stretches_of left n right m)) _ _ (omega arith))
          (record { answers = ap (λ (c : ℕ). answer 0 (c ∷ [])) g; memory = q ∙ lay_memory t (stretches_of left n right m) (omega arith) })

  -- the check's answer by its tests
  module _ (long : ℕ) where
    pub tables_unfit : {b : Bool} → b ≡ compare_fits (length left) n (length right) m names long → not b ≡ true
        → answer 15 [] ≡ tables_answer left n right m names long
    unfolding tables_answer
    tables_unfit e h = sym (cond_no (compare_fits (length left) n (length right) m names long) _ _ (false_T _ (fails e h)))

    module _ {b c : Bool} (e : b ≡ compare_fits (length left) n (length right) m names long) (h : not b ≡ false) (f : c ≡ both_formed left n right m names) where
      fitting : tables_answer left n right m names long ≡ cond (both_formed left n right m names) (answer 0 []) (answer 14 [])
      unfolding tables_answer
      fitting = cond_yes (compare_fits (length left) n (length right) m names long) _ _ (true_T _ (holds e h))

      pub tables_ill : not c ≡ true → answer 14 [] ≡ tables_answer left n right m names long
      tables_ill k = sym (fitting ∙ cond_no (both_formed left n right m names) _ _ (false_T _ (fails f k)))

      pub tables_fine : not c ≡ false → answer 0 [] ≡ tables_answer left n right m names long
      tables_fine k = sym (fitting ∙ cond_yes (both_formed left n right m names) _ _ (true_T _ (holds f k)))
