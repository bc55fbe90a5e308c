-- The check, row by row: each is non-empty, has a known value, and may stand before the next. Assumes nothing.
use Rattle.std.specs.Prelude.{◌≡◌, ◌≢◌, true, false, not, ◌&&◌, leb, eqb}
use Rattle.std.proofs.Math.Path.{refl, sym, ap}
use Rattle.std.proofs.Common.{◌∙◌, lt→ltb, le→leb}
use Prim.Native.Nat.{ℕ, suc, ◌+◌, ◌-◌, ◌≤◌, ◌<◌}
use native.Mathlib.Omega.{arith}
use Rattle.std.proofs.Math.Bool.{Bool}
use mathlib.Core.List.{List, [], ◌∷◌}
use Rattle.std.proofs.Math.Dec.{ltb, eqb_refl, not_T}
use Rattle.std.proofs.Math.Arith.{le→nltb, lt→nleb}
use Rattle.std.proofs.lemmas.Bool.{not-true, not-false}
use Rattle.std.proofs.Math.Facts.{eqb_yes}
use Rattle.theory.specs.Runs.{meets, apart}
use Rattle.theory.specs.Bools.{T_true, T_false}
use Rattle.theory.specs.RunsTools.{T_and, T_nor_l, Order, less, equal, more, order}
use Rattle.map_rules.specs.Table.{Row, all_known, apart_row, ordered, well_formed}
use Rattle.map_rules.specs.Tests.{apart_lower, apart_higher, apart_own}
use Rattle.map_rules.specs.Memory.{same_value, known_value, row_at, rows_from, rows}
use Rattle.map_rules.specs.Pieces.{symbols}

-- ---- definitions

-- what is asked of a row by itself
unfoldable pub valid : ℕ → Row ℕ → Bool
valid names x = ltb x.start x.end && known_value names x.value

-- and right behind x
unfoldable pub follows : ℕ → Row ℕ → Row ℕ → Bool
unfolding valid
follows names x y = valid names y && apart_row same_value x (y ∷ [])

-- those of the `used` rows from place k on are well-formed
unfoldable pub formed_from : List ℕ → ℕ → ℕ → ℕ → Bool
formed_from t used names k = well_formed same_value known_value names (rows_from t k (used - k))

-- and may stand behind the row before place k
unfoldable pub formed_behind : List ℕ → ℕ → ℕ → ℕ → Bool
formed_behind t used names k = apart_row same_value (row_at t (k - 1)) (rows_from t k (used - k)) && formed_from t used names k

-- the rows before place k are as they should be, the last of them is x, and what is left to check from place k on decides
pub record Sofar (t : List ℕ) (used names k : ℕ) (x : Row ℕ) : Type 0 where
  pub from : 0 < k
  pub upto : k ≤ used
  pub last : x ≡ row_at t (k - 1)
  pub rest : well_formed same_value known_value names (rows t used) ≡ formed_behind t used names k

-- ---- truth values

and_true : (b : Bool) → b && true ≡ b
and_true true = refl
and_true false = refl

-- ---- one row

module _ (names : ℕ) (x : Row ℕ) where
  pub valid_rest : {v : Bool} → x.start < x.end → v ≡ ltb x.value names → v ≡ valid names x
  unfolding valid
  valid_rest h e = e ∙ ap (λ (b : Bool). b && ltb x.value names) (sym (T_true (ltb x.start x.end) (lt→ltb x.start x.end h)))

  pub valid_empty : x.end ≤ x.start → false ≡ valid names x
  unfolding valid
  valid_empty h =
      let a : Bool = ltb x.start x.end in
      let b : Bool = ltb x.value names in
      sym (T_false (a && b) (T_nor_l a b (le→nltb x.start x.end h)))

-- ---- two neighbours

module _ (x y : Row ℕ) where
  pub follow_other : {b : Bool} → x.instrument ≢ y.instrument → b ≡ ltb x.instrument y.instrument → b ≡ apart_row same_value x (y ∷ [])
  follow_other d e = e ∙ go (order x.instrument y.instrument)
    where
      go : Order x.instrument y.instrument → ltb x.instrument y.instrument ≡ apart_row same_value x (y ∷ [])
      go (less h) = T_true _ (lt→ltb x.instrument y.instrument h) ∙ sym (apart_lower same_value symbols x y [] h)
      go (equal h) = absurd (d h)
      go (more h) = T_false _ (le→nltb x.instrument y.instrument (omega arith)) ∙ sym (apart_higher same_value symbols x y [] h)

  module _ (h : x.instrument ≡ y.instrument) where
    one : apart_row same_value x (y ∷ []) ≡ leb x.end y.start && not (eqb x.end y.start && same_value x.value y.value)
    unfolding apart meets
    one = apart_own same_value symbols x y [] h

    pub follow_gap : x.end < y.start → true ≡ apart_row same_value x (y ∷ [])
    follow_gap l =
        let a : Bool = leb x.end y.start in
        let e : Bool = eqb x.end y.start in
        let d : x.end ≢ y.start = omega arith in
        sym (one ∙ T_true _ (T_and a (not (e && same_value x.value y.value)) (le→leb x.end y.start (omega arith))
        (T_nor_l e (same_value x.value y.value) (not_T e (λ t. d (eqb_yes t))))))

    pub follow_overlap : y.start < x.end → false ≡ apart_row same_value x (y ∷ [])
    follow_overlap l =
        let a : Bool = leb x.end y.start in
        sym (one ∙ T_false _ (T_nor_l a (not (eqb x.end y.start && same_value x.value y.value)) (lt→nleb x.end y.start l)))

    pub follow_touch : {p : Bool} → y.start ≤ x.end → x.end ≤ y.start → p ≡ same_value x.value y.value → not p ≡ apart_row same_value x (y ∷ [])
    follow_touch l m e = ap not e ∙ sym (one ∙ (λ i. yes_left i && not (yes_eq i && same_value x.value y.value)))
      where
        yes_left : leb x.end y.start ≡ true
        yes_left = T_true (leb x.end y.start) (le→leb x.end y.start m)

        same : x.end ≡ y.start
        same = omega arith

        yes_eq : eqb x.end y.start ≡ true
        yes_eq = T_true (eqb x.end y.start) (rw same (eqb_refl y.start))

  module _ (names : ℕ) {v : Bool} (e : v ≡ valid names y) where
    pub follows_not : v ≡ false → false ≡ follows names x y
    unfolding follows
    follows_not f = sym (ap (λ (b : Bool). b && apart_row same_value x (y ∷ [])) (sym e ∙ f))

    pub follows_rest : {a : Bool} → v ≡ true → a ≡ apart_row same_value x (y ∷ []) → a ≡ follows names x y
    unfolding follows
    follows_rest f g = g ∙ sym (ap (λ (b : Bool). b && apart_row same_value x (y ∷ [])) (sym e ∙ f))

-- ---- the loop

swap : (a b o k q : Bool) → ((a && b) && o) && (k && q) ≡ (a && k) && (b && (o && q))
swap false b o k q = refl
swap true false o true q = refl
swap true false o false q = refl
swap true true o true q = refl
swap true true true false q = refl
swap true true false false q = refl

formed_cons : (names : ℕ) (x : Row ℕ) (xs : List (Row ℕ))
    → well_formed same_value known_value names (x ∷ xs) ≡ valid names x && (apart_row same_value x xs && well_formed same_value known_value names xs)
unfolding well_formed ordered all_known valid
formed_cons names x xs =
    swap (ltb x.start x.end) (apart_row same_value x xs) (ordered same_value xs) (ltb x.value names) (all_known (known_value names) xs)

turn : (a v r : Bool) → a && (v && r) ≡ (v && a) && r
turn true true r = refl
turn true false r = refl
turn false true r = refl
turn false false r = refl

module _ (t : List ℕ) (used names : ℕ) where
  -- the first row, then each behind the one before it
  cut : (k : ℕ) → k < used → formed_from t used names k ≡ valid names (row_at t k) && formed_behind t used names (k + 1)
  unfolding formed_from formed_behind rows_from
  cut k h =
      let z : used - k ≡ suc (used - (k + 1)) = omega arith in
      let d : suc k ≡ k + 1 = omega arith in
      let q : k ≡ k + 1 - 1 = omega arith in
      ap (λ (n : ℕ). well_formed same_value known_value names (rows_from t k n)) z
      ∙ formed_cons names (row_at t k) (rows_from t (suc k) (used - (k + 1)))
      ∙ (λ i. valid names (row_at t k)
      && (apart_row same_value (row_at t (q i)) (rows_from t (d i) (used - (k + 1))) && well_formed same_value known_value names (rows_from t (d i) (used - (k + 1)))))

  next : (k : ℕ) → k < used → formed_behind t used names k ≡ follows names (row_at t (k - 1)) (row_at t k) && formed_behind t used names (k + 1)
  unfolding formed_behind follows apart_row rows_from
  next k h =
      let z : used - k ≡ suc (used - k - 1) = omega arith in
      let x : Row ℕ = row_at t (k - 1) in
      (λ i. apart_row same_value x (rows_from t k (z i)) && cut k h i)
      ∙ turn (apart_row same_value x (row_at t k ∷ [])) (valid names (row_at t k)) (formed_behind t used names (k + 1))

  all : well_formed same_value known_value names (rows t used) ≡ formed_from t used names 0
  unfolding formed_from
  all = let z : used ≡ used - 0 = omega arith in ap (λ (n : ℕ). well_formed same_value known_value names (rows t n)) z

  ended : (k : ℕ) → used ≤ k → formed_behind t used names k ≡ true
  unfolding formed_behind formed_from well_formed ordered all_known apart_row rows_from
  ended k h =
      let z : used - k ≡ 0 = omega arith in
      ap (λ (n : ℕ). apart_row same_value (row_at t (k - 1)) (rows_from t k n) && well_formed same_value known_value names (rows_from t k n)) z

  pub check_none : used ≡ 0 → true ≡ well_formed same_value known_value names (rows t used)
  unfolding well_formed ordered all_known rows_from
  check_none e = rw e refl

  module _ {x : Row ℕ} {v : Bool} (h : used ≡ 0 → ⊥) (e : x ≡ row_at t 0) (f : v ≡ valid names x) where
    first : well_formed same_value known_value names (rows t used) ≡ v && formed_behind t used names 1
    first = all ∙ cut 0 (omega arith) ∙ ap (λ (b : Bool). b && formed_behind t used names 1) (sym (f ∙ ap (valid names) e))

    pub check_first : not v ≡ false → Sofar t used names 1 x
    check_first g = record {
      from = omega arith;
      upto = omega arith;
      last = e;
      rest = first ∙ ap (λ (b : Bool). b && formed_behind t used names 1) (not-false v g);
    }

    pub check_not : not v ≡ true → false ≡ well_formed same_value known_value names (rows t used)
    check_not g = sym (first ∙ ap (λ (b : Bool). b && formed_behind t used names 1) (not-true v g))

module _ {t : List ℕ} {used names k : ℕ} {x : Row ℕ} (s : Sofar t used names k x) where
  pub check_end : used ≤ k → true ≡ well_formed same_value known_value names (rows t used)
  check_end h = sym (s.rest ∙ ended t used names k h)

  module _ {y : Row ℕ} {b : Bool} (h : k < used) (e : y ≡ row_at t k) (f : b ≡ follows names x y) where
    step : well_formed same_value known_value names (rows t used) ≡ b && formed_behind t used names (k + 1)
    step =
        s.rest ∙ next t used names k h
        ∙ ap (λ (q : Bool). q && formed_behind t used names (k + 1)) (sym (f ∙ (λ i. follows names (s.last i) (e i))))

    pub check_next : not b ≡ false → Sofar t used names (k + 1) y
    check_next g = record {
      from = omega arith;
      upto = omega arith;
      last = e ∙ ap (row_at t) (omega arith);
      rest = step ∙ ap (λ (q : Bool). q && formed_behind t used names (k + 1)) (not-false b g);
    }

    pub check_fails : not b ≡ true → false ≡ well_formed same_value known_value names (rows t used)
    check_fails g = sym (step ∙ ap (λ (q : Bool). q && formed_behind t used names (k + 1)) (not-true b g))

    pub check_last : used ≤ k + 1 → b ≡ well_formed same_value known_value names (rows t used)
    check_last g = sym (step ∙ ap (λ (q : Bool). b && q) (ended t used names (k + 1) g) ∙ and_true b)

-- two rows in a turn
module _ {t : List ℕ} {used names k : ℕ} {x y : Row ℕ} {b : Bool} (s : Sofar t used names k x) (h : k + 1 < used) (e : y ≡ row_at t k)
    (f : b ≡ follows names x y) where
  pub check_one : not b ≡ true → false ≡ well_formed same_value known_value names (rows t used)
  check_one g = check_fails s (omega arith) e f g

  module _ {z : Row ℕ} {d : Bool} (g : not b ≡ false) (e' : z ≡ row_at t (k + 1)) (f' : d ≡ follows names y z) where
    between : Sofar t used names (k + 1) y
    between = check_next s (omega arith) e f g

    pub check_other : not d ≡ true → false ≡ well_formed same_value known_value names (rows t used)
    check_other g' = check_fails between h e' f' g'

    pub check_two : not d ≡ false → Sofar t used names (k + 2) z
    check_two g' = let q : k + 2 ≡ k + 1 + 1 = omega arith in rw q (check_next between h e' f' g')
