-- The place of a number among the arrivals, the marks that find it, and adding one more. Assumes nothing.
use Rattle.std.specs.Prelude.{◌≡◌, refl, ◌≢◌, cond, set, take, replicate, eqb, ltb}
use Rattle.std.proofs.Math.Path.{sym, ap}
use Rattle.std.proofs.Common.{◌∙◌, subst, arith, length-append, lt-ltb, le-ltb}
use Prim.Native.Nat.{ℕ, zero, suc, ◌+◌, ◌-◌, ◌≤◌, ◌<◌}
use Rattle.std.proofs.Math.Decide.{dec_le, ℕ_discrete}
use Rattle.std.proofs.Math.Numerals.{add-one}
use mathlib.Core.List.{List, [], ◌∷◌, ◌++◌}
use Rattle.std.proofs.Math.ListN.{length, get_or, length-set}
use Rattle.std.proofs.lemmas.List.{length-replicate, get_or-replicate}
use lib.Seq.{get_or-set_same, get_or-set_other, take-suc, take-suc-set, length-take-le, set_out}
use Rattle.metadata_rules.specs.Cases.{eqb_case, cond_eq, cond_ne}
use Rattle.metadata_rules.specs.Metadata.{add, add_all}
use Rattle.metadata_rules.specs.Names.{add_all_append}

-- the first place of x, or the length
unfoldable pub index_of : List ℕ → ℕ → ℕ
index_of [] x = 0
index_of (y ∷ ys) x = cond (eqb y x) 0 (suc (index_of ys x))

-- the mark of x: its first place, from 1; 0 for none
unfoldable pub mark_of : List ℕ → ℕ → ℕ
unfolding index_of
mark_of ys x = cond (ltb (index_of ys x) (length ys)) (suc (index_of ys x)) 0

-- `at` has the mark of each number that it has a place for
unfoldable pub Marked : List ℕ → List ℕ → Type 0
unfolding mark_of
Marked at ys = (x : ℕ) → x < length at → get_or at x 0 ≡ mark_of ys x

-- x joined ys: its place, how many there are, where they stand, and their marks
pub record IsAdded (ys : List ℕ) (x place count : ℕ) (xs at : List ℕ) : Type 0 where
  pub where_it_is : place ≡ index_of ys x
  pub how_many : count ≡ length (add ys x)
  pub stand : take count xs ≡ add ys x
  pub marks : Marked at (add ys x)

-- the arrivals zs stand in xs, with their marks
pub record AllAdded (zs : List ℕ) (count : ℕ) (xs at : List ℕ) : Type 0 where
  pub how_many : count ≡ length zs
  pub stand : take count xs ≡ zs
  pub marks : Marked at zs

-- ---- laws

pub index_le : (ys : List ℕ) (x : ℕ) → index_of ys x ≤ length ys
unfolding index_of
index_le [] x = omega arith
index_le (y ∷ ys) x = eqb_case (λ (k : ℕ). k ≤ suc (length ys)) y x _ _ (λ e. omega arith) (λ e. let z = index_le ys x in omega arith)

-- x is not among the arrivals: it joins at the end
pub add_absent : (ys : List ℕ) (x : ℕ) → length ys ≤ index_of ys x → add ys x ≡ ys ++ x ∷ []
unfolding index_of add
add_absent [] x h = refl
add_absent (y ∷ ys) x h =
    eqb_case (λ (k : ℕ). suc (length ys) ≤ k → add (y ∷ ys) x ≡ y ∷ ys ++ x ∷ []) y x _ _
    (λ e i. absurd (omega arith))
    (λ d i. cond_ne y x _ _ d ∙ ap (λ (l : List ℕ). y ∷ l) (add_absent ys x (omega arith))) h

-- it is: nothing changes
pub add_present : (ys : List ℕ) (x : ℕ) → index_of ys x < length ys → add ys x ≡ ys
unfolding index_of add
add_present [] x h = absurd (omega arith)
add_present (y ∷ ys) x h =
    eqb_case (λ (k : ℕ). k < suc (length ys) → add (y ∷ ys) x ≡ y ∷ ys) y x _ _
    (λ e i. cond_eq y x _ _ e)
    (λ d i. cond_ne y x _ _ d ∙ ap (λ (l : List ℕ). y ∷ l) (add_present ys x (omega arith))) h

index_here : (ys zs : List ℕ) (x : ℕ) → length ys ≤ index_of ys x → index_of (ys ++ x ∷ zs) x ≡ length ys
unfolding index_of
index_here [] zs x h = cond_eq x x _ _ refl
index_here (y ∷ ys) zs x h =
    eqb_case (λ (k : ℕ). suc (length ys) ≤ k → cond (eqb y x) 0 (suc (index_of (ys ++ x ∷ zs) x)) ≡ suc (length ys)) y x _ _
    (λ e i. absurd (omega arith))
    (λ d i. cond_ne y x _ _ d ∙ ap suc (index_here ys zs x (omega arith))) h

index_other : (ys : List ℕ) (x z : ℕ) → x ≢ z → (index_of ys z < length ys → index_of (ys ++ x ∷ []) z ≡ index_of ys z) × (length ys ≤ index_of ys z → index_of (ys ++ x ∷ []) z ≡ suc (length ys))
unfolding index_of
index_other [] x z d = (λ h. absurd (omega arith), λ h. cond_ne x z _ _ d)
index_other (y ∷ ys) x z d =
    let r = index_other ys x z d in
    eqb_case (λ (k : ℕ). (k < suc (length ys) → index_of (y ∷ ys ++ x ∷ []) z ≡ k) × (suc (length ys) ≤ k → index_of (y ∷ ys ++ x ∷ []) z ≡ suc (suc (length ys)))) y z _ _
    (λ e. (λ h. cond_eq y z _ _ e, λ h. absurd (omega arith)))
    (λ e. (λ h. cond_ne y z _ _ e ∙ ap suc (r.0 (omega arith)), λ h. cond_ne y z _ _ e ∙ ap suc (r.1 (omega arith))))

mark_present : (ys : List ℕ) (x : ℕ) → index_of ys x < length ys → mark_of ys x ≡ suc (index_of ys x)
unfolding mark_of
mark_present ys x h = rw (lt-ltb (index_of ys x) (length ys) h) refl

mark_absent : (ys : List ℕ) (x : ℕ) → length ys ≤ index_of ys x → mark_of ys x ≡ 0
unfolding mark_of
mark_absent ys x h = rw (le-ltb (index_of ys x) (length ys) h) refl

mark_other : (ys : List ℕ) (x z : ℕ) → x ≢ z → mark_of (ys ++ x ∷ []) z ≡ mark_of ys z
mark_other ys x z d = go (dec_le (length ys) (index_of ys z))
  where
    l : length (ys ++ x ∷ []) ≡ suc (length ys)
    l = length-append ys (x ∷ []) ∙ add-one (length ys)

    go : Dec (length ys ≤ index_of ys z) → mark_of (ys ++ x ∷ []) z ≡ mark_of ys z
    go (yes h) =
        let e = (index_other ys x z d).1 h in
        mark_absent (ys ++ x ∷ []) z (omega (arith, l)) ∙ sym (mark_absent ys z h)
    go (no h) =
        let e = (index_other ys x z d).0 (omega arith) in
        mark_present (ys ++ x ∷ []) z (omega (arith, l)) ∙ ap suc e ∙ sym (mark_present ys z (omega arith))

mark_new : (ys : List ℕ) (x : ℕ) → length ys ≤ index_of ys x → mark_of (ys ++ x ∷ []) x ≡ suc (length ys)
mark_new ys x h =
    let e = index_here ys [] x h in
    let l : length (ys ++ x ∷ []) ≡ suc (length ys) = length-append ys (x ∷ []) ∙ add-one (length ys) in
    mark_present (ys ++ x ∷ []) x (omega arith) ∙ ap suc e

-- what a mark says
pub mark_none : (at ys : List ℕ) (x w k n : ℕ) → Marked at ys → w ≡ x → w < length at → k ≡ get_or at w 0 → k ≡ 0 → n ≡ length ys → n ≡ index_of ys x
unfolding Marked
mark_none at ys x w k n m e h g z l = go (dec_le (length ys) (index_of ys x))
  where
    a : mark_of ys x ≡ 0
    a = sym (m x (subst (λ (u : ℕ). u < length at) e h)) ∙ ap (λ (u : ℕ). get_or at u 0) (sym e) ∙ sym g ∙ z

    go : Dec (length ys ≤ index_of ys x) → n ≡ index_of ys x
    go (yes p) = let q = index_le ys x in omega arith
    go (no p) = let q = mark_present ys x (omega arith) in let b = a in absurd (omega arith)

pub mark_some : (at ys : List ℕ) (x w k : ℕ) → Marked at ys → w ≡ x → w < length at → k ≡ get_or at w 0 → k ≢ 0 → k - 1 ≡ index_of ys x
unfolding Marked
mark_some at ys x w k m e h g z = go (dec_le (length ys) (index_of ys x))
  where
    a : mark_of ys x ≡ k
    a = sym (m x (subst (λ (u : ℕ). u < length at) e h)) ∙ ap (λ (u : ℕ). get_or at u 0) (sym e) ∙ sym g

    go : Dec (length ys ≤ index_of ys x) → k - 1 ≡ index_of ys x
    go (yes p) = absurd (z (sym a ∙ mark_absent ys x p))
    go (no p) = let q = mark_present ys x (omega arith) in let b = a in omega arith

-- ---- one turn of the search: from the place i on nothing was found before

index_split : (ys : List ℕ) (x i : ℕ) → ((j : ℕ) → j < i → get_or ys j 0 ≢ x) → i < length ys → get_or ys i 0 ≡ x → index_of ys x ≡ i
unfolding index_of
index_split [] x i f h e = absurd (omega arith)
index_split (y ∷ ys) x zero f h e = cond_eq y x _ _ e
index_split (y ∷ ys) x (suc i) f h e =
    cond_ne y x _ _ (f 0 (omega arith)) ∙ ap suc (index_split ys x i (λ j k. f (suc j) (omega arith)) (omega arith) e)

index_none : (ys : List ℕ) (x : ℕ) → ((j : ℕ) → j < length ys → get_or ys j 0 ≢ x) → index_of ys x ≡ length ys
unfolding index_of
index_none [] x f = refl
index_none (y ∷ ys) x f = cond_ne y x _ _ (f 0 (omega arith)) ∙ ap suc (index_none ys x (λ j k. f (suc j) (omega arith)))

-- none of the first i of xs is x
unfoldable pub NotYet : List ℕ → ℕ → ℕ → Type 0
NotYet xs x i = (j : ℕ) → j < i → get_or xs j 0 ≢ x

pub not_yet_none : (xs : List ℕ) (x : ℕ) → NotYet xs x 0
unfolding NotYet
not_yet_none xs x = λ j h. absurd (omega arith)

pub not_yet_more : (xs : List ℕ) (x i : ℕ) → NotYet xs x i → get_or xs i 0 ≢ x → NotYet xs x (i + 1)
unfolding NotYet
not_yet_more xs x i f d = λ j h. go j (dec_le i j) h
  where
    go : (j : ℕ) → Dec (i ≤ j) → j < i + 1 → get_or xs j 0 ≢ x
    go j (yes p) h = let z : i ≡ j = omega arith in subst (λ (u : ℕ). get_or xs u 0 ≢ x) z d
    go j (no p) h = f j (omega arith)

pub found_at : (xs : List ℕ) (x i : ℕ) → NotYet xs x i → i < length xs → get_or xs i 0 ≡ x → i ≡ index_of xs x
unfolding NotYet
found_at xs x i f h e = sym (index_split xs x i f h e)

pub found_none : (xs : List ℕ) (x : ℕ) → NotYet xs x (length xs) → length xs ≡ index_of xs x
unfolding NotYet
found_none xs x f = sym (index_none xs x f)

-- with no arrivals every mark is 0
pub marked_none : (k : ℕ) → Marked (replicate k 0) []
unfolding Marked mark_of index_of
marked_none k = λ x h. let l = length-replicate {A = ℕ} k 0 in get_or-replicate k x 0 0 (omega arith)

-- ---- one more

module _ (xs at : List ℕ) (n x p : ℕ) (l : n < length xs) (m : Marked at (take n xs)) (q : p ≡ index_of (take n xs) x) where
  size : length (take n xs) ≡ n
  size = length-take-le n xs (omega arith)

  pub added_old : p < n → IsAdded (take n xs) x p n xs at
  added_old h =
      let k = size in
      let e = add_present (take n xs) x (omega arith) in
      record { where_it_is = q; how_many = sym k ∙ ap length (sym e); stand = sym e; marks = subst (Marked at) (sym e) m }

  module _ (h : n ≤ p) where
    absent : length (take n xs) ≤ index_of (take n xs) x
    absent = let k = size in omega arith

    joins : add (take n xs) x ≡ take n xs ++ x ∷ []
    joins = add_absent (take n xs) x absent

    n_place : n ≡ index_of (take n xs) x
    n_place = let k = size in let e = index_le (take n xs) x in omega arith

    new_count : n + 1 ≡ length (add (take n xs) x)
    new_count = let k = size in sym (ap length joins ∙ length-append (take n xs) (x ∷ []) ∙ ap (λ (j : ℕ). j + 1) k)

    new_stand : (xs' : List ℕ) → xs' ≡ set xs n x → take (n + 1) xs' ≡ add (take n xs) x
    new_stand xs' e = ap (λ (j : ℕ). take j xs') (add-one n) ∙ ap (take (suc n)) e ∙ take-suc-set xs n x l ∙ sym joins

    added_far : (xs' : List ℕ) (w : ℕ) → xs' ≡ set xs n x → w ≡ x → length at ≤ w → IsAdded (take n xs) x n (n + 1) xs' at
    unfolding Marked
    added_far xs' w e d g =
        record {
          where_it_is = n_place;
          how_many = new_count;
          stand = new_stand xs' e;
          marks = λ z k. m z k ∙ sym (mark_other (take n xs) x z (λ y. omega arith)) ∙ ap (λ (ys : List ℕ). mark_of ys z) (sym joins);
        }

    added_near : (xs' at' : List ℕ) (w : ℕ) → xs' ≡ set xs n x → w ≡ x → w < length at → at' ≡ set at w (n + 1) → IsAdded (take n xs) x n (n + 1) xs' at'
    unfolding Marked
    added_near xs' at' w e d g a =
        record { where_it_is = n_place; how_many = new_count; stand = new_stand xs' e; marks = λ z k. go z k (ℕ_discrete w z) ∙ ap (λ (ys : List ℕ). mark_of ys z) (sym joins) }
      where
        go : (z : ℕ) → z < length at' → Dec (w ≡ z) → get_or at' z 0 ≡ mark_of (take n xs ++ x ∷ []) z
        go z k (yes y) =
            let s = size in
            ap (λ (r : List ℕ). get_or r z 0) a ∙ ap (λ (j : ℕ). get_or (set at j (n + 1)) z 0) y ∙ get_or-set_same at z (n + 1) 0 (subst (λ (j : ℕ). j < length at) y g)
            ∙ add-one n ∙ ap suc (sym s) ∙ sym (mark_new (take n xs) x absent) ∙ ap (mark_of (take n xs ++ x ∷ [])) (sym d ∙ y)
        go z k (no y) =
            let b : length at' ≡ length at = ap length a ∙ simp length-set in
            ap (λ (r : List ℕ). get_or r z 0) a ∙ get_or-set_other at w z (n + 1) 0 (λ i. y (sym i)) ∙ m z (omega arith)
            ∙ sym (mark_other (take n xs) x z (λ i. y (d ∙ i)))

pub added_new : (xs at : List ℕ) (n x p : ℕ) → n < length xs → Marked at (take n xs) → p ≡ index_of (take n xs) x → n ≤ p
    → (xs' at' : List ℕ) → xs' ≡ set xs n x → at' ≡ set at x (n + 1) → IsAdded (take n xs) x n (n + 1) xs' at'
added_new xs at n x p l m q h xs' at' e a = go (dec_le (length at) x)
  where
    go : Dec (length at ≤ x) → IsAdded (take n xs) x n (n + 1) xs' at'
    go (yes k) = subst (IsAdded (take n xs) x n (n + 1) xs') (sym (a ∙ set_out at x (n + 1) k)) (added_far xs at n x p l m q h xs' x e refl k)
    go (no k) = added_near xs at n x p l m q h xs' at' x e refl (omega arith) a

-- ---- one after the other

pub all_start : (ys xs at : List ℕ) (n : ℕ) → n ≤ length xs → Marked at (take n xs) → AllAdded (add_all (take n xs) (take 0 ys)) n xs at
unfolding add_all
all_start ys xs at n h m = record { how_many = sym (length-take-le n xs h); stand = refl; marks = m }

all_next : (zs ys : List ℕ) (i : ℕ) → i < length ys → add_all zs (take (i + 1) ys) ≡ add (add_all zs (take i ys)) (get_or ys i 0)
unfolding add_all
all_next zs ys i h =
    ap (λ (j : ℕ). add_all zs (take j ys)) (add-one i) ∙ ap (add_all zs) (take-suc ys i 0 h) ∙ add_all_append (take i ys) (get_or ys i 0 ∷ []) zs

pub all_turn : (zs ys : List ℕ) (i : ℕ) → i < length ys → (count : ℕ) (xs at : List ℕ) → AllAdded (add_all zs (take i ys)) count xs at
    → (x place count' : ℕ) (xs' at' : List ℕ) → x ≡ get_or ys i 0 → IsAdded (take count xs) x place count' xs' at' → AllAdded (add_all zs (take (i + 1) ys)) count' xs' at'
all_turn zs ys i h count xs at g x place count' xs' at' e a =
    let b : add (take count xs) x ≡ add_all zs (take (i + 1) ys) = ap (λ (l : List ℕ). add l x) g.stand ∙ ap (add (add_all zs (take i ys))) e ∙ sym (all_next zs ys i h) in
    record { how_many = a.how_many ∙ ap length b; stand = a.stand ∙ b; marks = subst (Marked at') b a.marks }

-- how many there can be
add_small : (ys : List ℕ) (x : ℕ) → length (add ys x) ≤ length ys + 1
add_small ys x = go (dec_le (length ys) (index_of ys x))
  where
    go : Dec (length ys ≤ index_of ys x) → length (add ys x) ≤ length ys + 1
    go (yes h) = let e = ap length (add_absent ys x h) ∙ length-append ys (x ∷ []) in omega arith
    go (no h) = let e = ap length (add_present ys x (omega arith)) in omega arith

pub add_all_small : (xs ys : List ℕ) → length (add_all ys xs) ≤ length ys + length xs
unfolding add_all
add_all_small [] ys = omega arith
add_all_small (x ∷ xs) ys = let a = add_all_small xs (add ys x) in let b = add_small ys x in omega arith

pub count_next : {ys xs at : List ℕ} {x place count : ℕ} (n : ℕ) → IsAdded ys x place count xs at → length ys ≤ n → count ≤ n + 1
count_next {ys} {xs} {at} {x} n a h =
    let e = a.how_many in
    let b = add_small ys x in
    omega arith
