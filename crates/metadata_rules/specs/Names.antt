-- Sets in the order of first arrival: each entry once, and exactly the entries of both.
-- Assumes nothing.
use Rattle.std.specs.Prelude.{◌≡◌, refl, ◌≢◌, ◌⊎◌, ◌↔◌, ℕ, List, [], ◌∷◌, ◌++◌}
use Rattle.std.proofs.Common.{sym, ap, ◌∙◌, inl, inr}
use Rattle.metadata_rules.specs.Walk.{Walked, conflict, laid}
use Rattle.metadata_rules.specs.Metadata.{Mapping, mapping, add, add_all, once, names_of, enter, enter_all, Merged, conflicting, merged, in_front, under, collect, by_name, outcome}
use Rattle.theory.specs.Runs.{Mem}
use Rattle.metadata_rules.specs.Cases.{Once, eqb_case, cond_eq, cond_ne}

-- x is there
pub add_new : (ys : List ℕ) (x : ℕ) → Mem x (add ys x)
unfolding add
add_new [] x = inl refl
add_new (y ∷ ys) x = eqb_case (λ (l : List ℕ). Mem x l) y x _ _ (λ e. inl (sym e)) (λ d. inr (add_new ys x))

-- what was there stays
pub add_old : (ys : List ℕ) (x z : ℕ) → Mem z ys → Mem z (add ys x)
unfolding add
add_old [] x z m = absurd m
add_old (y ∷ ys) x z m = eqb_case (λ (l : List ℕ). Mem z l) y x _ _ (λ e. m) (λ d. go m (add_old ys x z))
  where
    go : (z ≡ y) ⊎ Mem z ys → (Mem z ys → Mem z (add ys x)) → (z ≡ y) ⊎ Mem z (add ys x)
    go (inl e) f = inl e
    go (inr k) f = inr (f k)

-- and nothing else
pub add_only : (ys : List ℕ) (x z : ℕ) → Mem z (add ys x) → Mem z ys ⊎ (z ≡ x)
unfolding add
add_only [] x z (inl e) = inr e
add_only [] x z (inr m) = absurd m
add_only (y ∷ ys) x z k = eqb_case (λ (l : List ℕ). Mem z l → Mem z (y ∷ ys) ⊎ (z ≡ x)) y x _ _ (λ e m. inl m) (λ d m. go m (add_only ys x z)) k
  where
    on : Mem z ys ⊎ (z ≡ x) → Mem z (y ∷ ys) ⊎ (z ≡ x)
    on (inl k) = inl (inr k)
    on (inr e) = inr e

    go : (z ≡ y) ⊎ Mem z (add ys x) → (Mem z (add ys x) → Mem z ys ⊎ (z ≡ x)) → Mem z (y ∷ ys) ⊎ (z ≡ x)
    go (inl e) f = inl (inl e)
    go (inr k) f = on (f k)

pub add_once : (ys : List ℕ) (x : ℕ) → Once ys → Once (add ys x)
unfolding add
add_once [] x o = (λ m. m, tt)
add_once (y ∷ ys) x o = eqb_case (λ (l : List ℕ). Once l) y x _ _ (λ e. o) (λ d. (λ m. go d (add_only ys x y m), add_once ys x o.1))
  where
    go : y ≢ x → Mem y ys ⊎ (y ≡ x) → ⊥
    go d (inl m) = o.0 m
    go d (inr e) = d e

pub add_all_old : (xs ys : List ℕ) (z : ℕ) → Mem z ys → Mem z (add_all ys xs)
unfolding add_all
add_all_old [] ys z m = m
add_all_old (x ∷ xs) ys z m = add_all_old xs (add ys x) z (add_old ys x z m)

pub add_all_new : (xs ys : List ℕ) (z : ℕ) → Mem z xs → Mem z (add_all ys xs)
unfolding add_all
add_all_new [] ys z m = absurd m
add_all_new (x ∷ xs) ys z (inl e) = add_all_old xs (add ys x) z (rw e (add_new ys x))
add_all_new (x ∷ xs) ys z (inr m) = add_all_new xs (add ys x) z m

pub add_all_only : (xs ys : List ℕ) (z : ℕ) → Mem z (add_all ys xs) → Mem z ys ⊎ Mem z xs
unfolding add_all
add_all_only [] ys z m = inl m
add_all_only (x ∷ xs) ys z m = go (add_all_only xs (add ys x) z m)
  where
    on : Mem z ys ⊎ (z ≡ x) → Mem z ys ⊎ Mem z (x ∷ xs)
    on (inl k) = inl k
    on (inr e) = inr (inl e)

    go : Mem z (add ys x) ⊎ Mem z xs → Mem z ys ⊎ Mem z (x ∷ xs)
    go (inl k) = on (add_only ys x z k)
    go (inr k) = inr (inr k)

pub add_all_once : (xs ys : List ℕ) → Once ys → Once (add_all ys xs)
unfolding add_all
add_all_once [] ys o = o
add_all_once (x ∷ xs) ys o = add_all_once xs (add ys x) (add_once ys x o)

-- ---- a set without repeats: each once, and the same entries

pub once_once : (xs : List ℕ) → Once (once xs)
unfolding once
once_once xs = add_all_once xs [] tt

pub once_same : (xs : List ℕ) (z : ℕ) → Mem z (once xs) ↔ Mem z xs
unfolding once
once_same xs z = (λ m. go (add_all_only xs [] z m), add_all_new xs [] z)
  where
    go : ⊥ ⊎ Mem z xs → Mem z xs
    go (inl k) = absurd k
    go (inr k) = k

pub add_all_append : (xs ys zs : List ℕ) → add_all zs (xs ++ ys) ≡ add_all (add_all zs xs) ys
unfolding add_all
add_all_append [] ys zs = refl
add_all_append (x ∷ xs) ys zs = add_all_append xs ys (add zs x)

-- ---- the names of mappings

pub names_append : (xs ys : List Mapping) → names_of (xs ++ ys) ≡ names_of xs ++ names_of ys
unfolding names_of
names_append [] ys = refl
names_append (x ∷ xs) ys = ap (λ (l : List ℕ). x.name ∷ l) (names_append xs ys)

enter_names : (ls : List Mapping) (m : Mapping) → names_of (enter ls m) ≡ add (names_of ls) m.name
unfolding enter names_of add
enter_names [] m = refl
enter_names (l ∷ ls) m =
    eqb_case (λ (r : List Mapping). names_of r ≡ add (names_of (l ∷ ls)) m.name) l.name m.name _ _
    (λ e. rw (cond_eq l.name m.name (names_of (l ∷ ls)) (l.name ∷ add (names_of ls) m.name) e) (ap (λ (n : ℕ). n ∷ names_of ls) (sym e)))
    (λ d. rw (cond_ne l.name m.name (names_of (l ∷ ls)) (l.name ∷ add (names_of ls) m.name) d) (ap (λ (r : List ℕ). l.name ∷ r) (enter_names ls m)))

pub enter_all_names : (ms ls : List Mapping) → names_of (enter_all ls ms) ≡ add_all (names_of ls) (names_of ms)
unfolding enter_all names_of add_all
enter_all_names [] ls = refl
enter_all_names (m ∷ ms) ls = enter_all_names ms (enter ls m) ∙ ap (λ (r : List ℕ). add_all r (names_of ms)) (enter_names ls m)

-- the names of a merge, in order
under_names : (n : ℕ) (w : Walked) (q : Merged) (r : List Mapping) → under n w q ≡ merged r
    → (ns : List ℕ) → ((t : List Mapping) → q ≡ merged t → names_of t ≡ ns) → names_of r ≡ n ∷ ns
unfolding under in_front names_of
under_names n conflict q r e ns f = let z : ◌≡◌ {A = ℕ} 0 1 = cc in absurd (conflict_not r e)
  where
    conflict_not : (r : List Mapping) → conflicting ≡ merged r → ⊥
    conflict_not r e = let z : ◌≡◌ {A = ℕ} 0 1 = cc in omega native.Mathlib.Omega.arith
under_names n (laid s) conflicting r e ns f = let z : names_of r ≡ n ∷ ns = cc in z
under_names n (laid s) (merged t) r e ns f = let h : mapping n s ∷ t ≡ r = cc in rw (← h) (ap (λ (l : List ℕ). n ∷ l) (f t refl))

pub collect_names : (ns : List ℕ) (f : ℕ → Walked) (r : List Mapping) → collect ns f ≡ merged r → names_of r ≡ ns
unfolding collect names_of
collect_names [] f r e = let h : [] ≡ r = cc in rw (← h) refl
collect_names (n ∷ ns) f r e = under_names n (f n) (collect ns f) r e ns (λ t. collect_names ns f t)

pub merged_names : (ms r : List Mapping) → by_name ms ≡ merged r → names_of r ≡ once (names_of ms)
unfolding by_name
merged_names ms r e = collect_names (once (names_of ms)) (outcome ms) r e
