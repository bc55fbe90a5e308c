-- Folding in one mapping after the other gives what the definition by name gives.
-- Assumes nothing.
use Rattle.std.specs.Prelude.{◌≡◌, refl, ◌≢◌, ◌⊎◌, ℕ, cond, List, [], ◌∷◌, ◌++◌, eqb}
use Rattle.std.proofs.Common.{sym, ap, ◌∙◌, inl, inr, append_assoc}
use Rattle.metadata_rules.specs.declared.Interval.{Interval}
use Rattle.metadata_rules.specs.Walk.{Walked, conflict, laid, walk, then_all, walk_all}
use Rattle.metadata_rules.specs.Metadata.{Mapping, mapping, add, add_all, once, names_of, enter_all, Merged, conflicting, merged, in_front, under, collect, by_name, outcome, lists_of}
use Rattle.metadata_rules.specs.Metadata.{fold_one, and_then, fold_in}
use Rattle.theory.specs.Runs.{Mem}
use Rattle.metadata_rules.specs.Cases.{Once, eqb_case, cond_eq, cond_ne}
use Rattle.metadata_rules.specs.Names.{add_new, add_old, add_once, add_all_old, add_all_once, enter_all_names}

-- the names ns with the list that f has for each
unfoldable pub table : List ℕ → (ℕ → List Interval) → List Mapping
table [] f = []
table (n ∷ ns) f = mapping n (f n) ∷ table ns f

unfoldable pub upd : (ℕ → List Interval) → ℕ → List Interval → ℕ → List Interval
upd f n s k = cond (eqb n k) s (f k)

table_cong : (ns : List ℕ) (f g : ℕ → List Interval) → ((n : ℕ) → Mem n ns → f n ≡ g n) → table ns f ≡ table ns g
unfolding table
table_cong [] f g h = refl
table_cong (n ∷ ns) f g h = rw (h n (inl refl)) (ap (λ (l : List Mapping). mapping n (g n) ∷ l) (table_cong ns f g (λ k m. h k (inr m))))

upd_other : (f : ℕ → List Interval) (n : ℕ) (s : List Interval) (k : ℕ) → n ≢ k → upd f n s k ≡ f k
unfolding upd
upd_other f n s k d = cond_ne n k s (f k) d

upd_same : (f : ℕ → List Interval) (n : ℕ) (s : List Interval) (k : ℕ) → n ≡ k → upd f n s k ≡ s
unfolding upd
upd_same f n s k e = cond_eq n k s (f k) e

table_upd : (ns : List ℕ) (f : ℕ → List Interval) (n : ℕ) (s : List Interval) → (Mem n ns → ⊥) → table ns (upd f n s) ≡ table ns f
table_upd ns f n s h = table_cong ns (upd f n s) f (λ k m. upd_other f n s k (λ e. h (rw e m)))

-- one more mapping, whose walk with what its name has gives w
unfoldable pub entered : List ℕ → (ℕ → List Interval) → ℕ → Walked → Merged
entered ns f n conflict = conflicting
entered ns f n (laid s) = merged (table (add ns n) (upd f n s))

fold_here : (y : ℕ) (ns : List ℕ) (f : ℕ → List Interval) (n : ℕ) (w : Walked) → y ≡ n → (Mem n ns → ⊥)
    → under y w (merged (table ns f)) ≡ entered (y ∷ ns) f n w
unfolding under in_front entered table add
fold_here y ns f n conflict e h = refl
fold_here y ns f n (laid s) e h =
    rw (cond_eq y n (y ∷ ns) (y ∷ add ns n) e, upd_same f n s y (sym e), table_upd ns f n s h) refl

fold_on : (y : ℕ) (ns : List ℕ) (f : ℕ → List Interval) (n : ℕ) (w : Walked) → y ≢ n
    → in_front (mapping y (f y)) (entered ns f n w) ≡ entered (y ∷ ns) f n w
unfolding in_front entered table add
fold_on y ns f n conflict d = refl
fold_on y ns f n (laid s) d =
    rw (cond_ne y n (y ∷ ns) (y ∷ add ns n) d, upd_other f n s y (λ e. d (sym e))) refl

fold_one_lem : (ns : List ℕ) (f : ℕ → List Interval) (m : Mapping) → Once ns → ((Mem m.name ns → ⊥) → f m.name ≡ [])
    → fold_one (table ns f) m ≡ entered ns f m.name (walk (f m.name) m.intervals)
unfolding fold_one table walk entered add
fold_one_lem [] f m o h = rw (h (λ k. k), upd_same f m.name m.intervals m.name refl) refl
fold_one_lem (y ∷ ns) f m o h =
    eqb_case (λ (r : Merged). r ≡ entered (y ∷ ns) f m.name (walk (f m.name) m.intervals)) y m.name _ _
    (λ e. ap (λ (k : ℕ). under y (walk (f k) m.intervals) (merged (table ns f))) e
    ∙ fold_here y ns f m.name (walk (f m.name) m.intervals) e (λ k. o.0 (rw e k)))
    (λ d. ap (in_front (mapping y (f y))) (fold_one_lem ns f m o.1 (λ k. h (λ j. go d k j)))
    ∙ fold_on y ns f m.name (walk (f m.name) m.intervals) d)
  where
    go : y ≢ m.name → (Mem m.name ns → ⊥) → (m.name ≡ y) ⊎ Mem m.name ns → ⊥
    go d k (inl e) = d (sym e)
    go d k (inr j) = k j

-- ---- the definition by name, from what was gathered so far

unfoldable pub by_from : List ℕ → (ℕ → List Interval) → List Mapping → Merged
by_from ns f ms = collect (add_all ns (names_of ms)) (λ n. walk_all (f n) (lists_of n ms))

collect_cong : (ns : List ℕ) (f g : ℕ → Walked) → ((n : ℕ) → f n ≡ g n) → collect ns f ≡ collect ns g
unfolding collect
collect_cong [] f g h = refl
collect_cong (n ∷ ns) f g h = rw (h n) (ap (under n (g n)) (collect_cong ns f g h))

collect_table : (ns : List ℕ) (f : ℕ → List Interval) → collect ns (λ n. laid (f n)) ≡ merged (table ns f)
unfolding collect table under in_front
collect_table [] f = refl
collect_table (n ∷ ns) f = ap (in_front (mapping n (f n))) (collect_table ns f)

under_conflict : (n : ℕ) (w : Walked) → under n w conflicting ≡ conflicting
unfolding under in_front
under_conflict n conflict = refl
under_conflict n (laid s) = refl

collect_conflict : (ns : List ℕ) (f : ℕ → Walked) (n : ℕ) → Mem n ns → f n ≡ conflict → collect ns f ≡ conflicting
unfolding collect under
collect_conflict [] f n m e = absurd m
collect_conflict (y ∷ ns) f n (inl d) e = ap (λ (w : Walked). under y w (collect ns f)) (rw d at e)
collect_conflict (y ∷ ns) f n (inr m) e = ap (under y (f y)) (collect_conflict ns f n m e) ∙ under_conflict y (f y)

-- the first list of a name is walked with what it has
walk_all_here : (f : ℕ → List Interval) (m : Mapping) (ms : List Mapping) (n : ℕ) (w : Walked) → walk (f m.name) m.intervals ≡ w → m.name ≡ n
    → walk_all (f n) (lists_of n (m ∷ ms)) ≡ then_all (λ u. walk_all u (lists_of n ms)) w
unfolding lists_of walk_all
walk_all_here f m ms n w e d =
    ap (walk_all (f n)) (cond_eq m.name n (m.intervals ∷ lists_of n ms) (lists_of n ms) d)
    ∙ ap (then_all (λ u. walk_all u (lists_of n ms))) (ap (λ (k : ℕ). walk (f k) m.intervals) (sym d) ∙ e)

lists_other : (m : Mapping) (ms : List Mapping) (n : ℕ) → m.name ≢ n → lists_of n (m ∷ ms) ≡ lists_of n ms
unfolding lists_of
lists_other m ms n d = cond_ne m.name n (m.intervals ∷ lists_of n ms) (lists_of n ms) d

same_walks : (f : ℕ → List Interval) (m : Mapping) (ms : List Mapping) (s : List Interval) → walk (f m.name) m.intervals ≡ laid s
    → (n : ℕ) → walk_all (upd f m.name s n) (lists_of n ms) ≡ walk_all (f n) (lists_of n (m ∷ ms))
unfolding upd then_all
same_walks f m ms s e n =
    eqb_case (λ (t : List Interval). walk_all t (lists_of n ms) ≡ walk_all (f n) (lists_of n (m ∷ ms))) m.name n _ _
    (λ d. sym (walk_all_here f m ms n (laid s) e d))
    (λ d. ap (walk_all (f n)) (sym (lists_other m ms n d)))

-- Outside the names gathered so far there is nothing.
fold_from : (ms : List Mapping) (ns : List ℕ) (f : ℕ → List Interval) → Once ns → ((n : ℕ) → (Mem n ns → ⊥) → f n ≡ [])
    → fold_in (table ns f) ms ≡ by_from ns f ms
unfolding fold_in by_from names_of add_all and_then entered then_all walk_all lists_of
fold_from [] ns f o h = sym (collect_table ns f) ∙ collect_cong ns _ _ (λ n. refl)
fold_from (m ∷ ms) ns f o h =
    ap (and_then (λ r. fold_in r ms)) (fold_one_lem ns f m o (h m.name)) ∙ go (walk (f m.name) m.intervals) refl (λ s. fold_from ms (add ns m.name) (upd f m.name s))
  where
    go : (w : Walked) → walk (f m.name) m.intervals ≡ w
        → ((s : List Interval) → Once (add ns m.name) → ((n : ℕ) → (Mem n (add ns m.name) → ⊥) → upd f m.name s n ≡ [])
        → fold_in (table (add ns m.name) (upd f m.name s)) ms ≡ by_from (add ns m.name) (upd f m.name s) ms)
        → and_then (λ r. fold_in r ms) (entered ns f m.name w) ≡ by_from ns f (m ∷ ms)
    go conflict e ih =
        sym (collect_conflict (add_all (add ns m.name) (names_of ms)) _ m.name
        (add_all_old (names_of ms) (add ns m.name) m.name (add_new ns m.name))
        (walk_all_here f m ms m.name conflict e refl))
    go (laid s) e ih =
        ih s (add_once ns m.name o) (λ n k. upd_other f m.name s n (λ d. k (rw (← d) (add_new ns m.name))) ∙ h n (λ j. k (add_old ns m.name n j)))
        ∙ collect_cong (add_all (add ns m.name) (names_of ms)) _ _ (same_walks f m ms s e)

-- ---- the theorem

-- what has each name once is folded into nothing as it stands
fold_new : (ls : List Mapping) (m : Mapping) → (Mem m.name (names_of ls) → ⊥) → fold_one ls m ≡ merged (ls ++ m ∷ [])
unfolding fold_one in_front names_of
fold_new [] m h = refl
fold_new (l ∷ ls) m h =
    cond_ne l.name m.name _ _ (λ e. h (inl (sym e))) ∙ ap (in_front l) (fold_new ls m (λ k. h (inr k)))

fold_append : (xs ys ls : List Mapping) → fold_in ls (xs ++ ys) ≡ and_then (λ r. fold_in r ys) (fold_in ls xs)
unfolding fold_in and_then
fold_append [] ys ls = refl
fold_append (x ∷ xs) ys ls = go (fold_one ls x) (fold_append xs ys)
  where
    go : (q : Merged) → ((r : List Mapping) → fold_in r (xs ++ ys) ≡ and_then (λ t. fold_in t ys) (fold_in r xs))
        → and_then (λ r. fold_in r (xs ++ ys)) q ≡ and_then (λ t. fold_in t ys) (and_then (λ r. fold_in r xs) q)
    go conflicting f = refl
    go (merged r) f = f r

not_before : (xs : List Mapping) (m : Mapping) (ys : List Mapping) → Once (names_of (xs ++ m ∷ ys)) → Mem m.name (names_of xs) → ⊥
unfolding names_of
not_before [] m ys o k = k
not_before (x ∷ xs) m ys o (inl e) = o.0 (there xs (sym e))
  where
    there : (zs : List Mapping) → x.name ≡ m.name → Mem x.name (names_of (zs ++ m ∷ ys))
    there [] d = inl d
    there (z ∷ zs) d = inr (there zs d)
not_before (x ∷ xs) m ys o (inr k) = not_before xs m ys o.1 k

fold_once : (ys xs : List Mapping) → Once (names_of (xs ++ ys)) → fold_in xs ys ≡ merged (xs ++ ys)
unfolding fold_in and_then
fold_once [] xs o = ap merged (sym (append_nil xs))
  where
    append_nil : (l : List Mapping) → l ++ [] ≡ l
    append_nil [] = refl
    append_nil (x ∷ l) = ap (λ (r : List Mapping). x ∷ r) (append_nil l)
fold_once (y ∷ ys) xs o =
    ap (and_then (λ r. fold_in r ys)) (fold_new xs y (not_before xs y ys o))
    ∙ fold_once ys (xs ++ y ∷ []) (rw (append_assoc xs (y ∷ []) ys) o)
    ∙ ap merged (append_assoc xs (y ∷ []) ys)

pub fold_by_name : (ls ms : List Mapping) → Once (names_of ls) → fold_in ls ms ≡ by_name (ls ++ ms)
unfolding and_then by_name by_from once outcome table
fold_by_name ls ms o =
    sym (ap (and_then (λ r. fold_in r ms)) (fold_once ls [] o))
    ∙ sym (fold_append ls ms [])
    ∙ fold_from (ls ++ ms) [] (λ n. []) tt (λ n k. refl)

-- and the side that lost its repeats has each name once
pub opened_once : (ms : List Mapping) → Once (names_of (enter_all [] ms))
unfolding names_of
opened_once ms = rw (enter_all_names ms []) (add_all_once (names_of ms) [] tt)
