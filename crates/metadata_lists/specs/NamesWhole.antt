-- What the loop over the places gathers is the merge by name, and it fits the room of all intervals together. Assumes nothing.
use Rattle.std.specs.Prelude.{◌≡◌, ◌≢◌, ◌⊎◌, cond, length, get_or, eqb}
use Rattle.std.proofs.Math.Path.{refl, sym, ap, subst}
use Rattle.std.proofs.Common.{◌∙◌, inl, inr}
use Prim.Native.Nat.{ℕ, zero, suc, ◌+◌, ◌-◌, ◌≤◌, ◌<◌}
use native.Mathlib.Omega.{arith}
use Rattle.std.proofs.Math.Decide.{dec_le}
use mathlib.Core.List.{List, [], ◌∷◌, ◌++◌, append_assoc}
use Rattle.metadata_rules.specs.declared.Interval.{Interval}
use Rattle.metadata_rules.specs.Walk.{walk_all}
use Rattle.metadata_rules.specs.Metadata.{Mapping, under, collect, once, add, add_all, names_of, by_name, outcome, lists_of, count_intervals}
use Rattle.theory.specs.Runs.{Mem}
use Rattle.metadata_rules.specs.Cases.{Once, eqb_case, cond_eq, cond_ne}
use Rattle.metadata_rules.specs.Names.{once_once}
use Rattle.metadata_rules.specs.Words.{name_at}
use Rattle.metadata_lists.specs.Flat.{placed_from, placed_to, lists_from, First, sum_len, lists_first}
use Rattle.metadata_lists.specs.Name.{outcome_at}
use Rattle.metadata_lists.specs.Names.{collect_from, collect_to, sums_from, sums_to}

add_in : (ys : List ℕ) (x : ℕ) → Mem x ys → add ys x ≡ ys
unfolding add
add_in [] x k = absurd k
add_in (y ∷ ys) x (inl e) = cond_eq y x _ _ (sym e)
add_in (y ∷ ys) x (inr k) = eqb_case (λ (l : List ℕ). l ≡ y ∷ ys) y x _ _ (λ e. refl) (λ d. ap (λ (l : List ℕ). y ∷ l) (add_in ys x k))

add_out : (ys : List ℕ) (x : ℕ) → (Mem x ys → ⊥) → add ys x ≡ ys ++ x ∷ []
unfolding add
add_out [] x k = refl
add_out (y ∷ ys) x k = cond_ne y x _ _ (λ e. k (inl (sym e))) ∙ ap (λ (l : List ℕ). y ∷ l) (add_out ys x (λ j. k (inr j)))

mem_end : (ys : List ℕ) (x z : ℕ) → Mem z (ys ++ x ∷ []) → Mem z ys ⊎ (z ≡ x)
mem_end [] x z (inl e) = inr e
mem_end [] x z (inr k) = absurd k
mem_end (y ∷ ys) x z (inl e) = inl (inl e)
mem_end (y ∷ ys) x z (inr k) = go (mem_end ys x z k)
  where
    go : Mem z ys ⊎ (z ≡ x) → Mem z (y ∷ ys) ⊎ (z ≡ x)
    go (inl j) = inl (inr j)
    go (inr e) = inr e

mem_left : (ys : List ℕ) (x z : ℕ) → Mem z ys → Mem z (ys ++ x ∷ [])
mem_left [] x z k = absurd k
mem_left (y ∷ ys) x z (inl e) = inl e
mem_left (y ∷ ys) x z (inr k) = inr (mem_left ys x z k)

mem_last : (ys : List ℕ) (x : ℕ) → Mem x (ys ++ x ∷ [])
mem_last [] x = inl refl
mem_last (y ∷ ys) x = inr (mem_last ys x)

append_nil : (l : List ℕ) → l ++ [] ≡ l
append_nil [] = refl
append_nil (x ∷ l) = ap (λ (r : List ℕ). x ∷ r) (append_nil l)

-- each name's first place
abbrev pub HeadOk : List ℕ → List ℕ → ℕ → Type 0
HeadOk m head e = (t : ℕ) → t < e → First m (name_at m t) 0 e (get_or head (name_at m t) 0)

module _ (m v off head : List ℕ) (e : ℕ) where
  unfoldable first_names : ℕ → ℕ → List ℕ
  first_names i zero = []
  first_names i (suc n) = cond (eqb (get_or head (name_at m i) 0) i) (name_at m i ∷ first_names (i + 1) n) (first_names (i + 1) n)

  -- ys are the names before the place i
  record Seen (ys : List ℕ) (i : ℕ) : Type 0 where
    there : (t : ℕ) → t < i → Mem (name_at m t) ys
    only : (x : ℕ) → Mem x ys → (t : ℕ) × (t < i) × (name_at m t ≡ x)

  seen_more : (ys : List ℕ) (i : ℕ) → Seen ys i → Mem (name_at m i) ys → Seen ys (i + 1)
  seen_more ys i s k = record { there = λ t h. go t (dec_le i t) h; only = λ x j. on x (s.only x j) }
    where
      go : (t : ℕ) → Dec (i ≤ t) → t < i + 1 → Mem (name_at m t) ys
      go t (yes p) h = let z : i ≡ t = omega arith in subst (λ (u : ℕ). Mem (name_at m u) ys) z k
      go t (no p) h = s.there t (omega arith)

      on : (x : ℕ) → (t : ℕ) × (t < i) × (name_at m t ≡ x) → (t : ℕ) × (t < i + 1) × (name_at m t ≡ x)
      on x w = let a = w.1 in (w.0, omega arith, w.2)

  seen_new : (ys : List ℕ) (i : ℕ) → Seen ys i → Seen (ys ++ name_at m i ∷ []) (i + 1)
  seen_new ys i s = record { there = λ t h. go t (dec_le i t) h; only = λ x j. on x (mem_end ys (name_at m i) x j) }
    where
      go : (t : ℕ) → Dec (i ≤ t) → t < i + 1 → Mem (name_at m t) (ys ++ name_at m i ∷ [])
      go t (yes p) h = let z : i ≡ t = omega arith in subst (λ (u : ℕ). Mem (name_at m u) (ys ++ name_at m i ∷ [])) z (mem_last ys (name_at m i))
      go t (no p) h = mem_left ys (name_at m i) (name_at m t) (s.there t (omega arith))

      on : (x : ℕ) → Mem x ys ⊎ (x ≡ name_at m i) → (t : ℕ) × (t < i + 1) × (name_at m t ≡ x)
      on x (inl j) = let w = s.only x j in let a = w.1 in (w.0, omega arith, w.2)
      on x (inr z) = (i, omega arith, sym z)

  module _ (ok : HeadOk m head e) where
    first_new : (ys : List ℕ) (i : ℕ) → i < e → Seen ys i → get_or head (name_at m i) 0 ≡ i → Mem (name_at m i) ys → ⊥
    first_new ys i h s d k =
        let w = s.only (name_at m i) k in
        let f = ok i h in
        f.none w.0 (omega arith) (omega (arith, w.1)) w.2

    later_old : (ys : List ℕ) (i : ℕ) → i < e → Seen ys i → (get_or head (name_at m i) 0 ≡ i → ⊥) → Mem (name_at m i) ys
    later_old ys i h s d = go (dec_le (get_or head (name_at m i) 0) i)
      where
        go : Dec (get_or head (name_at m i) 0 ≤ i) → Mem (name_at m i) ys
        go (yes p) =
            let f = ok i h in
            let q : get_or head (name_at m i) 0 < i = below p in
            subst (λ (x : ℕ). Mem x ys) (f.here (omega arith)) (s.there (get_or head (name_at m i) 0) q)
          where
            below : get_or head (name_at m i) 0 ≤ i → get_or head (name_at m i) 0 < i
            below p = at (dec_le i (get_or head (name_at m i) 0))
              where
                at : Dec (i ≤ get_or head (name_at m i) 0) → get_or head (name_at m i) 0 < i
                at (yes y) = absurd (d (omega arith))
                at (no y) = omega arith
        go (no p) = absurd ((ok i h).none i (omega arith) (omega arith) refl)

    names_first : (n i : ℕ) → i + n ≡ e → (ys : List ℕ) → Seen ys i → add_all ys (names_of (placed_from m v off i n)) ≡ ys ++ first_names i n
    unfolding add_all names_of placed_from first_names
    names_first zero i z ys s = sym (append_nil ys)
    names_first (suc n) i z ys s =
        eqb_case (λ (l : List ℕ). add_all (add ys (name_at m i)) (names_of (placed_from m v off (i + 1) n)) ≡ ys ++ l) (get_or head (name_at m i) 0) i _ _
        (λ d. ap (λ (l : List ℕ). add_all l (names_of (placed_from m v off (i + 1) n))) (add_out ys (name_at m i) (first_new ys i (omega arith) s d))
        ∙ names_first n (i + 1) (omega arith) (ys ++ name_at m i ∷ []) (seen_new ys i s)
        ∙ append_assoc ys (name_at m i ∷ []) (first_names (i + 1) n))
        (λ d. ap (λ (l : List ℕ). add_all l (names_of (placed_from m v off (i + 1) n))) (add_in ys (name_at m i) (later_old ys i (omega arith) s d))
        ∙ names_first n (i + 1) (omega arith) ys (seen_more ys i s (later_old ys i (omega arith) s d)))

    lists_whole : (i : ℕ) → i < e → get_or head (name_at m i) 0 ≡ i → lists_from m v off (name_at m i) 0 e ≡ lists_from m v off (name_at m i) i e
    lists_whole i h d = lists_first m v off (name_at m i) e 0 i (subst (First m (name_at m i) 0 e) d (ok i h))

    collect_first : (n i : ℕ) → i + n ≡ e → collect_from m v off head e i n ≡ collect (first_names i n) (outcome (placed_to m v off 0 e))
    unfolding collect_from collect first_names outcome_at outcome lists_from
    collect_first zero i z = refl
    collect_first (suc n) i z =
        eqb_case (λ (l : List ℕ). collect_from m v off head e i (suc n) ≡ collect l (outcome (placed_to m v off 0 e))) (get_or head (name_at m i) 0) i _ _
        (λ d. cond_eq (get_or head (name_at m i) 0) i _ _ d
        ∙ ap (λ (ls : List (List Interval)). under (name_at m i) (walk_all [] ls) (collect_from m v off head e (i + 1) n)) (sym (lists_whole i (omega arith) d))
        ∙ ap (under (name_at m i) (outcome (placed_to m v off 0 e) (name_at m i))) (collect_first n (i + 1) (omega arith)))
        (λ d. cond_ne (get_or head (name_at m i) 0) i _ _ d ∙ collect_first n (i + 1) (omega arith))

    -- the theorem: what the code gathers is the merge by name
    pub collect_by_name : collect_to m v off head e 0 ≡ by_name (placed_to m v off 0 e)
    unfolding collect_to by_name once placed_to
    collect_by_name =
        let z : e - 0 ≡ e = omega arith in
        collect_first (e - 0) 0 (omega arith)
        ∙ ap (λ (l : List ℕ). collect l (outcome (placed_to m v off 0 e)))
        (sym (names_first (e - 0) 0 (omega arith) [] (record { there = λ t h. absurd (omega arith); only = λ x k. absurd k })))

-- ---- the room: what the names can take together is at most what all mappings have

-- the intervals of the lists under the names ns
unfoldable pub sum_names : List ℕ → List Mapping → ℕ
sum_names [] ms = 0
sum_names (n ∷ ns) ms = sum_len (lists_of n ms) + sum_names ns ms

lists_yes : (k : Mapping) (ms : List Mapping) (n : ℕ) → k.name ≡ n → sum_len (lists_of n (k ∷ ms)) ≡ length k.intervals + sum_len (lists_of n ms)
unfolding lists_of sum_len
lists_yes k ms n d = ap sum_len (cond_eq k.name n (k.intervals ∷ lists_of n ms) (lists_of n ms) d)

lists_no : (k : Mapping) (ms : List Mapping) (n : ℕ) → k.name ≢ n → sum_len (lists_of n (k ∷ ms)) ≡ sum_len (lists_of n ms)
unfolding lists_of
lists_no k ms n d = ap sum_len (cond_ne k.name n (k.intervals ∷ lists_of n ms) (lists_of n ms) d)

sum_none : (ns : List ℕ) (k : Mapping) (ms : List Mapping) → (Mem k.name ns → ⊥) → sum_names ns (k ∷ ms) ≡ sum_names ns ms
unfolding sum_names
sum_none [] k ms h = refl
sum_none (n ∷ ns) k ms h = omega (arith, lists_no k ms n (λ d. h (inl d)), sum_none ns k ms (λ j. h (inr j)))

sum_one : (ns : List ℕ) (k : Mapping) (ms : List Mapping) → Once ns → sum_names ns (k ∷ ms) ≤ length k.intervals + sum_names ns ms
unfolding sum_names
sum_one [] k ms o = omega arith
sum_one (n ∷ ns) k ms o =
    eqb_case (λ (b : ℕ). sum_len (lists_of n (k ∷ ms)) + sum_names ns (k ∷ ms) ≤ length k.intervals + (sum_len (lists_of n ms) + sum_names ns ms)) k.name n 0 0
    (λ d. omega (arith, lists_yes k ms n d, sum_none ns k ms (λ j. o.0 (subst (λ (x : ℕ). Mem x ns) d j))))
    (λ d. omega (arith, lists_no k ms n d, sum_one ns k ms o.1))

sum_nothing : (ns : List ℕ) → sum_names ns [] ≡ 0
unfolding sum_names lists_of sum_len
sum_nothing [] = refl
sum_nothing (n ∷ ns) = omega (arith, sum_nothing ns)

pub sum_bound : (ms : List Mapping) (ns : List ℕ) → Once ns → sum_names ns ms ≤ count_intervals ms
unfolding count_intervals
sum_bound [] ns o = omega (arith, sum_nothing ns)
sum_bound (k ∷ ms) ns o = omega (arith, sum_one ns k ms o, sum_bound ms ns o)

module _ (m v off head : List ℕ) (e : ℕ) (ok : HeadOk m head e) where
  sums_names : (n i : ℕ) → i + n ≡ e → sums_from m v off head e i n ≡ sum_names (first_names m v off head e i n) (placed_to m v off 0 e)
  unfolding sums_from sum_names first_names lists_from
  sums_names zero i z = refl
  sums_names (suc n) i z =
      eqb_case (λ (l : List ℕ). sums_from m v off head e i (suc n) ≡ sum_names l (placed_to m v off 0 e)) (get_or head (name_at m i) 0) i _ _
      (λ d. cond_eq (get_or head (name_at m i) 0) i _ _ d
      ∙ ap (λ (ls : List (List Interval)). sum_len ls + sums_from m v off head e (i + 1) n) (sym (lists_whole m v off head e ok i (omega arith) d))
      ∙ ap (λ (s : ℕ). sum_len (lists_from m v off (name_at m i) 0 e) + s) (sums_names n (i + 1) (omega arith)))
      (λ d. cond_ne (get_or head (name_at m i) 0) i _ _ d ∙ sums_names n (i + 1) (omega arith))

  pub sums_bound : sums_to m v off head e 0 ≤ count_intervals (placed_to m v off 0 e)
  unfolding sums_to once placed_to
  sums_bound =
      let q : once (names_of (placed_from m v off 0 (e - 0))) ≡ first_names m v off head e 0 (e - 0) =
      names_first m v off head e ok (e - 0) 0 (omega arith) [] (record { there = λ t h. absurd (omega arith); only = λ x k. absurd k }) in
      let o : Once (first_names m v off head e 0 (e - 0)) = subst Once q (once_once (names_of (placed_from m v off 0 (e - 0)))) in
      omega (arith, sums_names (e - 0) 0 (omega arith), sum_bound (placed_to m v off 0 e) (first_names m v off head e 0 (e - 0)) o)
