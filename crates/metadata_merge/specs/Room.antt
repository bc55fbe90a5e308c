-- A merge by name has no more mappings, and no more intervals, than both sides together. Assumes nothing.
use Rattle.std.specs.Prelude.{◌≡◌, refl, ℕ, suc, ◌+◌, ◌≤◌, List, [], ◌∷◌, length}
use Rattle.std.proofs.Common.{sym, ap, ◌∙◌, arith}
use Rattle.metadata_rules.specs.declared.Interval.{Interval}
use Rattle.metadata_rules.specs.Walk.{Walked, conflict, laid, walk_all}
use Rattle.metadata_rules.specs.Metadata.{Mapping, mapping, Merged, conflicting, merged, once, names_of, lists_of, under, in_front, collect, outcome, by_name, count_intervals}
use Rattle.metadata_rules.specs.Names.{merged_names, once_once}
use Rattle.metadata_lists.specs.Flat.{sum_len}
use Rattle.metadata_lists.specs.Names.{walk_all_length}
use Rattle.metadata_lists.specs.NamesWhole.{sum_names, sum_bound}
use Rattle.metadata_gather.specs.Arrivals.{add_all_small}

names_length : (ms : List Mapping) → length (names_of ms) ≡ length ms
unfolding names_of
names_length [] = refl
names_length (m ∷ ms) = ap suc (names_length ms)

pub merged_few : (ms r : List Mapping) → by_name ms ≡ merged r → length r ≤ length ms
unfolding once
merged_few ms r e =
    let a = sym (names_length r) ∙ ap length (merged_names ms r e) in
    let b = add_all_small (names_of ms) [] in
    let c = names_length ms in
    omega arith

conflict_none : (r : List Mapping) → conflicting ≡ merged r → ◌≡◌ {A = ℕ} 0 1
conflict_none r e = cc

under_conflict : (n : ℕ) (q : Merged) → conflicting ≡ under n conflict q
unfolding under
under_conflict n q = refl

front_conflict : (n : ℕ) (s : List Interval) → conflicting ≡ under n (laid s) conflicting
unfolding under in_front
front_conflict n s = refl

front_same : (n : ℕ) (s : List Interval) (t r : List Mapping) → under n (laid s) (merged t) ≡ merged r → mapping n s ∷ t ≡ r
unfolding under in_front
front_same n s t r d = cc

count_cons : (n : ℕ) (s : List Interval) (t : List Mapping) (a b : ℕ) → length s ≤ a → count_intervals t ≤ b → count_intervals (mapping n s ∷ t) ≤ a + b
unfolding count_intervals
count_cons n s t a b h k = omega arith

collect_short : (ms : List Mapping) (ns : List ℕ) (r : List Mapping) → collect ns (outcome ms) ≡ merged r → count_intervals r ≤ sum_names ns ms
unfolding collect count_intervals sum_names outcome
collect_short ms [] r e = let z : [] ≡ r = cc in rw (← z) (omega arith)
collect_short ms (n ∷ ns) r e = go (walk_all [] (lists_of n ms)) refl (collect ns (outcome ms)) e (λ t. collect_short ms ns t)
  where
    go : (w : Walked) → walk_all [] (lists_of n ms) ≡ w → (q : Merged) → under n w q ≡ merged r → ((t : List Mapping) → q ≡ merged t → count_intervals t ≤ sum_names ns ms)
        → count_intervals r ≤ sum_len (lists_of n ms) + sum_names ns ms
    go conflict a q d ih = let z : ◌≡◌ {A = ℕ} 0 1 = none d in absurd (omega arith)
      where
        none : under n conflict q ≡ merged r → ◌≡◌ {A = ℕ} 0 1
        none d = conflict_none r (under_conflict n q ∙ d)
    go (laid s) a conflicting d ih = let z : ◌≡◌ {A = ℕ} 0 1 = conflict_none r (front_conflict n s ∙ d) in absurd (omega arith)
    go (laid s) a (merged t) d ih =
        let z : mapping n s ∷ t ≡ r = front_same n s t r d in
        let b = ih t refl in
        let l = walk_all_length (lists_of n ms) [] s a in
        rw (← z) (count_cons n s t (sum_len (lists_of n ms)) (sum_names ns ms) (omega arith) b)

pub merged_short : (ms r : List Mapping) → by_name ms ≡ merged r → count_intervals r ≤ count_intervals ms
unfolding by_name
merged_short ms r e =
    let a = collect_short ms (once (names_of ms)) r e in
    let b = sum_bound ms (once (names_of ms)) (once_once (names_of ms)) in
    omega arith
