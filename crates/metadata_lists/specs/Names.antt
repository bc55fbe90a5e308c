-- One name after the other: the mappings' words and the intervals of each. Assumes nothing.
use Rattle.std.specs.Prelude.{◌≡◌, Bool, cond, List, [], ◌∷◌, length, get_or, eqb, None, Option, Some}
use Rattle.std.proofs.Math.Path.{refl, ap}
use Rattle.std.proofs.Common.{sym, ◌∙◌}
use Prim.Native.Nat.{ℕ, zero, suc, ◌+◌, ◌-◌, ◌≤◌, ◌<◌}
use native.Mathlib.Omega.{arith}
use Rattle.std.proofs.Math.Bool.{true, false}
use Rattle.metadata_rules.specs.declared.Interval.{Interval}
use Rattle.metadata_rules.specs.Walk.{Walked, conflict, laid, walk, walk_all, then_all}
use Rattle.metadata_rules.specs.Metadata.{Mapping, Merged, conflicting, merged, under, in_front}
use Rattle.metadata_rules.specs.Cases.{cond_eq, cond_ne}
use Rattle.metadata_words.specs.Words.{put_mapping, lay_intervals}
use Rattle.metadata_lists.specs.Heads.{finish, ended_of}
use Rattle.metadata_rules.specs.Words.{name_at}
use Rattle.metadata_lists.specs.Flat.{lists_from, sum_len}
use Rattle.metadata_lists.specs.NameHeld.{walk_length, held_finish, conflict_finish}
use Rattle.metadata_lists.specs.Name.{outcome_at}
use Rattle.metadata_lists.specs.declared.names.Laid.{Laid}

pub data Final : Type 0 where
  failed : Final
  placed : List ℕ → ℕ → List ℕ → ℕ → Final

unfoldable pub end_names : Option Laid → List ℕ → List ℕ → Final
end_names None om o = failed
end_names (Some l) om o = placed om l.mappings o l.intervals

-- the outcome w of the name n is laid
unfoldable pub finish_one : List ℕ → ℕ → List ℕ → ℕ → ℕ → Walked → Final
unfolding put_mapping
finish_one om q o k n conflict = failed
finish_one om q o k n (laid s) = placed (put_mapping om q n (length s)) (q + 1) (lay_intervals o k s) (k + length s)

-- the place i: its name's outcome where it is the name's first
unfoldable pub step_at : List ℕ → List ℕ → List ℕ → List ℕ → ℕ → ℕ → List ℕ → ℕ → List ℕ → ℕ → Final
unfolding finish_one
step_at m v off head e i om q o k =
    cond (eqb (get_or head (name_at m i) 0) i) (finish_one om q o k (name_at m i) (outcome_at m v off e i)) (placed om q o k)

-- n places from i on, each first place with its name's outcome
unfoldable pub collect_from : List ℕ → List ℕ → List ℕ → List ℕ → ℕ → ℕ → ℕ → Merged
collect_from m v off head e i zero = merged []
collect_from m v off head e i (suc n) =
    cond (eqb (get_or head (name_at m i) 0) i) (under (name_at m i) (outcome_at m v off e i) (collect_from m v off head e (i + 1) n)) (collect_from m v off head e (i + 1) n)

unfoldable pub collect_to : List ℕ → List ℕ → List ℕ → List ℕ → ℕ → ℕ → Merged
unfolding collect_from
collect_to m v off head e i = collect_from m v off head e i (e - i)

-- the room that the names from i on can take
unfoldable pub sums_from : List ℕ → List ℕ → List ℕ → List ℕ → ℕ → ℕ → ℕ → ℕ
sums_from m v off head e i zero = 0
sums_from m v off head e i (suc n) =
    cond (eqb (get_or head (name_at m i) 0) i) (sum_len (lists_from m v off (name_at m i) i e) + sums_from m v off head e (i + 1) n) (sums_from m v off head e (i + 1) n)

unfoldable pub sums_to : List ℕ → List ℕ → List ℕ → List ℕ → ℕ → ℕ → ℕ
unfolding sums_from
sums_to m v off head e i = sums_from m v off head e i (e - i)

unfoldable pub lay_all : List ℕ → ℕ → List ℕ → ℕ → List Mapping → Final
unfolding put_mapping
lay_all om q o k [] = placed om q o k
lay_all om q o k (m ∷ ms) = lay_all (put_mapping om q m.name (length m.intervals)) (q + 1) (lay_intervals o k m.intervals) (k + length m.intervals) ms

unfoldable pub finish_names : List ℕ → ℕ → List ℕ → ℕ → Merged → Final
unfolding lay_all
finish_names om q o k conflicting = failed
finish_names om q o k (merged ms) = lay_all om q o k ms

-- after a step: the rest r
unfoldable pub onward : Merged → Final → Final
unfolding finish_names
onward r failed = failed
onward r (placed om q o k) = finish_names om q o k r

-- ---- laws

pub walk_all_length : (ls : List (List Interval)) (xs zs : List Interval) → walk_all xs ls ≡ laid zs → length zs ≤ length xs + sum_len ls
unfolding walk_all sum_len
walk_all_length [] xs zs e = let z : xs ≡ zs = cc in rw (← z) (omega arith)
walk_all_length (l ∷ ls) xs zs e = go (walk xs l) refl e (λ u. walk_all_length ls u zs)
  where
    go : (w : Walked) → walk xs l ≡ w → then_all (λ u. walk_all u ls) w ≡ laid zs → ((u : List Interval) → walk_all u ls ≡ laid zs → length zs ≤ length u + sum_len ls)
        → length zs ≤ length xs + (length l + sum_len ls)
    go conflict f h ih = let z : ◌≡◌ {A = ℕ} 0 1 = cc in absurd (omega arith)
    go (laid u) f h ih = omega (arith, ih u h, (walk_length xs l u f).1)

one_onward : (om : List ℕ) (q : ℕ) (o : List ℕ) (k n : ℕ) (w : Walked) (r : Merged) → onward r (finish_one om q o k n w) ≡ finish_names om q o k (under n w r)
unfolding onward finish_one finish_names under in_front lay_all
one_onward om q o k n conflict r = refl
one_onward om q o k n (laid s) conflicting = refl
one_onward om q o k n (laid s) (merged ms) = refl

pub collect_end : (m v off head : List ℕ) (e i : ℕ) (om : List ℕ) (q : ℕ) (o : List ℕ) (k : ℕ) → e ≤ i
    → placed om q o k ≡ finish_names om q o k (collect_to m v off head e i)
unfolding collect_to collect_from finish_names lay_all
collect_end m v off head e i om q o k h = let z : e - i ≡ 0 = omega arith in rw z refl

module _ (m v off head : List ℕ) (e i : ℕ) (h : i < e) where
  collect_step : collect_to m v off head e i ≡ cond (eqb (get_or head (name_at m i) 0) i) (under (name_at m i) (outcome_at m v off e i) (collect_to m v off head e (i + 1))) (collect_to m v off head e (i + 1))
  unfolding collect_to collect_from
  collect_step = let z : e - i ≡ suc (e - (i + 1)) = omega arith in rw z refl

  sums_step : sums_to m v off head e i ≡ cond (eqb (get_or head (name_at m i) 0) i) (sum_len (lists_from m v off (name_at m i) i e) + sums_to m v off head e (i + 1)) (sums_to m v off head e (i + 1))
  unfolding sums_to sums_from
  sums_step = let z : e - i ≡ suc (e - (i + 1)) = omega arith in rw z refl

  pub sums_first : get_or head (name_at m i) 0 ≡ i → sums_to m v off head e i ≡ sum_len (lists_from m v off (name_at m i) i e) + sums_to m v off head e (i + 1)
  sums_first d = sums_step ∙ cond_eq _ _ _ _ d

  pub sums_skip : (get_or head (name_at m i) 0 ≡ i → ⊥) → sums_to m v off head e i ≡ sums_to m v off head e (i + 1)
  sums_skip d = sums_step ∙ cond_ne _ _ _ _ d

  -- a step and then the rest is the whole
  pub step_onward : (om : List ℕ) (q : ℕ) (o : List ℕ) (k : ℕ) → onward (collect_to m v off head e (i + 1)) (step_at m v off head e i om q o k) ≡ finish_names om q o k (collect_to m v off head e i)
  unfolding step_at onward
  step_onward om q o k = go (eqb (get_or head (name_at m i) 0) i) ∙ ap (finish_names om q o k) (sym collect_step)
    where
      go : (b : Bool) → onward (collect_to m v off head e (i + 1)) (cond b (finish_one om q o k (name_at m i) (outcome_at m v off e i)) (placed om q o k))
          ≡ finish_names om q o k (cond b (under (name_at m i) (outcome_at m v off e i) (collect_to m v off head e (i + 1))) (collect_to m v off head e (i + 1)))
      go true = one_onward om q o k (name_at m i) (outcome_at m v off e i) (collect_to m v off head e (i + 1))
      go false = refl

-- ---- what a place's code shows

pub place_skip : (m v off head : List ℕ) (e i : ℕ) (om : List ℕ) (q : ℕ) (o : List ℕ) (k n : ℕ) → n ≡ name_at m i → (get_or head n 0 ≡ i → ⊥)
    → placed om q o k ≡ step_at m v off head e i om q o k
unfolding step_at
place_skip m v off head e i om q o k n z d = sym (cond_ne (get_or head (name_at m i) 0) i _ _ (λ x. d (ap (λ (y : ℕ). get_or head y 0) z ∙ x)))

pub place_conflict : (m v off head : List ℕ) (e i : ℕ) (om : List ℕ) (q : ℕ) (o x : List ℕ) (k n : ℕ) → n ≡ name_at m i → get_or head n 0 ≡ i
    → ended_of None x ≡ finish o k (outcome_at m v off e i) → failed ≡ step_at m v off head e i om q o k
unfolding step_at finish_one ended_of
place_conflict m v off head e i om q o x k n z d w =
    ap (finish_one om q o k (name_at m i)) (sym (conflict_finish o k (outcome_at m v off e i) w))
    ∙ sym (cond_eq (get_or head (name_at m i) 0) i _ _ (ap (λ (y : ℕ). get_or head y 0) (sym z) ∙ d))

pub laid_bound : (m v off : List ℕ) (e i : ℕ) (o x : List ℕ) (k t : ℕ) → ended_of (Some t) x ≡ finish o k (outcome_at m v off e i)
    → (k ≤ t) × (t ≤ k + sum_len (lists_from m v off (name_at m i) i e))
unfolding ended_of outcome_at
laid_bound m v off e i o x k t w =
    let f = held_finish x t o k (walk_all [] (lists_from m v off (name_at m i) i e)) w in
    let b = walk_all_length (lists_from m v off (name_at m i) i e) [] f.0 f.1 in
    (omega (arith, f.3), omega (arith, f.3))

pub place_laid : (m v off head : List ℕ) (e i : ℕ) (om om' : List ℕ) (q : ℕ) (o x : List ℕ) (k n t c : ℕ) → n ≡ name_at m i → get_or head n 0 ≡ i
    → ended_of (Some t) x ≡ finish o k (outcome_at m v off e i) → c ≡ t - k → om' ≡ put_mapping om q n c → placed om' (q + 1) x t ≡ step_at m v off head e i om q o k
unfolding step_at finish_one ended_of
place_laid m v off head e i om om' q o x k n t c z d w y u =
    let f = held_finish x t o k (outcome_at m v off e i) w in
    let l : c ≡ length f.0 = omega (arith, f.3) in
    ap (λ (a : List ℕ). placed a (q + 1) x t) (u ∙ ap (λ (b : ℕ). put_mapping om q b c) z ∙ ap (put_mapping om q (name_at m i)) l)
    ∙ ap (λ (a : List ℕ). placed (put_mapping om q (name_at m i) (length f.0)) (q + 1) a t) f.2
    ∙ ap (placed (put_mapping om q (name_at m i) (length f.0)) (q + 1) (lay_intervals o k f.0)) f.3
    ∙ ap (finish_one om q o k (name_at m i)) (sym f.1)
    ∙ sym (cond_eq (get_or head (name_at m i) 0) i _ _ (ap (λ (b : ℕ). get_or head b 0) (sym z) ∙ d))
