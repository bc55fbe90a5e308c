-- How many intervals stand before a mapping: one more mapping, and more of them. Assumes nothing.
use Rattle.std.specs.Prelude.{◌≡◌, ℕ, zero, suc, ◌+◌, ◌-◌, ◌≤◌, List}
use Rattle.std.proofs.Common.{ap, subst, arith, add-one}
use Rattle.metadata_rules.specs.Words.{count_at, before}

pub before_next : (m : List ℕ) (t : ℕ) → before m (t + 1) ≡ before m t + count_at m t
unfolding before
before_next m t = ap (before m) (add-one t)

grow : (m : List ℕ) (d t : ℕ) → before m t ≤ before m (t + d)
grow m zero t = let z : t ≡ t + 0 = omega arith in subst (λ (u : ℕ). before m t ≤ before m u) z (omega arith)
grow m (suc d) t =
    let z : (t + 1) + d ≡ t + suc d = omega arith in
    let g : before m (t + 1) ≤ before m (t + suc d) = subst (λ (u : ℕ). before m (t + 1) ≤ before m u) z (grow m d (t + 1)) in
    omega (arith, before_next m t)

pub before_up : (m : List ℕ) (t e : ℕ) → t ≤ e → before m t ≤ before m e
before_up m t e h =
    let z : t + (e - t) ≡ e = omega arith in
    subst (λ (u : ℕ). before m t ≤ before m u) z (grow m (e - t) t)
