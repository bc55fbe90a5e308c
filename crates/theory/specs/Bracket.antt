-- A binary search between two ends, among places that have a number each: the number before the lower end is below the one that is
-- looked for, the one at the upper end is not. The places need not be in order: what is said is what the two ends tell. Assumes nothing.
use Rattle.std.specs.Prelude.{◌≡◌, ℕ, ◌+◌, ◌-◌, ◌/◌, ◌≤◌, ◌<◌}
use Rattle.std.proofs.Common.{arith}

pub record Bracket (key : ℕ → ℕ) (used c lo hi : ℕ) : Type 0 where
  pub lo_le : lo ≤ hi
  pub hi_le : hi ≤ used
  pub below : (k : ℕ) → k + 1 ≡ lo → key k < c
  pub above : hi < used → c ≤ key hi

pub bracket_all : (key : ℕ → ℕ) (used c : ℕ) → Bracket key used c 0 used
bracket_all key used c = record { lo_le = omega arith; hi_le = omega arith; below = λ k e. absurd (omega arith); above = λ h. absurd (omega arith) }

module _ {key : ℕ → ℕ} {used c lo hi s : ℕ} (b : Bracket key used c lo hi) (h : lo < hi) (e : s ≡ key (lo + (hi - lo) / 2)) where
  pub bracket_up : s < c → Bracket key used c (lo + (hi - lo) / 2 + 1) hi
  bracket_up l = record {
    lo_le = omega arith;
    hi_le = b.hi_le;
    below = λ k q. let q' : k ≡ lo + (hi - lo) / 2 = omega arith in rw (q', ← e) l;
    above = b.above;
  }

  pub bracket_down : c ≤ s → Bracket key used c lo (lo + (hi - lo) / 2)
  bracket_down l = record { lo_le = omega arith; hi_le = omega (arith, b.hi_le); below = b.below; above = λ k. rw (← e) l }

-- where the ends meet, both tell of one place
pub bracket_met : {key : ℕ → ℕ} {used c lo hi : ℕ} → Bracket key used c lo hi → hi ≤ lo → Bracket key used c lo lo
bracket_met {lo = lo} {hi = hi} b h = record {
  lo_le = omega arith;
  hi_le = omega (arith, b.hi_le, b.lo_le);
  below = b.below;
  above = λ l. let e : lo ≡ hi = omega (arith, b.lo_le) in rw e (b.above (omega arith));
}
