-- A place among others, by a test of two neighbours. Assumes nothing.
use Rattle.std.specs.Prelude.{ℕ, ◌≡◌, ◌+◌, ◌≤◌, ◌<◌, Bool, true, false, ltb}
use Rattle.std.proofs.Common.{sym, arith}
use borrow.Author.Tests.{ltb-true, ltb-false}
use Rattle.theory.specs.Bracket.{Bracket}

-- a place among so many: the one before it passes the test, it itself does not; `tells k b` says that the test answers b of k
pub record Divides (tells : ℕ → Bool → Type 0) (count place : ℕ) : Type 0 where
  pub within : place ≤ count
  pub before : (k : ℕ) → k + 1 ≡ place → tells k true
  pub beyond : place < count → tells place false

-- where each place has a number, and the test asks whether it is below c
pub divided : {tells : ℕ → Bool → Type 0} {key : ℕ → ℕ} {count c place : ℕ} → Divides tells count place
    → ((k : ℕ) (b : Bool) → tells k b → b ≡ ltb (key k) c) → Bracket key count c place place
divided {key = key} {c = c} {place = place} d h = record {
  lo_le = omega arith;
  hi_le = d.within;
  below = λ k e. ltb-true (key k) c (sym (h k true (d.before k e)));
  above = λ l. ltb-false (key place) c (sym (h place false (d.beyond l)));
}
