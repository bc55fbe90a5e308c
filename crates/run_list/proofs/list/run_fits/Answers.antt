-- The tests of the definition, one after the other. Assumes nothing.
use mathlib.Core.Path.{◌≡◌}
use mathlib.Core.Bool.{Bool, true, false}
use mathlib.Core.Logic.{◌⊎◌, inl, inr}
use Prim.Native.Nat.{ℕ, ◌<◌}
use borrow.Author.Rules.{rules}
use borrow.Author.Tests.{lt-leb, le-leb}
use Rattle.run_rules.specs.Rows.{run_fits}
use Rattle.run_list.proofs.list.run_fits.Goals as goal

wrong : (arrays : Bool) (allowance words : ℕ) → ((arrays ≡ true) × (4096 < allowance)) ⊎ (arrays ≡ false) → false ≡ run_fits arrays allowance words
unfolding run_fits
wrong arrays allowance words (inl t) = simp (t.0, lt-leb allowance 4096 t.1)
wrong arrays allowance words (inr e) = simp e

pub returns-then-allowance-le-CALLS : goal.returns-then-allowance-le-CALLS
unfolding run_fits
returns-then-allowance-le-CALLS c = let t = c.if-allowance-le-CALLS.true in simp (t.0, le-leb _ _ t.1)

pub returns-else-allowance-le-CALLS : goal.returns-else-allowance-le-CALLS
returns-else-allowance-le-CALLS c = rw (← wrong _ _ _ c.if-allowance-le-CALLS.either) (search rules)
