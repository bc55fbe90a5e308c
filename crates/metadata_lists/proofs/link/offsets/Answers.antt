-- `link::offsets` meets its contract. The invariant: the places passed hold how many intervals stand before them. Assumes nothing.
use mathlib.Core.Path.{◌≡◌, refl}
use Prim.Native.Nat.{◌≤◌, ◌+◌}
use native.Mathlib.Omega.{arith}
use lib.ListN.{length-set}
use Rattle.metadata_rules.specs.Words.{before}
use Rattle.metadata_rules.specs.WordsLaws.{before_next, before_up}
use Rattle.metadata_lists.specs.Link.{off_turn}
use Rattle.metadata_lists.proofs.link.offsets.Goals as goal

pub loop-t-init : goal.loop-t-init
unfolding before
loop-t-init c = (refl, refl, λ s h. absurd (omega arith))

pub overflow_add-o : goal.overflow_add-o
overflow_add-o c =
    let a = c.args in
    let n = c.count_at-o.ensures in
    let u : before a.mappings.now (c.loop-t.t + 1) ≤ before a.mappings.now a.count = before_up a.mappings.now
    (c.loop-t.t + 1) a.count (omega arith) in
    omega (arith, before_next a.mappings.now c.loop-t.t, c.requires.2, c.loop-t.invariant.1)

pub loop-t-preserved : goal.loop-t-preserved
loop-t-preserved c =
    let a = c.args in
    let n = c.count_at-o.ensures in (
      simp length-set c.loop-t.invariant.0,
      omega (arith, before_next a.mappings.now c.loop-t.t, c.loop-t.invariant.1),
      off_turn a.mappings.now c.loop-t.starts _ c.loop-t.t c.loop-t.o (omega (arith, c.requires.1))
          c.loop-t.invariant.1 refl c.loop-t.invariant.2,
    )
