-- The invariant: from here on the build comes to what it comes to in all. Assumes nothing.
use native.Mathlib.Omega.{arith}
use Rattle.build_point.specs.Mappings.{going_start, going_room, going_on}
use Rattle.build_point.proofs.mappings.lay_mappings.Goals as goal

pub loop-i-init : goal.loop-i-init
loop-i-init c = going_start _ _ _ _ _ _ _ c.requires.clean

pub overflow_add-from : goal.overflow_add-from
overflow_add-from c =
    omega (
      arith,
      c.ranges,
      going_room _ _ _ _ _ _ _ c.loop-i.invariant (omega arith) c.count_at-n.ensures (omega arith),
    )

pub loop-i-preserved : goal.loop-i-preserved
loop-i-preserved c =
    going_on _ _ _ _ _ _ _ c.loop-i.invariant (omega arith) c.count_at-n.ensures c.name_at-name.ensures c.intervals_at-intervals.ensures _ _
    c.in_ok-used.ensures
