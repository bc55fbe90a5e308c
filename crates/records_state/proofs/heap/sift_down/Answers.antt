-- The heap with the moving stream written into the hole keeps its order but for the hole's children; each turn moves the hole to the
-- least child. The measure is held - hole. Assumes nothing.
use native.Mathlib.Omega.{arith}
use Rattle.records_rules.specs.Sift.{sift_start, sift_stay, sift_turn, child_lesser}
use Rattle.records_state.proofs.heap.sift_down.Goals as goal

pub loop-hole-init : goal.loop-hole-init
loop-hole-init c = sift_start c.if-held-from.false c.requires.0 c.entry_at-moving.ensures.stream

pub returns-then-comes_before : goal.returns-then-comes_before
returns-then-comes_before c =
    let child = child_lesser c.loop-hole-test.true c.lesser-child.ensures in
    sift_stay c.loop-hole.invariant child c.entry_at-moving.ensures.time (c.comes_before.ensures.yes c.if-comes_before.true)

pub loop-hole-preserved : goal.loop-hole-preserved
loop-hole-preserved c =
    let child = child_lesser c.loop-hole-test.true c.lesser-child.ensures in
    sift_turn c.loop-hole.invariant child c.entry_at-moving.ensures.time (c.comes_before.ensures.no c.if-comes_before.false)

pub bounds-heap-end : goal.bounds-heap-end
bounds-heap-end c =
    let end = c.lone_child-end in
    omega (arith, c.loop-hole.invariant.room, end.ensures.inside, end.auto.heap)

pub returns : goal.returns
returns c = c.lone_child-end.ensures.done c.entry_at-moving.ensures.time c.loop-hole.invariant
