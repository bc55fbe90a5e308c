-- No child; a child that does not come first; a child that fills the hole. Assumes nothing.
use Rattle.records_rules.specs.Sift.{child_lone, settle_turn}
use Rattle.records_state.proofs.heap.lone_child.Goals as goal

pub returns : goal.returns
returns c =
    let child = child_lone c.if-held-last.false c.requires.1 c.entry_at-child.ensures in
    settle_turn c.requires.1 child (c.comes_before.ensures.no c.if-comes_before.false)
