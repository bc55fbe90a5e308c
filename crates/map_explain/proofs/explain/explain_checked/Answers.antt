-- Where the instrument begins and how far the moment reaches tell whether one of its intervals has started. Assumes nothing.
use Rattle.map_explain.specs.ExplainLaws.{placed}
use borrow.Author.Rules.{rules}
use Rattle.map_explain.proofs.explain.explain_checked.Goals as goal

pub started-requires : goal.started-requires
started-requires c =
    let r = c.reached-end.ensures in
    (placed c.requires c.beginning-begin.ensures.right r.right r.within, search rules)

pub returns-then-begin-end : goal.returns-then-begin-end
returns-then-begin-end c = c.started.ensures

pub returns-else-begin-end : goal.returns-else-begin-end
returns-else-begin-end c =
    let r = c.reached-end.ensures in
    c.not_started.ensures _ _ (placed c.requires c.beginning-begin.ensures.right r.right r.within) c.if-begin-end.false
