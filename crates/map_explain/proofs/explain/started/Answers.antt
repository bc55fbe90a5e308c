-- The last interval that has started covers the moment, or the next is the instrument's too, or it is the last. Assumes nothing.
use Rattle.map_explain.specs.ExplainLaws.{in_told, between_told, after_told}
use Rattle.map_explain.proofs.explain.started.Goals as goal

pub returns-then-moment-x : goal.returns-then-moment-x
returns-then-moment-x c = in_told c.requires.0 c.requires.1 c.interval_at-x.ensures c.numbered-last.ensures c.if-moment-x.true

pub returns-in-Some : goal.returns-in-Some
returns-in-Some c =
    let y = c.in-Some.ensures in
    between_told c.requires.0 c.requires.1 c.interval_at-x.ensures c.numbered-last.ensures c.if-moment-x.false y.0 y.1 c.numbered.ensures

pub returns-in-None : goal.returns-in-None
returns-in-None c =
    after_told c.requires.0 c.requires.1 c.interval_at-x.ensures c.numbered-last.ensures c.if-moment-x.false c.in-None.ensures
