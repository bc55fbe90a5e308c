-- Bytes at the front stay. Assumes nothing.
use Rattle.feed_rules.specs.Laying.{paste_self}
use Rattle.feed_window.proofs.portions.move_front.Goals as goal

pub returns-then-start-eq0 : goal.returns-then-start-eq0
returns-then-start-eq0 c = let a = c.args in paste_self a.window.now a.part a.start a.fill c.if-start-eq0.true
