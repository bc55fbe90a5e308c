-- The parts of the head, and where the bytes stand. Assumes nothing.
use borrow.Author.Rules.{rules}
use Rattle.records_rules.specs.View.{rec_in}
use Rattle.feed_rules.specs.Spans.{handed_out}
use Rattle.feed_window.proofs.SpanNumber.{number_start}
use Rattle.feed.proofs.turns.hand_out.Goals as goal

pub returns : goal.returns
unfolding handed_out rec_in
returns c =
    let e = c.handed.ensures in
    rw (c.from.ensures, number_start c.args.span (search rules)) cc
