-- Each arm of the match is what its case says. Assumes nothing.
use borrow.Author.Rules.{rules}
use Rattle.door_feed.specs.HandingLaws.{open_done, open_not}
use Rattle.door_feed.proofs.portions.desk_feed_open.Goals as goal

pub returns-in-Ok : goal.returns-in-Ok
returns-in-Ok c =
    open_done c.open.new.state (search rules) (search rules) (search rules) (search rules) (search rules) c.in-Ok.ensures.says

pub returns-in-Err : goal.returns-in-Err
returns-in-Err c =
    open_not c.open.new.state (search rules) (search rules) (search rules) (search rules) (search rules) c.in-Err.refusal
    c.number.ensures c.in-Err.ensures.says
