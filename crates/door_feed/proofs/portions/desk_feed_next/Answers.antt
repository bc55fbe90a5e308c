-- The answer is handed over. Assumes nothing.
use borrow.Author.Rules.{rules}
use Rattle.door_feed.specs.HandingLaws.{next_handed}
use Rattle.door_feed.proofs.portions.desk_feed_next.Goals as goal

pub returns : goal.returns
returns c =
    next_handed c.next-answer.new.state (search rules) (search rules) (search rules) (search rules) (search rules)
    c.next-answer.ensures.says c.hand_fed.ensures
