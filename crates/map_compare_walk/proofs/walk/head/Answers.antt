-- The interval from the later of its start and the moment. Assumes nothing.
use Rattle.map_compare_walk.specs.StepLaws.{head_made}
use borrow.Author.Rules.{rules}
use Rattle.map_compare_walk.proofs.walk.head.Goals as goal

pub returns : goal.returns
returns c = search (rules, head_made)
