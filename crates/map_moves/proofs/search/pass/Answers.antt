-- What was walked over does not lie after n. Assumes nothing.
use borrow.Author.Rules.{rules}
use Rattle.map_rules.specs.Search.{walked_none}
use Rattle.map_moves.proofs.search.pass.Goals as goal

pub loop-hi-init : goal.loop-hi-init
loop-hi-init c = search (rules, walked_none)
