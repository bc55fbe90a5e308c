-- The bytes are copied one place up. Assumes nothing.
use borrow.Author.Rules.{rules}
use Rattle.map_point.specs.EntriesLaws.{moved_up}
use Rattle.map_point.proofs.entries.move_up.Goals as goal

pub returns : goal.returns
returns c = search (rules, moved_up)
