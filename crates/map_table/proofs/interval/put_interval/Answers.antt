-- Four stores are the row put at its place. Assumes nothing.
use borrow.Author.Rules.{rules}
use Rattle.map_rules.specs.Moves.{row_set}
use Rattle.map_table.proofs.interval.put_interval.Goals as goal

pub returns : goal.returns
returns c = search (rules, row_set)
