-- Three places of one row written. Assumes nothing.
use Rattle.std.proofs.Common.{arith, rules}
use lib.ListN.{length-set}
use Rattle.run_rules.specs.Rows.{row}
use Rattle.run_list.proofs.list.put_row.Goals as goal

pub bounds-list-at-2 : goal.bounds-list-at-2
bounds-list-at-2 c = simp length-set (omega arith)

pub bounds-list-at-3 : goal.bounds-list-at-3
bounds-list-at-3 c = simp length-set (omega arith)

pub returns : goal.returns
unfolding row
returns c = search rules
