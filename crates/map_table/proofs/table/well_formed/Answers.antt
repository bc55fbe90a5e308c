-- What is left to check behind an interval decides. Assumes nothing.
use Prim.Native.Nat.{◌-◌}
use borrow.Author.Rules.{rules}
use Rattle.map_rules.specs.Checks.{check_none, check_not, check_first, check_one, check_other, check_two, check_last, check_end}
use Rattle.map_table.proofs.table.well_formed.Goals as goal

pub returns-then-used-eq0 : goal.returns-then-used-eq0
returns-then-used-eq0 c = search (rules, check_none)

pub returns-then-not-is_valid : goal.returns-then-not-is_valid
returns-then-not-is_valid c = search (rules, check_not)

pub loop-k-init : goal.loop-k-init
loop-k-init c = search (rules, check_first)

pub returns-then-not-is_next : goal.returns-then-not-is_next
returns-then-not-is_next c = search (rules, check_one)

pub returns-then-not-is_next-2 : goal.returns-then-not-is_next-2
returns-then-not-is_next-2 c = search (rules, check_other)

pub loop-k-preserved : goal.loop-k-preserved
loop-k-preserved c =
    check_two c.loop-k.invariant c.loop-k-test.true c.interval_at-y.ensures c.is_next.ensures c.if-not-is_next.false-raw
    c.interval_at-x-in-loop-k.ensures c.is_next-in-loop-k.ensures c.if-not-is_next-2.false-raw

pub returns-then-k-used : goal.returns-then-k-used
returns-then-k-used c = search (rules, check_last)

pub returns-else-k-used : goal.returns-else-k-used
returns-else-k-used c = search (rules, check_end)
