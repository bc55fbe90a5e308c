-- What the two places tell, in an ordered table, is the last that has started. Assumes nothing.
use borrow.Author.Rules.{rules}
use Rattle.map_rules.specs.Arrivals.{arrive_in, arrive_past, arrive_none}
use Rattle.map_look.proofs.lookup.last_started.Goals as goal

pub returns-then-moment-last : goal.returns-then-moment-last
returns-then-moment-last c = λ g q w a.
    arrive_in _ _ _ _ w a q c.beyond-end.ensures.right _ c.if-end-begin.false c.interval_from-last.ensures c.if-moment-last.true

pub returns-else-moment-last : goal.returns-else-moment-last
returns-else-moment-last c = λ g q w a.
    arrive_past _ _ _ _ w a q c.beyond-end.ensures.right _ c.if-end-begin.false c.interval_from-last.ensures c.if-moment-last.false

pub returns-then-end-begin : goal.returns-then-end-begin
returns-then-end-begin c = λ g q w a. search (rules, arrive_none)
