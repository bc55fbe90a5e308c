-- The hinted interval, the following one or the last that has started: on an ordered table each is that last one. Assumes nothing.
use borrow.Author.Rules.{rules}
use Rattle.map_rules.specs.Arrivals.{begin_at, begun_here, arrive_hit, look_last}
use Rattle.map_look.proofs.lookup.look_up.Goals as goal

pub returns-then-covers : goal.returns-then-covers
returns-then-covers c = λ w.
    let e = begin_at _ _ _ w c.turn-begin.ensures.right in
    look_last _ _ _ _ _ w
    (arrive_hit _ _ _ _ w (begun_here _ _ _ w) _ _ (search rules) c.covers.ensures.right c.if-covers.true c.seen_at.ensures.0 c.seen_at.ensures.1)

pub returns-then-covers-2 : goal.returns-then-covers-2
returns-then-covers-2 c = λ w.
    let e = begin_at _ _ _ w c.turn-begin.ensures.right in
    let covered = c.covers-then-hint-lt-HINT_LIMIT.ensures.right in
    let seen = c.seen_at-then-covers-2.ensures in
    look_last _ _ _ _ _ w (arrive_hit _ _ _ _ w (begun_here _ _ _ w) _ _ (search rules) covered c.if-covers-2.true seen.0 seen.1)

pub returns : goal.returns
returns c = λ w. look_last _ _ _ _ _ w (c.last_started.ensures _ (begin_at _ _ _ w c.turn-begin.ensures.right) w (begun_here _ _ _ w))
