-- The span is tested, then the least of three. Assumes nothing.
use borrow.Author.Rules.{rules}
use native.Mathlib.Omega.{arith}
use Rattle.feed_window.proofs.SpanNumber.{none_taken, some_taken}
use Rattle.feed_window.proofs.portions.room_for.Goals as goal

pub returns-then-from-fill-gt-WINDOW-clause-value : goal.returns-then-from-fill-gt-WINDOW-clause-value
returns-then-from-fill-gt-WINDOW-clause-value c =
    none_taken c.args.span (search rules) (search rules) _ _ _ _ (omega (arith, c.if-from-fill-gt-WINDOW.true))

pub returns-clause-value : goal.returns-clause-value
returns-clause-value c =
    let t = some_taken c.args.span (search rules) (search rules) c.args.size c.args.mark c.args.place c.args.head
    (omega (arith, c.if-from-fill-gt-WINDOW.false)) in
    simp (c.min-2.ensures, c.min.ensures, c.saturating_sub-most.ensures, c.saturating_sub-had.ensures, c.counting.ensures, c.from-fill.ensures) t
