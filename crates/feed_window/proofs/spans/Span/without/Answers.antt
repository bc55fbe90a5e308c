-- Two tests of the fill. Assumes nothing.
use borrow.Author.Rules.{rules}
use native.Mathlib.Omega.{arith}
use mathlib.Core.Path.{◌∙◌}
use Rattle.feed_rules.specs.SpansLaws.{dropped_none, dropped_some}
use Rattle.feed_window.proofs.SpanNumber.{number_fill, number_of_parts}
use Rattle.feed_window.proofs.spans.Span.without.Goals as goal

pub returns-then-from-skip : goal.returns-then-from-skip
returns-then-from-skip c =
    let f = number_fill c.args.self (search rules) (search rules) in
    dropped_none _ _ (omega (arith, f, c.if-from-skip.true))

pub returns : goal.returns
returns c =
    let f = number_fill c.args.self (search rules) (search rules) in
    rw (c.from-3.ensures, c.from-2.ensures) (number_of_parts _ ∙ dropped_some _ _ (omega (arith, f, c.if-from-skip.false)))
