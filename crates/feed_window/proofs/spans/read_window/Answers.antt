-- The part of the window that the span names is read at its front. Assumes nothing.
use mathlib.Core.Path.{◌≡◌, refl, sym}
use mathlib.Core.Bool.{Bool, true, false, not, cond}
use borrow.Author.Rules.{rules}
use lib.Dec.{eqb}
use Rattle.std.specs.Prelude.{Option, Result}
use Rattle.std.specs.Bool.{then_some}
use Rattle.std.proofs.Math.Option.{some, none}
use Rattle.leaves.specs.Frame.{head_of, frame_at}
use Rattle.leaves.specs.declared.frame.Head.{Head}
use Rattle.leaves.specs.declared.refusal.Reason.{Reason}
use Rattle.feed_rules.specs.Spans.{dropped, bytes_in}
use Rattle.feed_rules.proofs.SpansLaws.{known_read}
use Rattle.feed_window.specs.Spans.{span_number, read_known}
use Rattle.feed_window.proofs.SpanNumber.{number_start, number_fill, number_ended}
use Rattle.feed_window.proofs.spans.read_window.Goals as goal

-- what was found, where it is known
found_known : (b : Bool) (r : Result (Option Head) Reason) → read_known (then_some b r) ≡ cond b (some (head_of r)) none
found_known true r = refl
found_known false r = refl

pub returns-clause-found_value : goal.returns-clause-found_value
returns-clause-found_value c =
    let s = c.without-span.result in
    let e = c.without-span.ensures in
    let e₁ = number_start s (search rules) in
    let e₂ = number_fill s (search rules) (search rules) in
    let e₃ = number_ended s (search rules) (search rules) in
    let at : head_of c.read_within-found.result ≡ frame_at (bytes_in c.args.window.now c.args.stream (dropped (span_number c.args.span) c.args.skip)) 0 =
    rw (← e, e₁, e₂) (rw (c.from.ensures, c.from-2.ensures) at c.read_within-found.ensures) in
    let known = known_read (bytes_in c.args.window.now c.args.stream (dropped (span_number c.args.span) c.args.skip)) (not (eqb s.ended 0)) in
    rw (c.then_some.ensures, found_known c.is_known-known.result c.read_within-found.result, c.is_known-known.ensures, at, ← e₃, e)
    (sym (rw (← e₃, e) at known))
