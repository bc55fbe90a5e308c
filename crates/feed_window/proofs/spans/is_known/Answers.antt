-- The cases of what was found. Assumes nothing.
use Rattle.std.specs.Prelude.{◌≡◌, refl, true, false, Option, Some, None, Ok, Err, is_some}
use borrow.Author.Tests.{eq-eqb, ne_eqb}
use Rattle.leaves.specs.Frame.{Read, whole, ended, damaged, head_of}
use Rattle.leaves.specs.declared.frame.Head.{Head}
use Rattle.leaves.specs.declared.refusal.Reason.{Reason}
use Rattle.leaves.specs.declared.refusal.Reason.TheVariants.{Short, BadLength, PastEnd, ShortBody}
use Rattle.leaves.specs.contracts.refusal.Reason.{the_type}
use denote.Enum.Bare.{sameb}
use Rattle.feed_rules.specs.Spans.{settled}
use Rattle.feed_window.proofs.spans.is_known.Goals as goal

over : (r : Read) → true ≡ settled true r
unfolding settled
over ended = refl
over (damaged k) = refl
over (whole l κ ι t) = refl

going : (h : Option Head) → is_some h ≡ settled false (head_of (Ok h))
unfolding settled
going None = refl
going (Some h) = refl

bad : (r : Reason) → sameb the_type r BadLength ≡ settled false (head_of (Err r))
unfolding settled
bad Short = refl
bad BadLength = refl
bad PastEnd = refl
bad ShortBody = refl

pub returns-then-span-ne0 : goal.returns-then-span-ne0
returns-then-span-ne0 c = rw (ne_eqb _ _ c.if-span-ne0.true) (over (head_of c.args.found))

pub returns-in-Ok : goal.returns-in-Ok
returns-in-Ok c = rw (c.is_some.ensures, c.in-Ok.is, eq-eqb _ _ c.if-span-ne0.false) (going c.in-Ok.head)

pub returns-in-Err : goal.returns-in-Err
returns-in-Err c = rw (c.eq.ensures, c.in-Err.is, eq-eqb _ _ c.if-span-ne0.false) (bad c.in-Err.reason)
