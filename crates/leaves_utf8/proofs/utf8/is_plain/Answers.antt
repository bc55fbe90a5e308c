-- No byte is above the greatest, and that is at most %x7F. Assumes nothing.
use native.Mathlib.Omega.{arith}
use borrow.Author.Tests.{leb-true}
use Rattle.leaves_utf8.proofs.utf8.is_plain.Goals as goal

pub returns : goal.returns
returns c e =
    record { each = λ k p q. omega (arith, c.greatest.ensures.each k p q, leb-true c.greatest.result 0x7F e) }
