-- UTF8-1 alone is UTF-8. Assumes nothing.
use mathlib.Core.Path.{sym, ap, ◌∙◌}
use native.Mathlib.Omega.{arith}
use lib.ListN.{length}
use Rattle.theory.specs.Slices.{whole}
use Rattle.leaves_utf8.specs.Utf8.{is_utf8}
use Rattle.leaves_utf8.specs.Utf8Laws.{plain_is}
use Rattle.leaves_utf8.proofs.utf8.is_utf8.Goals as goal

pub returns-then-is_plain : goal.returns-then-is_plain
returns-then-is_plain c =
    let s = c.args.text.now in
    let plain = c.is_plain.ensures c.if-is_plain.true in
    sym (ap is_utf8 (sym (whole s)) ∙ plain_is s 0 (length s) 0 (length s) plain (omega arith) (omega arith) (omega arith) (omega arith))
