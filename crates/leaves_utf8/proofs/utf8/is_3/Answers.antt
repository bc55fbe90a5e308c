-- The first two bytes, then a UTF8-tail. Assumes nothing.
use mathlib.Core.Path.{sym, ◌∙◌}
use Rattle.leaves_utf8.specs.Utf8Bytes.{by_two_3}
use Rattle.leaves_utf8.proofs.utf8.is_3.Goals as goal

pub returns-then-begins_3 : goal.returns-then-begins_3
returns-then-begins_3 c =
    c.is_tail.ensures ∙ rw (sym c.begins_3.ensures ∙ c.if-begins_3.true) at (by_two_3 c.args.a c.args.b c.args.c)

pub returns-else-begins_3 : goal.returns-else-begins_3
returns-else-begins_3 c =
    c.if-begins_3.false ∙ rw (sym c.begins_3.ensures ∙ c.if-begins_3.false) at (by_two_3 c.args.a c.args.b c.args.c)
