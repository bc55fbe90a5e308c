-- `header::total` meets its contract. The invariant: the sum is that of the counts passed, each below 2^32. Assumes nothing.
use Rattle.std.specs.Prelude.{◌≡◌, refl, ℕ, ◌+◌, ◌*◌}
use Rattle.std.proofs.Common.{sym, ap, ◌∙◌, arith}
use Rattle.metadata_rules.specs.Words.{before, count_at}
use Rattle.metadata_rules.specs.WordsLaws.{before_next}
use Rattle.metadata_form.proofs.header.total.Goals as goal

pub loop-i-init : goal.loop-i-init
unfolding before
loop-i-init c = (refl, omega arith)

pub overflow_add-sum : goal.overflow_add-sum
unfolding count_at
overflow_add-sum c =
    let a = c.type_inv.mappings (2 * c.loop-i.i + 1) in let b = c.count_at-sum.ensures in omega (arith, c.requires.1)

pub loop-i-preserved : goal.loop-i-preserved
unfolding count_at
loop-i-preserved c =
    let a = c.type_inv.mappings (2 * c.loop-i.i + 1) in
    let b = c.count_at-sum.ensures in
    let d = before_next c.args.mappings.now c.loop-i.i in (omega arith, omega arith)
