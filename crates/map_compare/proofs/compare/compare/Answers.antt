-- A refusal of the tables, or the room judged. Assumes nothing.
use mathlib.Core.Path.{ap, ◌∙◌}
use native.Mathlib.Omega.{arith}
use lib.ListN.{length}
use Rattle.map_compare_rules.specs.Memory.{lay_stretches}
use Rattle.map_compare.specs.CompareLaws.{compared_err, compared_no_room, compared_done, holds_stretches}
use Rattle.map_compare.proofs.compare.compare.Goals as goal

pub returns-in_err-tables : goal.returns-in_err-tables
returns-in_err-tables c = compared_err _ _ _ _ _ _ _ _ _ c.from_residual.ensures.1 c.in_err-tables.ensures.answer

pub returns-then-room-needed : goal.returns-then-room-needed
returns-then-room-needed c =
    let e = holds_stretches c.in_ok-tables.ensures.whole in
    compared_no_room _ _ _ _ _ _ c.in_ok-tables.ensures.answer (omega (arith, c.needed.ensures.over c.if-room-needed.true, ap length e))

pub returns : goal.returns
returns c =
    let e = holds_stretches c.in_ok-tables.ensures.whole in
    let l = c.lay.ensures in
    compared_done _ _ _ _ _ _ c.in_ok-tables.ensures.answer (l.count ∙ ap length e)
    (omega (arith, l.count, c.needed.ensures.fits c.if-room-needed.false)) (l.list ∙ ap (λ ds. lay_stretches c.args.stretches.now 0 ds) e)
