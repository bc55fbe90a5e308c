-- Each arm of the match is what its case says. Assumes nothing.
use mathlib.Core.Path.{ap, sym, ◌∙◌}
use Rattle.std.specs.Prelude.{Ok}
use Rattle.records.specs.Merge.{turn_of}
use Rattle.door_records.specs.MergeLaws.{handed_record, handed_end, handed_not}
use Rattle.door_records.proofs.merge.hand_turn.Goals as goal

pub returns-in-Ok-Some : goal.returns-in-Ok-Some
returns-in-Ok-Some c =
    let some = rw c.in-Ok-Some.is at c.in-Ok-Some.field-0-is in
    handed_record _ (sym (ap turn_of (c.in-Ok-Some.is ∙ ap Ok some)))

pub returns-in-Ok-None : goal.returns-in-Ok-None
returns-in-Ok-None c =
    let none = rw c.in-Ok-None.is at c.in-Ok-None.field-0-is in
    handed_end _ (sym (ap turn_of (c.in-Ok-None.is ∙ ap Ok none)))

pub returns-in-Err : goal.returns-in-Err
returns-in-Err c =
    let d = c.hand_damage.ensures in
    handed_not _ c.in-Err.refusal c.number.ensures d.streams d.places d.reasons (sym (ap turn_of c.in-Err.is))
