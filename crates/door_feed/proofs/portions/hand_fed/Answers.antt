-- Each arm of the match is what its case says. Assumes nothing.
use mathlib.Core.Path.{ap, sym, ◌∙◌}
use Rattle.std.specs.Prelude.{Ok}
use Rattle.feed.specs.Answers.{fed_of}
use Rattle.door_feed.specs.HandingLaws.{fed_record, fed_end, fed_need, fed_not}
use Rattle.door_feed.proofs.portions.hand_fed.Goals as goal

pub returns-in-Ok-Record : goal.returns-in-Ok-Record
returns-in-Ok-Record c =
    let arm = c.in-Ok-Record in
    fed_record _ (sym (ap fed_of (arm.is ∙ ap Ok (rw arm.is at arm.field-0-is))))

pub returns-in-Ok-End : goal.returns-in-Ok-End
returns-in-Ok-End c =
    let arm = c.in-Ok-End in
    fed_end _ (sym (ap fed_of (arm.is ∙ ap Ok (rw arm.is at arm.field-0-is))))

pub returns-in-Ok-NeedMore : goal.returns-in-Ok-NeedMore
returns-in-Ok-NeedMore c =
    let arm = c.in-Ok-NeedMore in
    fed_need _ (sym (ap fed_of (arm.is ∙ ap Ok (rw arm.is at arm.field-0-is))))

pub returns-in-Err : goal.returns-in-Err
returns-in-Err c =
    let d = c.hand_damage.ensures in
    fed_not _ c.in-Err.refusal c.number.ensures d.streams d.places d.reasons (sym (ap fed_of c.in-Err.is))
