-- Each arm of the match is what its case says. Assumes nothing.
use mathlib.Core.Path.{refl, ap, sym, ◌∙◌}
use Rattle.std.specs.Prelude.{Ok}
use Rattle.run_list.specs.Run.{last_of}
use Rattle.door_run.specs.Handing.{ran_done, ran_needs, ran_not}
use Rattle.door_run.proofs.run.hand_made.Goals as goal

pub returns-in-Ok-Going : goal.returns-in-Ok-Going
returns-in-Ok-Going c =
    let arm = c.in-Ok-Going in
    ran_done _ refl refl (sym (ap last_of (arm.is ∙ ap Ok (rw arm.is at arm.field-0-is))))

pub returns-in-Ok-End : goal.returns-in-Ok-End
returns-in-Ok-End c =
    let arm = c.in-Ok-End in
    ran_done _ refl refl (sym (ap last_of (arm.is ∙ ap Ok (rw arm.is at arm.field-0-is))))

pub returns-in-Ok-NeedMore : goal.returns-in-Ok-NeedMore
returns-in-Ok-NeedMore c =
    let arm = c.in-Ok-NeedMore in
    ran_needs _ refl refl (sym (ap last_of (arm.is ∙ ap Ok (rw arm.is at arm.field-0-is))))

pub returns-in-Err : goal.returns-in-Err
returns-in-Err c =
    let d = c.hand_damage.ensures in
    ran_not _ refl refl c.in-Err.refusal c.number.ensures c.moved.ensures c.moved-in-Err.ensures d.streams d.places d.reasons
    (sym (ap last_of c.in-Err.is))
