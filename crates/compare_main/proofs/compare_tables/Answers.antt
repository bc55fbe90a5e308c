-- The status is that of the check. Assumes nothing.
use Rattle.std.specs.Prelude.{Ok, Err}
use Rattle.compare_main.specs.Asked.{checked_status_lem, ends_same}
use Rattle.compare_main.proofs.compare_tables.Goals as goal

pub returns-in-Ok : goal.returns-in-Ok
returns-in-Ok g c = ends_same _ (checked_status_lem _ _ _ (Ok c.in-Ok.tables) c.in-Ok.ensures.answer) c.tell_all.ensures

pub returns-in-Err : goal.returns-in-Err
returns-in-Err g c = ends_same _ (checked_status_lem _ _ _ (Err c.in-Err.refusal) c.in-Err.ensures.answer) c.say.ensures
