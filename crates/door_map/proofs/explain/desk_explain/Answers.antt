-- Done, the explanation's numbers are handed over, and a refusal leaves what was held. Assumes nothing.
use Rattle.door_map.specs.LentLaws.{explains_done, explains_not}
use Rattle.door_map.proofs.explain.desk_explain.Goals as goal

pub returns-in-Ok : goal.returns-in-Ok
returns-in-Ok c = explains_done _ c.in-Ok.ensures c.told-after.ensures

pub returns-in-Err : goal.returns-in-Err
returns-in-Err c = explains_not _ c.in-Err.refusal c.number.ensures c.in-Err.ensures
