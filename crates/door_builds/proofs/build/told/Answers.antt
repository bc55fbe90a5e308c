-- A done build's places, a refusal's number. Assumes nothing.
use Rattle.std.proofs.Common.{◌∙◌}
use Rattle.door_builds.specs.Build.{told_done, told_refused}
use Rattle.door_builds.proofs.build.told.Goals as goal

pub returns-in-Ok : goal.returns-in-Ok
returns-in-Ok c = let e = told_done c.in-Ok.places in rw c.in-Ok.is (record { returns = e.0; counts = e.1 })

pub returns-in-Err : goal.returns-in-Err
returns-in-Err c = let e = told_refused c.in-Err.refusal in rw c.in-Err.is (record { returns = c.number.ensures ∙ e.0; counts = e.1 })
