-- The check refuses, or the table is as an insert asks. Assumes nothing.
use mathlib.Core.Path.{◌≡◌}
use Rattle.std.proofs.lemmas.Result.{err_from_is_err_and}
use Rattle.leaves.specs.Refusal.{number_of}
use Rattle.leaves.specs.RefusalLaws.{refused_not_done}
use Rattle.map_rules.specs.Outcomes.{check_passed, passed_table, inserted_refused, inserted_passed}
use Rattle.map_time.proofs.insert.insert.Goals as goal

pub enter-requires : goal.enter-requires
enter-requires c = passed_table _ _ _ (check_passed _ _ _ c.in_ok-check.ensures)

pub returns-in_err-check : goal.returns-in_err-check
returns-in_err-check c =
    let p = err_from_is_err_and c.from_residual.result c.from_residual.ensures.1 in
    rw (p.1, p.2) (inserted_refused _ _ _ _ (λ e. let z : number_of c.in_err-check.field-0.0 ≡ 0 = cc in refused_not_done _ z) c.in_err-check.ensures)

pub returns : goal.returns
returns c = inserted_passed _ _ _ _ (check_passed _ _ _ c.in_ok-check.ensures) c.enter.ensures
