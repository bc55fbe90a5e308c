-- What is lent is tested once, and the run is made on it. Assumes nothing.
use mathlib.Core.Path.{sym, ◌∙◌}
use native.Mathlib.Omega.{arith}
use Rattle.run_rules.specs.RowsLaws.{fits_arrays}
use Rattle.run_list.proofs.run.run.Goals as goal

pub steps-requires : goal.steps-requires
steps-requires g c =
    let fit = sym c.run_fits.ensures ∙ c.if-not-run_fits.false in
    (g.met.C.Calls.right_room _ _ (sym c.fits.ensures ∙ fits_arrays _ _ _ fit), omega (arith, c.limit_of-limit.ensures))
