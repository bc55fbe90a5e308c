-- `opening::finish` meets its contract. Assumes nothing.
use mathlib.Core.Path.{sym, ◌∙◌}
use Rattle.metadata_form.specs.Header.{lent}
use Rattle.metadata_open.specs.Opening.{finish_unfit, finish_done}
use Rattle.metadata_open.proofs.opening.finish.Goals as goal

pub returns-then-not-metadata_fits : goal.returns-then-not-metadata_fits
returns-then-not-metadata_fits c =
    finish_unfit c.args.header (lent c.args.lists) (sym c.metadata_fits.ensures ∙ c.if-not-metadata_fits.true)

pub returns : goal.returns
returns c = finish_done c.args.header (lent c.args.lists) (sym c.metadata_fits.ensures ∙ c.if-not-metadata_fits.false)
