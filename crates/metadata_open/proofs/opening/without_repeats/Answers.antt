-- `opening::without_repeats` meets its contract: the sets, then the mappings. Assumes nothing.
use Rattle.metadata_form.specs.Header.{lent, lent_mut}
use Rattle.metadata_open.specs.Opening.{open_stands}
use Rattle.metadata_open.proofs.opening.without_repeats.Goals as goal

pub returns-clause-stands : goal.returns-clause-stands
returns-clause-stands c =
    open_stands c.args.header (lent c.args.lists) (lent_mut c.args.out.now) c.requires _ _ c.alone-symbols.ensures _ _ c.alone-partial.ensures _ _ c.alone-not_found.ensures _ _ _ _ c.lose_repeats-laid.ensures
