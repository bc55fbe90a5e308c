-- Off an ordered table nothing is promised; on one the lookup is that of the rows. Assumes nothing.
use borrow.Author.Rules.{rules}
use Rattle.map_rules.specs.Looks.{looked_unfit, looked_fit}
use Rattle.map_look.proofs.lookup.get_for_ts.Goals as goal

pub returns-then-not-table_fits-clause-right : goal.returns-then-not-table_fits-clause-right
returns-then-not-table_fits-clause-right c = λ d. looked_unfit _ _ _ _ _ c.table_fits.ensures (search rules)

pub returns-clause-right : goal.returns-clause-right
returns-clause-right c = looked_fit _ _ _ _ _ c.table_fits.ensures (search rules) c.look_up-seen.ensures
