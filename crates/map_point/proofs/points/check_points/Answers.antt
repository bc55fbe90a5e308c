-- The memory is tested, then the names, then the table. Assumes nothing.
use Rattle.map_point.specs.PointsReads.{fit_in_lem, check_memory, check_names_lem, check_no, check_yes}
use borrow.Author.Rules.{rules}
use Rattle.map_point.proofs.points.check_points.Goals as goal

pub returns-then-names-gt-NAMES : goal.returns-then-names-gt-NAMES
returns-then-names-gt-NAMES c = search (rules, check_memory, check_names_lem)

pub well_formed-requires : goal.well_formed-requires
well_formed-requires c = search (rules, fit_in_lem)

pub returns-then-well_formed : goal.returns-then-well_formed
returns-then-well_formed c = search (rules, check_yes)

pub returns-else-well_formed : goal.returns-else-well_formed
returns-else-well_formed c = search (rules, check_no)
