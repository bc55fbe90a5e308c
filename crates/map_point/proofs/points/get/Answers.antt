-- In a sorted table the search gives the instrument's place, and the entry there is its only one. Assumes nothing.
use mathlib.Core.Bool.{not}
use mathlib.Core.Path.{refl, ap}
use Rattle.map_point.specs.PointsReads.{fit_in_lem, get_memory, get_unfit, get_within, get_nothing, get_symbol}
use borrow.Author.Rules.{rules}
use Rattle.map_point.proofs.points.get.Goals as goal

pub returns-then-not-points_fit : goal.returns-then-not-points_fit
returns-then-not-points_fit c =
    let a = c.args in
    record {
      right = search (rules, get_memory);
      accepted = get_unfit a.table.now a.used c.points_fit.ensures (ap not c.if-not-points_fit.true);
    }

pub place_of-place-requires : goal.place_of-place-requires
place_of-place-requires c = search (rules, fit_in_lem)

pub holds-requires : goal.holds-requires
holds-requires c = search (rules, fit_in_lem)

pub entry_at-requires : goal.entry_at-requires
entry_at-requires c = search (rules, get_within)

pub returns-then-holds : goal.returns-then-holds
returns-then-holds c = record { right = search (rules, get_symbol); accepted = λ f. refl }

pub returns-else-holds : goal.returns-else-holds
returns-else-holds c = record { right = search (rules, get_nothing); accepted = λ f. refl }
