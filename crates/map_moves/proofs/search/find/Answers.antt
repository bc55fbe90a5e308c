-- The last interval in use lies before n, or the two beside the answer tell. Assumes nothing.
use borrow.Author.Rules.{rules, of_calls}
use Rattle.std.proofs.Common.{le_refl}
use Rattle.map_table.specs.Places.{divided}
use Rattle.map_rules.specs.Search.{bracket_found}
use Rattle.map_moves.proofs.search.find.Goals as goal

pub returns : goal.returns
returns c = bracket_found (divided c.first_not.ensures (λ k b z. search (rules, of_calls))) (le_refl _)
