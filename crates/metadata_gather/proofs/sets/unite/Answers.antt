-- `sets::unite` meets its contract: the arrivals of one side, then those of the other, then the test of all that arrived. Assumes nothing.
use mathlib.Core.Path.{sym, subst}
use Rattle.metadata_gather.specs.Arrivals.{Marked, marked_none}
use Rattle.metadata_gather.specs.Sets.{first_few, all_united, united_few, is_united}
use native.Mathlib.Omega.{arith}
use Rattle.metadata_gather.proofs.sets.unite.Goals as goal

pub add_all-met-requires : goal.add_all-met-requires
add_all-met-requires c = (omega arith, c.requires.1, marked_none 4096)

pub add_all-count-requires : goal.add_all-count-requires
add_all-count-requires c =
    let a = c.args in
    let f = first_few _ a.out.now _ _ _ c.add_all-met.ensures in
    (omega arith, omega (arith, c.requires.1), subst (Marked _) (sym c.add_all-met.ensures.stand) c.add_all-met.ensures.marks)

pub numbers_known-requires : goal.numbers_known-requires
numbers_known-requires c =
    let f = united_few _ _ _ _ (all_united _ _ c.args.out.now _ _ _ c.add_all-met.ensures _ _ _ c.add_all-count.ensures) in
    (omega arith, omega (arith, c.requires.0))

pub returns : goal.returns
returns c =
    let u = all_united _ _ c.args.out.now _ _ _ c.add_all-met.ensures _ _ _ c.add_all-count.ensures in
    let f = united_few _ _ _ _ u in
    is_united _ _ _ _ _ u (omega (arith, c.requires.0)) _ c.numbers_known.ensures
