-- `sides::lose_repeats` meets its contract: the places that count are picked, and what is laid are their mappings. Assumes nothing.
use mathlib.Core.Path.{ap, ◌∙◌}
use Rattle.metadata_lists.specs.Names.{lay_all}
use Rattle.metadata_gather.specs.Arrivals.{marked_none}
use Rattle.metadata_gather.specs.Sides.{first_layable, first_picked}
use native.Mathlib.Omega.{arith}
use Rattle.metadata_gather.proofs.sides.lose_repeats.Goals as goal

pub picks-kept-requires : goal.picks-kept-requires
picks-kept-requires c =
    let s = c.requires in (s.words, omega (arith, s.count), omega arith, omega (arith, s.count), marked_none 4096)

pub lay_places-requires : goal.lay_places-requires
lay_places-requires c =
    first_layable _ _ _ _ _ _ c.offsets.ensures.1 (omega (arith, c.requires.count, c.picks-kept.ensures.0)) c.picks-kept.ensures.1 _ _ c.requires
    (omega (arith, c.requires.count)) c.picks-kept.ensures.0

pub returns : goal.returns
returns c =
    let a = c.args in
    c.lay_places.ensures.1 ∙ ap (lay_all a.both_mappings.now 0 a.both_intervals.now 0)
    (first_picked _ _ _ _ _ _ c.offsets.ensures.1 (omega (arith, c.requires.count, c.picks-kept.ensures.0)) c.picks-kept.ensures.1)
