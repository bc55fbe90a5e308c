-- `sides::follow` meets its contract: each place is its own, so what is laid are the mappings in their order. Assumes nothing.
use mathlib.Core.Path.{ap, ◌∙◌}
use Rattle.metadata_lists.specs.Names.{lay_all}
use Rattle.metadata_gather.specs.Sides.{side_layable, side_picked}
use native.Mathlib.Omega.{arith}
use Rattle.metadata_gather.proofs.sides.follow.Goals as goal

pub lay_places-requires : goal.lay_places-requires
lay_places-requires c =
    side_layable _ _ _ _ _ c.offsets.ensures.1
    c.count_up.ensures _ _ _ _ c.requires (omega (arith, c.requires.count)) (omega (arith, c.requires.count))

pub returns : goal.returns
returns c =
    let a = c.args in (
      c.lay_places.ensures.0,
      c.lay_places.ensures.1 ∙ ap
          (lay_all a.both_mappings.now a.laid.mappings a.both_intervals.now a.laid.intervals)
          (side_picked _ _ _ _ _ c.offsets.ensures.1
          c.count_up.ensures),
    )
