-- `picks::picks` meets its contract. The invariant: what is picked so far are the places that count among the mappings passed.
-- Assumes nothing.
use mathlib.Core.Path.{◌≡◌, refl, sym, ap, ◌∙◌, subst}
use lib.ListN.{length-set}
use Rattle.metadata_gather.specs.Arrivals.{Marked}
use Rattle.metadata_gather.specs.Picks.{picks_of, picking_start, picking_turn, place_low}
use native.Mathlib.Omega.{arith}
use Rattle.metadata_gather.proofs.picks.picks.Goals as goal

pub loop-i-init : goal.loop-i-init
loop-i-init c = (refl, refl, refl, picking_start _ _ _ _ c.requires.4)

pub add_one-a-requires : goal.add_one-a-requires
add_one-a-requires c =
    let f = c.loop-i.invariant.3.few in (omega arith, omega arith, subst (Marked _) (sym c.loop-i.invariant.3.stand.stand) c.loop-i.invariant.3.stand.marks)

pub offset_bounds-last-a : goal.offset_bounds-last-a
offset_bounds-last-a c =
    let p = place_low _ _ _ _ _ _ c.loop-i.invariant.3 (omega arith) _ _ _
    _ _ c.name_at.ensures c.add_one-a.ensures in omega arith

pub bounds-last-a : goal.bounds-last-a
bounds-last-a c =
    let p = place_low _ _ _ _ _ _ c.loop-i.invariant.3 (omega arith) _ _ _
    _ _ c.name_at.ensures c.add_one-a.ensures in omega arith

pub loop-i-preserved : goal.loop-i-preserved
loop-i-preserved c = (
  c.add_one-a.auto.numbers ∙ c.loop-i.invariant.0,
  c.add_one-a.auto.marks ∙ c.loop-i.invariant.1,
  simp length-set c.loop-i.invariant.2,
  picking_turn _ _ _ _ _ _ c.loop-i.invariant.3 (omega arith) _ _ _ _ _ c.name_at.ensures c.add_one-a.ensures _ refl,
)

pub returns : goal.returns
returns c =
    let e : c.loop-i.i ≡ c.args.count = omega arith in
    let f = c.loop-i.invariant.3.few in
    (omega arith, c.loop-i.invariant.3.there ∙ ap (picks_of c.args.mappings.now) e)
