-- `names::lay_names` meets its contract. The invariant: what is laid, with the outcome of the places still to come, is the whole
-- outcome. Assumes nothing.
use mathlib.Core.Path.{refl, sym, ap, ◌∙◌}
use native.Mathlib.Omega.{arith}
use Rattle.std.specs.Prelude.{Option}
use Rattle.metadata_lists.specs.declared.names.Laid.{Laid}
use Rattle.metadata_lists.specs.Names.{end_names}
use Rattle.metadata_lists.specs.NamesLaying.{start_laying, place_ready, turn_fails, turn_lays, laying_end}
use Rattle.metadata_lists.proofs.names.lay_names.Goals as goal

pub lay_place-requires : goal.lay_place-requires
lay_place-requires c =
    let g = c.loop-i.invariant.0 in
    let r = c.requires in
    let a = g.few in
    let b = g.maps in
    let d = g.same in
    let e = r.maps in
    let f = r.small in (
      omega arith,
      c.loop-i-test.true,
      r.words,
      r.heads _ c.loop-i-test.true,
      omega arith,
      place_ready _ _ _ _ _ _ _ _ _ c.requires _ _ _ _ _ _ _ c.loop-i.invariant.0 c.loop-i-test.true _ _ c.loop-i.invariant.1 d,
    )

pub returns-in_err-laid : goal.returns-in_err-laid
unfolding end_names
returns-in_err-laid c =
    ap (λ (r : Option Laid). end_names r c.lay_place.new.out_mappings c.lay_place.new.out_intervals) c.from_residual.ensures ∙
    turn_fails _ _ _ _ _ _ _ _ _ c.requires _ _ _ _ _ _ _ c.loop-i.invariant.0 c.loop-i-test.true c.lay_place.new.out_mappings
    c.lay_place.new.out_intervals
    (ap (λ (x : Option Laid). end_names x c.lay_place.new.out_mappings c.lay_place.new.out_intervals)
    (sym c.in_err-laid.was) ∙ c.lay_place.ensures)

pub loop-i-preserved : goal.loop-i-preserved
loop-i-preserved c = (
  turn_lays _ _ _ _ _ _ _ _ _ c.requires _ _ _ _ _ _ _ c.loop-i.invariant.0 c.loop-i-test.true _ _ _
      c.lay_place.auto.out_mappings c.lay_place.auto.out_intervals
      (ap (λ (x : Option Laid). end_names x c.lay_place.new.out_mappings c.lay_place.new.out_intervals)
      (sym c.in_ok-laid.was) ∙ c.lay_place.ensures),
  c.lay_place.auto.temp ∙ c.loop-i.invariant.1,
)

pub returns : goal.returns
unfolding end_names
returns c = laying_end _ _ _ _ _ _ _ _ _ _ _ _ c.loop-i.invariant.0 c.loop-i-test.false
