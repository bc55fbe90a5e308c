-- `sides::lay_places` meets its contract. The invariant: what is left to lay from here is what was to lay at the start. Assumes nothing.
use mathlib.Core.Path.{◌≡◌, refl, ap, ◌∙◌}
use Prim.Native.Nat.{ℕ, ◌+◌}
use lib.ListN.{get_or}
use Rattle.metadata_rules.specs.Words.{name_at, count_at}
use Rattle.metadata_words.specs.Words.{put_mapping}
use Rattle.metadata_lists.specs.Names.{placed}
use Rattle.metadata_gather.specs.Sides.{following_start, turn_room, following_turn, following_end}
use native.Mathlib.Omega.{arith}
use Rattle.metadata_gather.proofs.sides.lay_places.Goals as goal

pub loop-i-init : goal.loop-i-init
loop-i-init c = (omega arith, following_start _ _ _ _ _ _ _ _ _ c.requires.room)

pub bounds-places-i : goal.bounds-places-i
bounds-places-i c = omega (arith, c.requires.places)

pub lay_mapping-so_far-requires : goal.lay_mapping-so_far-requires
lay_mapping-so_far-requires c =
    let g = c.loop-i.invariant.1 in
    let q = c.loop-i.invariant.0 in
    let a = g.maps in
    let b = g.same in (
      c.requires.inside _ c.loop-i-test.true,
      omega (arith, c.requires.maps),
      turn_room _ _ _ _ _ _ _ _ _ _ _ _ _ g c.loop-i-test.true _ refl,
      omega (arith, c.requires.small),
    )

pub loop-i-preserved : goal.loop-i-preserved
loop-i-preserved c =
    let e = c.lay_mapping-so_far.ensures in
    let a = c.args in
    let j = get_or a.places.now c.loop-i.i 0 in
    let m = e.0 ∙ ap (λ (u : ℕ). put_mapping c.loop-i.both_mappings u (name_at a.mappings.words.now j) (count_at a.mappings.words.now j)) c.loop-i.invariant.0 in (
      omega (arith, e.2, c.loop-i.invariant.0),
      following_turn _ _ _ _ _ _ _ _ _ _ _ _ _ c.loop-i.invariant.1 c.loop-i-test.true _
          refl _ _ _ m e.1 e.3 c.lay_mapping-so_far.auto.both_mappings c.lay_mapping-so_far.auto.both_intervals,
    )

pub returns : goal.returns
returns c =
    let n : c.loop-i.i ≡ c.args.count = omega arith in
    let q : c.loop-i.so_far.mappings ≡ c.args.laid.mappings + c.args.count = c.loop-i.invariant.0 ∙ ap (λ (u : ℕ). c.args.laid.mappings + u) n in (
      q,
      ap (λ (u : ℕ). placed c.loop-i.both_mappings u c.loop-i.both_intervals c.loop-i.so_far.intervals) q
          ∙ following_end _ _ _ _ _ _ _ _ _ _ _ _ _ c.loop-i.invariant.1 (omega arith),
    )
