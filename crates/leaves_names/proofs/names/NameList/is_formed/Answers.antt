-- What is left to check from name n on is what there was to check. Assumes nothing.
use Rattle.std.specs.Prelude.{ℕ, List, ◌≤◌, ◌<◌, length, take}
use mathlib.Core.Path.{◌∙◌}
use native.Mathlib.Omega.{arith}
use Rattle.std.proofs.Common.{length-take-le, get_or-take}
use Rattle.leaves_names.specs.NamesLaws.{standing_used, walk_none, walk_turn, walk_stop, walk_end}
use Rattle.leaves_names.proofs.names.NameList.is_formed.Goals as goal

below : (ends : List ℕ) (names n : ℕ) → names ≤ length ends → n < length (take names ends) → n < names
below ends names n h l = omega (arith, length-take-le names ends h)

pub loop-last-init : goal.loop-last-init
loop-last-init c = walk_none _ _ _ _

pub returns-then-not-stands : goal.returns-then-not-stands
returns-then-not-stands c =
    let a = c.args.self in
    let h = below a.ends.now a.names c.loop-last.last-index c.requires.0 c.loop-last-test.true in
    walk_stop c.loop-last.invariant h (get_or-take a.names a.ends.now c.loop-last.last-index 0 h)
    (c.stands.ensures ∙ standing_used a.bytes.now a.name_bytes _ _ c.requires.1) c.if-not-stands.true

pub loop-last-preserved : goal.loop-last-preserved
loop-last-preserved c =
    let a = c.args.self in
    let h = below a.ends.now a.names c.loop-last.last-index c.requires.0 c.loop-last-test.true in
    walk_turn c.loop-last.invariant h (get_or-take a.names a.ends.now c.loop-last.last-index 0 h)
    (c.stands.ensures ∙ standing_used a.bytes.now a.name_bytes _ _ c.requires.1) c.if-not-stands.false

pub returns : goal.returns
returns c =
    let a = c.args.self in
    walk_end c.loop-last.invariant (omega (arith, length-take-le a.names a.ends.now c.requires.0, c.loop-last-test.false))
