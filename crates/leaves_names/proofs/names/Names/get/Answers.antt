-- A place that is some has its name in the list. Assumes nothing.
use Rattle.std.specs.Prelude.{ℕ, Some}
use mathlib.Core.Path.{sym, ap, ap₂, ◌∙◌}
use native.Mathlib.Omega.{arith}
use Rattle.std.proofs.Math.Seq.{slice}
use Rattle.std.proofs.lemmas.Slice.{between_is}
use Rattle.leaves_names.specs.Names.{name_of}
use Rattle.leaves_names.specs.NamesList.{got_none, got_some, place_none, place_some}
use Rattle.leaves_names.proofs.names.Names.get.Goals as goal

pub returns-in_err-place : goal.returns-in_err-place
returns-in_err-place c = rw c.from_residual.ensures (sym (got_none _ _ _ _ (place_none _ _ _ c.in_err-place.ensures)))

pub slice_bounds-result-count : goal.slice_bounds-result-count
slice_bounds-result-count c =
    let p = place_some _ _ _ c.in_ok-place.ensures in
    omega (arith, p.first, p.end, c.args.self.ordered.rising _ p.handed)

pub slice_bounds-result-start : goal.slice_bounds-result-start
slice_bounds-result-start c =
    let p = place_some _ _ _ c.in_ok-place.ensures in
    omega (arith, p.first, p.end, c.args.self.ordered.rising _ p.handed)

pub slice_bounds-result-end : goal.slice_bounds-result-end
slice_bounds-result-end c =
    let p = place_some _ _ _ c.in_ok-place.ensures in
    omega (arith, p.first, p.end, c.args.self.ordered.inside _ p.handed)

pub returns : goal.returns
unfolding name_of
returns c =
    let p = place_some _ _ _ c.in_ok-place.ensures in
    ap Some (between_is c.args.self.list.bytes.now c.in_ok-place.place.first c.in_ok-place.place.end)
    ∙ ap₂ (λ (s e : ℕ). Some (slice s e c.args.self.list.bytes.now)) p.first p.end
    ∙ sym (got_some _ _ _ _ p.handed)
