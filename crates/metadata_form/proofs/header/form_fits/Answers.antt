-- `header::form_fits` meets its contract: the lengths first, then the sum. Assumes nothing.
use mathlib.Core.Path.{refl, sym, ap, ◌∙◌}
use Prim.Native.Nat.{ℕ, ◌/◌}
use lib.Dec.{leb}
use Rattle.metadata_form.specs.Header.{metadata_fits, fitting}
use native.Mathlib.Omega.{arith}
use Rattle.metadata_form.proofs.header.form_fits.Goals as goal

pub returns-then-not-lengths_fit : goal.returns-then-not-lengths_fit
unfolding metadata_fits
returns-then-not-lengths_fit c = rw (sym c.lengths_fit.ensures ∙ c.if-not-lengths_fit.true) refl

pub total-requires : goal.total-requires
total-requires c =
    let f = fitting _ _ (sym c.lengths_fit.ensures ∙ c.if-not-lengths_fit.false) in let a = f.maps_lent in let b = f.maps_used in let d = c.requires in (omega arith, omega arith)

pub returns : goal.returns
unfolding metadata_fits
returns c =
    rw (sym c.lengths_fit.ensures ∙ c.if-not-lengths_fit.false)
    (ap (λ (u : ℕ). leb u (c.args.lengths.intervals / 3)) c.total.ensures)
