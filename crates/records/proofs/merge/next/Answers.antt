-- The memory is tested once, and the call is made on it. Assumes nothing.
use mathlib.Core.Path.{◌≡◌, refl, sym, ◌∙◌}
use mathlib.Core.Bool.{true, false}
use Prim.Native.Nat.{ℕ}
use native.Mathlib.Omega.{arith}
use Rattle.records_rules.specs.State.{fit_in}
use Rattle.records_rules.specs.Opening.{arrays_room}
use Rattle.records_state.specs.Lent.{arrays_of}
use Rattle.records.proofs.merge.next.Goals as goal

pub returns-then-not-fits-clause-says : goal.returns-then-not-fits-clause-says
returns-then-not-fits-clause-says c =
    let s = c.args.state.now in
    let no : fit_in s.held (arrays_of s) ≡ false = sym c.fits.ensures ∙ c.if-not-fits.true in
    record {
      fewer = omega arith;
      refused = λ e. (refl, refl, refl);
      says = λ e. let z : ◌≡◌ {A = ℕ} 0 1 = cc in absurd (omega arith);
    }

pub turns-requires : goal.turns-requires
turns-requires c =
    let s = c.args.state.now in
    arrays_room s.held s.marks.now s.times.now s.places.now s.heads.now s.heap.now (sym c.fits.ensures ∙ c.if-not-fits.false)

pub returns-clause-says : goal.returns-clause-says
returns-clause-says c =
    let s = c.args.state.now in
    let yes : fit_in s.held (arrays_of s) ≡ true = sym c.fits.ensures ∙ c.if-not-fits.false in
    let turn = c.turns.ensures.says in
    record {
      fewer = turn.fewer;
      refused = λ e. let z : ◌≡◌ {A = ℕ} 0 1 = cc in absurd (omega arith);
      says = λ e. turn.says;
    }
