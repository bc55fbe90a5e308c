-- The memory is tested once, and the call is made on it. Assumes nothing.
use mathlib.Core.Path.{◌≡◌, refl, sym, ap, ◌∙◌}
use mathlib.Core.Bool.{Bool, true, false, ◌&&◌}
use Prim.Native.Nat.{ℕ, ◌≤◌}
use native.Mathlib.Omega.{arith}
use lib.Dec.{leb}
use borrow.Author.Tests.{lt-leb, le-leb}
use Rattle.std.proofs.Math.Bool.{and_assoc, and-true, and-false}
use Rattle.records_rules.specs.State.{arrays_fit}
use Rattle.records_state.specs.declared.state.State.{State}
use Rattle.records_state.specs.Lent.{streams_fit}
use Rattle.records_plain.specs.Plain.{plain_fits}
use Rattle.records_plain.specs.PlainSteps.{plain_room}
use Rattle.records_plain.proofs.plain.next.Goals.{then-state-gt-PLACES-via-then-state-gt-PLACES, then-state-gt-PLACES-via-else-state-gt-PLACES+then-not-streams_fit}
use Rattle.records_plain.proofs.plain.next.Goals as goal

fits_by : (s : State) → plain_fits s.held s.marks.now s.times.now s.places.now s.heads.now ≡ (leb s.held 256 && streams_fit s)
unfolding arrays_fit
fits_by s = simp (and_assoc, and-true)

pub returns-then-state-gt-PLACES-clause-says : goal.returns-then-state-gt-PLACES-clause-says
returns-then-state-gt-PLACES-clause-says c =
    let s = c.args.state.now in
    let no : plain_fits s.held s.marks.now s.times.now s.places.now s.heads.now ≡ false =
    fits_by s ∙ elim c.then-state-gt-PLACES.branch [
      | then-state-gt-PLACES-via-then-state-gt-PLACES w ↦ simp (lt-leb _ _ w.if-state-gt-PLACES.true)
      | then-state-gt-PLACES-via-else-state-gt-PLACES+then-not-streams_fit w ↦
          ap (λ (b : Bool). leb s.held 256 && b) (sym w.streams_fit.ensures ∙ w.if-not-streams_fit.true) ∙ and-false (leb s.held 256)
    ] in
    record {
      refused = λ e. (refl, record { marks = refl; times = refl; places = refl; heads = refl });
      told = λ e. let z : ◌≡◌ {A = ℕ} 0 1 = cc in absurd (omega arith);
    }

fit : (s : State) (f : Bool) → s.held ≤ 256 → f ≡ streams_fit s → f ≡ true → plain_fits s.held s.marks.now s.times.now s.places.now s.heads.now ≡ true
fit s f few x y = fits_by s ∙ simp (le-leb _ _ few) (sym x ∙ y)

pub turns-requires : goal.turns-requires
turns-requires c =
    let s = c.args.state.now in
    plain_room s.held s.marks.now s.times.now s.places.now s.heads.now
    (fit s c.streams_fit.result c.if-state-gt-PLACES.false c.streams_fit.ensures c.if-not-streams_fit.false)

pub returns-clause-says : goal.returns-clause-says
returns-clause-says c =
    let s = c.args.state.now in
    let yes = fit s c.streams_fit.result c.if-state-gt-PLACES.false c.streams_fit.ensures c.if-not-streams_fit.false in
    record { refused = λ e. let z : ◌≡◌ {A = ℕ} 0 1 = cc in absurd (omega arith); told = λ e. c.turns.ensures.says }
