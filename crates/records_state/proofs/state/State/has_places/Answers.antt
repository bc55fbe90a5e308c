-- The tests of the definition, one after the other. Assumes nothing.
use mathlib.Core.Path.{◌≡◌, sym, ◌∙◌, ap}
use mathlib.Core.Bool.{Bool, true, false, ◌&&◌}
use lib.Dec.{eqb}
use lib.ListN.{length}
use Rattle.std.proofs.Math.Bool.{and_assoc}
use Rattle.records_rules.specs.State.{arrays_fit, fit_in}
use Rattle.records_state.specs.declared.state.State.{State}
use Rattle.records_state.specs.Lent.{arrays_of, streams_fit}
use Rattle.records_state.proofs.state.State.has_places.Goals as goal

with_heap : (s : State) (r k : Bool) → r ≡ streams_fit s → r ≡ k → (k && eqb (length s.heap.now) 256) ≡ fit_in 0 (arrays_of s)
unfolding arrays_fit
with_heap s r k x y = ap (λ (z : Bool). z && eqb (length s.heap.now) 256) (sym y ∙ x) ∙ simp and_assoc

pub returns-then-streams_fit : goal.returns-then-streams_fit
returns-then-streams_fit c = with_heap c.args.self.now c.streams_fit.result true c.streams_fit.ensures c.if-streams_fit.true

pub returns-else-streams_fit : goal.returns-else-streams_fit
returns-else-streams_fit c =
    c.if-streams_fit.false ∙ with_heap c.args.self.now c.streams_fit.result false c.streams_fit.ensures c.if-streams_fit.false
