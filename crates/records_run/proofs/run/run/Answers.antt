-- The run of what is called again and again, of the machine's statuses. Assumes nothing.
use mathlib.Core.Path.{refl, ap}
use Rattle.records_state.specs.Lent.{arrays_of}
use Rattle.records_state.specs.declared.state.State.{State}
use Rattle.records_run.proofs.run.run.Goals as goal

pub returns-clause-says : goal.returns-clause-says
returns-clause-says c = record {
  refused = λ e.
      let x = (c.run.ensures.refused e).0 in
      record {
        answers = x.answers;
        calls = x.calls;
        written = x.written;
        held = ap (λ (s : State). s.held) x.untouched;
        untouched = ap arrays_of x.untouched;
        list = x.list;
      };
  says = λ e n few ok.
      let z = c.run.ensures.says e n _ (record { few = few; sound = ok; statuses = refl }) in
      record { gives = z.0; leaves = z.1.statuses; sound = z.1.sound };
}
