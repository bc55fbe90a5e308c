-- The run of what is called again and again, from what is kept. Assumes nothing.
use mathlib.Core.Path.{◌≡◌, refl, ap, ◌∙◌}
use mathlib.Core.List.{List}
use Prim.Native.Nat.{ℕ}
use borrow.Author.Rules.{rules}
use Rattle.records_state.specs.declared.state.State.{State}
use Rattle.feed_rules.specs.Windows.{Feed}
use Rattle.feed.specs.Lent.{feed_arrays_of}
use Rattle.feed_run.specs.Calls.{Shows⁺}
use Rattle.feed_run.specs.declared.run.Window.{Window}
use Rattle.feed_run.proofs.run.run.Goals as goal

same : {s t : State} {ps qs rs : List ℕ} → t ≡ s → qs ≡ ps → rs ≡ qs → feed_arrays_of t rs ≡ feed_arrays_of s ps
same a b e = λ i. feed_arrays_of (a i) ((e ∙ b) i)

lent : {v w : List ℕ} {t : State} {ps qs : List ℕ} {n : ℕ} {F : Feed} → Shows⁺ v t ps n F → v ≡ w → qs ≡ ps → Shows⁺ w t qs n F
lent s a b = rw (← a, b) s

pub returns-clause-says : goal.returns-clause-says
returns-clause-says c = record {
  refused = λ e.
      let z = c.run.ensures.refused e in
      let x = z.0 in
      record {
        answers = x.answers;
        calls = x.calls;
        written = x.written;
        held = ap (λ (s : State). s.held) x.untouched;
        untouched = same x.untouched (ap (λ (w : Window). w.spans.now) z.1) (search rules);
        list = x.list;
      };
  says = λ e n few ok.
      let z = c.run.ensures.says e n _ (record { few = few; sound = ok; alike = record { statuses = refl; kept = λ p d. refl } }) in
      let s = lent z.1 (ap (λ b. b.now) c.run.ensures.memory.2) (search rules) in
      record { gives = z.0; leaves = s.alike; sound = s.sound };
}
