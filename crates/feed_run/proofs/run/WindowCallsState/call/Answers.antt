-- The answer is that of the call for the next answer, and is noted as that answer. Assumes nothing.
use mathlib.Core.Path.{◌≡◌, ap, ◌∙◌}
use mathlib.Core.List.{List, [], ◌∷◌}
use Prim.Native.Nat.{ℕ}
use native.Mathlib.Omega.{arith}
use Rattle.std.specs.Prelude.{Ok}
use Rattle.theory.specs.Answer.{Answer, answer}
use Rattle.leaves.specs.Refusal.{refused}
use Rattle.leaves.specs.RefusalLaws.{refused_not_done}
use Rattle.leaves.specs.declared.refusal.Refusal.{Refusal}
use Rattle.run_rules.specs.Rows.{Note, writes, stops, ended, wanting}
use Rattle.records_rules.specs.Machine.{record_at_lem, damage_at, says, end}
use Rattle.feed_rules.specs.Partial.{Turn⁺, replies, needs}
use Rattle.feed_rules.specs.Windows.{Kept, Feed, turn_answer, next_answer, next_leaves, call, answer_to, leaves}
use Rattle.feed_rules.specs.Spans.{feed_at, FedSays}
use Rattle.feed_rules.specs.History.{alike_trans}
use Rattle.feed_rules.proofs.History.{same_call, same_left}
use Rattle.feed.specs.Lent.{feed_arrays_of}
use Rattle.feed.specs.Answers.{fed_of}
use Rattle.records_state.specs.declared.state.State.{State}
use Rattle.feed.specs.declared.turns.Fed.TheVariants as fed
use Rattle.records.specs.declared.merge.Record.{Record}
use Rattle.feed_run.specs.Run.{note_of⁺, say⁺}
use Rattle.feed_run.specs.Calls.{Shows⁺}
use Rattle.feed_run.proofs.run.WindowCallsState.call.Goals as goal

-- each answer of the code that is a turn's is noted as that turn
module _ (kept : ℕ → Kept) where
  note_record : (x : Turn⁺) (r : Record) (at : ℕ) → fed_of (Ok (fed.Record r at)) ≡ turn_answer kept x → writes r.stream r.place r.time ≡ note_of⁺ x
  unfolding note_of⁺ turn_answer
  note_record (replies (says p (record_at_lem a c)) ss) r at e = cc
  note_record (replies (says p (damage_at a k)) ss) r at e = let z : ◌≡◌ {A = ℕ} 0 13 = cc in absurd (omega arith)
  note_record (replies end ss) r at e = let z : ◌≡◌ {A = ℕ} 0 1 = cc in absurd (omega arith)
  note_record (needs p ss) r at e = let z : ◌≡◌ {A = ℕ} 0 1 = cc in absurd (omega arith)

  note_end : (x : Turn⁺) → answer 0 [] ≡ turn_answer kept x → stops ended ≡ note_of⁺ x
  unfolding note_of⁺ turn_answer
  note_end (replies (says p (record_at_lem a c)) ss) e = let z : ◌≡◌ {A = ℕ} 0 1 = cc in absurd (omega arith)
  note_end (replies (says p (damage_at a k)) ss) e = let z : ◌≡◌ {A = ℕ} 0 13 = cc in absurd (omega arith)
  note_end (replies end ss) e = λ i. stops ended
  note_end (needs p ss) e = let z : ◌≡◌ {A = ℕ} 0 1 = cc in absurd (omega arith)

  note_need : (x : Turn⁺) (stream : ℕ) → answer 0 (stream ∷ []) ≡ turn_answer kept x → stops (wanting stream) ≡ note_of⁺ x
  unfolding note_of⁺ turn_answer
  note_need (replies (says p (record_at_lem a c)) ss) stream e = let z : ◌≡◌ {A = ℕ} 0 1 = cc in absurd (omega arith)
  note_need (replies (says p (damage_at a k)) ss) stream e = let z : ◌≡◌ {A = ℕ} 0 13 = cc in absurd (omega arith)
  note_need (replies end ss) stream e = let z : ◌≡◌ {A = ℕ} 0 1 = cc in absurd (omega arith)
  note_need (needs p ss) stream e = let z : stream ≡ p = cc in ap (λ (q : ℕ). stops (wanting q)) z

  note_refused : (x : Turn⁺) (r : Refusal) → refused r ≡ turn_answer kept x → stops (refused r) ≡ note_of⁺ x
  unfolding note_of⁺ turn_answer
  note_refused (replies (says p (record_at_lem a c)) ss) r e = absurd (refused_not_done r (cc))
  note_refused (replies (says p (damage_at a k)) ss) r e = λ i. stops (e i)
  note_refused (replies end ss) r e = absurd (refused_not_done r (cc))
  note_refused (needs p ss) r e = absurd (refused_not_done r (cc))

told : {window : List ℕ} {s t : State} {ps qs : List ℕ} {a : Answer} {x : Note}
    → FedSays window s.held (feed_arrays_of s ps) a t.held (feed_arrays_of t qs)
    → ((kept : ℕ → Kept) (y : Turn⁺) → a ≡ turn_answer kept y → x ≡ note_of⁺ y)
    → (n : ℕ) (F : Feed) → Shows⁺ window s ps n F → (x ≡ say⁺ F) × Shows⁺ window t qs n (next_leaves F)
unfolding next_answer answer_to leaves
told {window} {s} {ps = ps} turn noted n F h =
    let z = turn.says n h.few h.sound in
    let G = feed_at n window (feed_arrays_of s ps) in (
      noted (next_leaves F).kept _ (z.heard ∙ same_call G F h.alike call),
      record { few = h.few; sound = z.sound; alike = alike_trans z.leaves (same_left G F h.alike call) },
    )

pub returns-in-Err-clause-says : goal.returns-in-Err-clause-says
returns-in-Err-clause-says c = told c.in-Err.ensures.says (λ kept y. note_refused kept y c.in-Err.refusal)

pub returns-in-Ok-Record-clause-says : goal.returns-in-Ok-Record-clause-says
returns-in-Ok-Record-clause-says c =
    told c.in-Ok-Record.ensures.says (λ kept y e. note_record kept y c.in-Ok-Record.record _ (rw c.in-Ok-Record.field-0-is at e))

pub returns-in-Ok-End-clause-says : goal.returns-in-Ok-End-clause-says
returns-in-Ok-End-clause-says c = told c.in-Ok-End.ensures.says (λ kept y e. note_end kept y (rw c.in-Ok-End.field-0-is at e))

pub returns-in-Ok-NeedMore-clause-says : goal.returns-in-Ok-NeedMore-clause-says
returns-in-Ok-NeedMore-clause-says c =
    told c.in-Ok-NeedMore.ensures.says (λ kept y e. note_need kept y c.in-Ok-NeedMore.stream (rw c.in-Ok-NeedMore.field-0-is at e))
