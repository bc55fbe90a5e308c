-- The answer is the machine's, and is noted as that answer. Assumes nothing.
use mathlib.Core.Path.{◌≡◌, subst}
use mathlib.Core.List.{List}
use Prim.Native.Nat.{ℕ}
use native.Mathlib.Omega.{arith}
use Rattle.std.specs.Prelude.{Some, None, Ok}
use Rattle.theory.specs.Answer.{Answer}
use Rattle.leaves.specs.Refusal.{refused}
use Rattle.leaves.specs.RefusalLaws.{refused_not_done}
use Rattle.leaves.specs.declared.refusal.Refusal.{Refusal}
use Rattle.run_rules.specs.Rows.{Note, writes, stops, ended}
use Rattle.records_rules.specs.Machine.{Stream, Status, record_at_lem, damage_at, says, end}
use Rattle.records_rules.specs.Machine as machine
use Rattle.records_rules.specs.State.{answer_of, TurnSays}
use Rattle.records_state.specs.Lent.{arrays_of}
use Rattle.records_state.specs.declared.state.State.{State}
use Rattle.records.specs.Merge.{turn_of}
use Rattle.records.specs.declared.merge.Record.{Record}
use Rattle.records_run.specs.Run.{note_of}
use Rattle.records_run.specs.Run as merge
use Rattle.records_run.specs.Calls.{Shows}
use Rattle.records_run.proofs.run.StreamsCallsState.call.Goals as goal

note_record : (x : machine.Answer) (r : Record) → turn_of (Ok (Some r)) ≡ answer_of x → writes r.stream r.place r.time ≡ note_of x
unfolding note_of
note_record (says p (record_at_lem a c)) r e = cc
note_record (says p (damage_at a k)) r e = let z : ◌≡◌ {A = ℕ} 0 13 = cc in absurd (omega arith)
note_record end r e = let z : ◌≡◌ {A = ℕ} 0 1 = cc in absurd (omega arith)

note_end : (x : machine.Answer) → turn_of (Ok None) ≡ answer_of x → stops ended ≡ note_of x
unfolding note_of
note_end (says p (record_at_lem a c)) e = let z : ◌≡◌ {A = ℕ} 0 1 = cc in absurd (omega arith)
note_end (says p (damage_at a k)) e = let z : ◌≡◌ {A = ℕ} 0 13 = cc in absurd (omega arith)
note_end end e = λ i. stops ended

note_refused : (x : machine.Answer) (r : Refusal) → refused r ≡ answer_of x → stops (refused r) ≡ note_of x
unfolding note_of
note_refused (says p (record_at_lem a c)) r e = absurd (refused_not_done r (cc))
note_refused (says p (damage_at a k)) r e = λ i. stops (e i)
note_refused end r e = absurd (refused_not_done r (cc))

told : {b : ℕ → Stream} {s t : State} {a : Answer} {x : Note}
    → TurnSays b s.held (arrays_of s) a t.held (arrays_of t) → ((y : machine.Answer) → a ≡ answer_of y → x ≡ note_of y)
    → (n : ℕ) (ss : List Status) → Shows s n ss → (x ≡ merge.say b ss) × Shows t n (merge.go b ss)
told {b} {t = t} {x = x} turn noted n ss h =
    let z = turn.says n h.few h.sound in
    subst (λ (m : List Status). (x ≡ merge.say b m) × Shows t n (merge.go b m)) h.statuses
    (noted _ z.heard, record { few = h.few; sound = z.sound; statuses = z.leaves })

pub returns-in-Ok-Some-clause-says : goal.returns-in-Ok-Some-clause-says
returns-in-Ok-Some-clause-says c = told c.in-Ok-Some.ensures.says (λ y e. note_record y c.in-Ok-Some.record (rw c.in-Ok-Some.field-0-is at e))

pub returns-in-Ok-None-clause-says : goal.returns-in-Ok-None-clause-says
returns-in-Ok-None-clause-says c = told c.in-Ok-None.ensures.says (λ y e. note_end y (rw c.in-Ok-None.field-0-is at e))

pub returns-in-Err-clause-says : goal.returns-in-Err-clause-says
returns-in-Err-clause-says c = told c.in-Err.ensures.says (λ y. note_refused y c.in-Err.refusal)
