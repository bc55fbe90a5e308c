-- Each turn takes the least stream. The invariant: the arrays keep their lengths, and the machine goes on from here as from the entry.
-- The measure is the streams waiting, which falls with each read. Assumes nothing.
use mathlib.Core.Path.{◌≡◌, refl, ◌∙◌}
use Prim.Native.Nat.{◌%◌}
use native.Mathlib.Omega.{arith}
use borrow.Author.Rules.{rules}
use lib.ListN.{get_or}
use Rattle.leaves.specs.Refusal.{reason_number}
use Rattle.records_rules.specs.Bytes.{stream_short}
use Rattle.records_rules.specs.StateLaws.{less_gone, less_stand, stood_packed}
use Rattle.records_rules.specs.View.{rec_in}
use Rattle.records_plain.specs.PlainSteps.{turn_end, turn_record, turn_ended, turn_damaged, turn_whole}
use Rattle.records_plain.proofs.plain.turns.Goals as goal

pub returns-clause-says : goal.returns-clause-says
returns-clause-says c =
    let inv = c.loop-p.invariant in
    let ch = rw inv.held at c.in_default.ensures.chosen in
    turn_end inv.scanning c.requires ch refl

pub returns-then-state-p-ne-WAITING-clause-says : goal.returns-then-state-p-ne-WAITING-clause-says
unfolding rec_in
returns-then-state-p-ne-WAITING-clause-says c =
    let inv = c.loop-p.invariant in
    let s = c.loop-p.state in
    let p = c.in-Some.p in
    let ch = rw inv.held at c.in-Some.ensures.chosen in
    let long : c.handed-record.result.length ≡ get_or s.heads.now p 0 % 65536 = cc in
    rw c.handed-record.ensures
    (turn_record inv.scanning c.requires ch (λ e. omega (arith, c.in-Some.ensures.below, inv.held)) c.if-state-p-ne-WAITING.true c.plus.result (rw (← long) c.plus.ensures))

pub returns-in-Err-clause-says : goal.returns-in-Err-clause-says
returns-in-Err-clause-says c =
    let inv = c.loop-p.invariant in
    let ch = rw inv.held at c.in-Some.ensures.chosen in
    turn_damaged inv.scanning c.requires ch (λ e. omega (arith, c.in-Some.ensures.below, inv.held)) c.if-state-p-ne-WAITING.false
    (reason_number c.in-Err.reason) c.in-Err.ensures

pub loop-p-smaller : goal.loop-p-smaller
loop-p-smaller c =
    let s = c.loop-p.state in
    less_gone s.held s.marks.now s.times.now s.places.now s.heads.now c.in-Some.p c.in-Some.ensures.below
    (omega arith) (omega arith) (omega arith) (omega arith) c.if-state-p-ne-WAITING.false

pub loop-p-preserved : goal.loop-p-preserved
loop-p-preserved c =
    let inv = c.loop-p.invariant in
    let ch = rw inv.held at c.in-Some.ensures.chosen in
    record {
      scanning = turn_ended inv.scanning c.requires ch (λ e. omega (arith, c.in-Some.ensures.below, inv.held)) c.if-state-p-ne-WAITING.false
          (rw c.in-Ok-None.field-0-is at c.in-Ok-None.ensures);
      memory = search rules;
      held = search rules;
      heap = search rules;
    }

pub loop-p-smaller-in-Ok-Some : goal.loop-p-smaller-in-Ok-Some
loop-p-smaller-in-Ok-Some c =
    let s = c.loop-p.state in
    let t = c.stand.ensures in
    rw (t.held, t.stands, t.time, t.places, t.head)
    (less_stand s.held s.marks.now s.times.now s.places.now s.heads.now c.in-Some.p c.in-Some.ensures.below
    (omega arith) (omega arith) (omega arith) (omega arith) _ _ c.if-state-p-ne-WAITING.false)

pub loop-p-preserved-in-Ok-Some : goal.loop-p-preserved-in-Ok-Some
loop-p-preserved-in-Ok-Some c =
    let a = c.args in
    let inv = c.loop-p.invariant in
    let ch = rw inv.held at c.in-Some.ensures.chosen in
    let h = c.in-Ok-Some.head in
    let t = c.stand.ensures in
    let found = rw c.in-Ok-Some.field-0-is at c.in-Ok-Some.ensures in
    let got = stood_packed h.length h.kind h.instrument h.time (search rules) (search rules) ∙ found in
    record {
      scanning = rw (t.stands, t.time, t.places, t.head)
          (turn_whole inv.scanning c.requires ch (λ e. omega (arith, c.in-Some.ensures.below, inv.held)) c.if-state-p-ne-WAITING.false h.time _ got
          (omega (arith, stream_short a.buffer.now a.cuts.now c.in-Some.p, c.well_formed.0.0)));
      memory = search rules;
      held = search rules;
      heap = search rules;
    }
