-- Each turn looks at the heap's root. The invariant: the arrays keep their lengths, and where the entry was sound, this state is, and
-- the machine goes on from it as from the entry. The measure is the streams waiting, which falls with each read. Assumes nothing.
use mathlib.Core.Path.{◌≡◌, refl, sym, ◌∙◌}
use Prim.Native.Nat.{◌%◌}
use native.Mathlib.Omega.{arith}
use borrow.Author.Rules.{rules}
use lib.ListN.{get_or, length-set}
use Rattle.leaves.specs.Refusal.{reason_number}
use Rattle.records_rules.specs.Bytes.{stream_short}
use Rattle.records_rules.specs.StateLaws.{less_gone, less_stand, stood_packed}
use Rattle.records_rules.specs.View.{rec_in}
use Rattle.records_rules.proofs.Steps.{step_end, step_record, step_ended, step_damaged, step_whole}
use Rattle.records.proofs.merge.turns.Goals as goal

pub returns-clause-says : goal.returns-clause-says
returns-clause-says c = step_end c.loop-state.invariant.going c.requires (omega (arith, c.loop-state-test.false))

pub returns-then-state-p-ne-WAITING-clause-says : goal.returns-then-state-p-ne-WAITING-clause-says
unfolding rec_in
returns-then-state-p-ne-WAITING-clause-says c =
    let s = c.loop-state.state in
    let long : c.handed-record.result.length ≡ get_or s.heads.now (get_or s.heap.now 0 0) 0 % 65536 = cc in
    rw c.handed-record.ensures
    (step_record c.loop-state.invariant.going c.requires refl c.loop-state-test.true c.if-state-p-ne-WAITING.true c.plus.result (rw (← long) c.plus.ensures))

pub returns-in-Err-clause-says : goal.returns-in-Err-clause-says
returns-in-Err-clause-says c =
    let r = c.remove_root-in-Err.ensures in
    rw (r.held, r.gone, r.times, r.places, r.heads)
    (step_damaged c.loop-state.invariant.going c.requires refl c.loop-state-test.true c.if-state-p-ne-WAITING.false r.sifted (reason_number c.in-Err.reason) c.in-Err.ensures)

pub loop-state-smaller : goal.loop-state-smaller
loop-state-smaller c =
    let s = c.loop-state.state in
    let r = c.remove_root.ensures in
    rw (r.gone, r.times, r.places, r.heads)
    (less_gone 256 s.marks.now s.times.now s.places.now s.heads.now (get_or s.heap.now 0 0) (omega arith) (omega arith) (omega arith) (omega arith) (omega arith) c.if-state-p-ne-WAITING.false)

pub loop-state-preserved : goal.loop-state-preserved
loop-state-preserved c =
    let r = c.remove_root.ensures in
    record {
      going = rw (r.held, r.gone, r.times, r.places, r.heads)
          (step_ended c.loop-state.invariant.going c.requires refl c.loop-state-test.true c.if-state-p-ne-WAITING.false r.sifted
          (rw c.in-Ok-None.field-0-is at c.in-Ok-None.ensures) (r.heap.long ∙ sym (length-set _ 0 _)));
      memory = search rules;
    }

pub loop-state-smaller-in-Ok-Some : goal.loop-state-smaller-in-Ok-Some
loop-state-smaller-in-Ok-Some c =
    let s = c.loop-state.state in
    let t = c.stand.ensures in
    let o = c.sift_down.ensures.others in
    rw (o.marks, o.times, o.places, o.heads, t.stands, t.time, t.places, t.head)
    (less_stand 256 s.marks.now s.times.now s.places.now s.heads.now (get_or s.heap.now 0 0) (omega arith) (omega arith) (omega arith) (omega arith) (omega arith) _ _ c.if-state-p-ne-WAITING.false)

pub loop-state-preserved-in-Ok-Some : goal.loop-state-preserved-in-Ok-Some
loop-state-preserved-in-Ok-Some c =
    let a = c.args in
    let s = c.loop-state.state in
    let h = c.in-Ok-Some.head in
    let t = c.stand.ensures in
    let o = c.sift_down.ensures.others in
    let found = rw c.in-Ok-Some.field-0-is at c.in-Ok-Some.ensures in
    let got = stood_packed h.length h.kind h.instrument h.time (search rules) (search rules) ∙ found in
    record {
      going = rw (o.held, o.marks, o.times, o.places, o.heads, t.held, t.stands, t.time, t.places, t.head)
          (step_whole c.loop-state.invariant.going c.requires refl c.loop-state-test.true c.if-state-p-ne-WAITING.false h.time _ got
          (omega (arith, stream_short a.buffer.now a.cuts.now (get_or s.heap.now 0 0), c.well_formed.0.0))
          (rw (t.time, t.held, t.heap) at c.sift_down.ensures.sifted) (rw t.heap at o.heap.long));
      memory = search rules;
    }
