-- Each turn looks at the heap's root. The invariant: the arrays keep their lengths, and where the entry was sound, this state is, the
-- machine goes on from it as from the entry, and what is left of each stream is kept. The measure is the streams waiting, which falls
-- with each read. Assumes nothing.
use mathlib.Core.Path.{refl, sym, ap, ◌∙◌}
use Rattle.std.specs.Prelude.{Some, Ok}
use native.Mathlib.Omega.{arith}
use borrow.Author.Rules.{rules}
use lib.ListN.{get_or, length-set}
use Rattle.leaves.specs.Frame.{whole, ended, damaged}
use Rattle.leaves.specs.Refusal.{reason_number}
use Rattle.records_rules.specs.StateLaws.{less_gone, less_stand, stood_packed}
use Rattle.feed_rules.specs.Going.{going_start⁺}
use Rattle.feed_rules.proofs.Steps.{step_end⁺, step_record⁺, step_wants⁺, step_ended⁺, step_damaged⁺, step_whole⁺}
use Rattle.feed_window.specs.Spans.{read_known}
use Rattle.feed_window.proofs.SpanNumber.{number_of_parts}
use Rattle.feed.proofs.turns.turns.Goals as goal

pub loop-state-init : goal.loop-state-init
loop-state-init c = record { going = going_start⁺ _ _ _ _ _ _ _ _; memory = search rules }

pub returns-clause-says : goal.returns-clause-says
returns-clause-says c = step_end⁺ c.loop-state.invariant.going c.requires (omega (arith, c.loop-state-test.false))

pub returns-then-state-p-ne-WAITING-clause-says : goal.returns-then-state-p-ne-WAITING-clause-says
returns-then-state-p-ne-WAITING-clause-says c =
    let f = c.loop-state in
    rw (c.hand_out-record.ensures, c.from-span.ensures, number_of_parts (get_or f.spans (get_or f.state.heap.now 0 0) 0))
    (step_record⁺ c.loop-state.invariant.going c.requires refl c.loop-state-test.true c.if-state-p-ne-WAITING.true c.plus.result c.plus.ensures)

pub returns-in_default-clause-says : goal.returns-in_default-clause-says
returns-in_default-clause-says c =
    let f = c.loop-state in
    let parts = number_of_parts (get_or f.spans (get_or f.state.heap.now 0 0) 0) in
    let got = rw (c.from-span.ensures, parts) at c.read_window-got.ensures.found_value in
    let less = rw (c.from-span.ensures, parts) at c.read_window-got.ensures.span_value in
    rw (c.from.ensures, less)
    (step_wants⁺ c.loop-state.invariant.going c.requires refl c.loop-state-test.true c.if-state-p-ne-WAITING.false
    (read_known c.read_window-got.result.found) got (ap read_known c.in_default.is) (omega arith))

pub loop-state-smaller-in-Ok-Some : goal.loop-state-smaller-in-Ok-Some
loop-state-smaller-in-Ok-Some c =
    let s = c.loop-state.state in
    let t = c.stand.ensures in
    let o = c.sift_down.ensures.others in
    rw (o.marks, o.times, o.places, o.heads, t.stands, t.time, t.places, t.head)
    (less_stand 256 s.marks.now s.times.now s.places.now s.heads.now (get_or s.heap.now 0 0) (omega arith) (omega arith) (omega arith) (omega arith) (omega arith) _ _ c.if-state-p-ne-WAITING.false)

pub loop-state-preserved-in-Ok-Some : goal.loop-state-preserved-in-Ok-Some
loop-state-preserved-in-Ok-Some c =
    let f = c.loop-state in
    let parts = number_of_parts (get_or f.spans (get_or f.state.heap.now 0 0) 0) in
    let got = rw (c.from-span.ensures, parts) at c.read_window-got.ensures.found_value in
    let less = rw (c.from-span.ensures, parts) at c.read_window-got.ensures.span_value in
    let arm = c.in-Ok-Some in
    let h = arm.head in
    let t = c.stand.ensures in
    let o = c.sift_down.ensures.others in
    record {
      going = rw (o.held, o.marks, o.times, o.places, o.heads, t.held, t.stands, t.time, t.places, t.head, c.from-in-Ok-Some.ensures, less)
          (step_whole⁺ c.loop-state.invariant.going c.requires refl c.loop-state-test.true c.if-state-p-ne-WAITING.false
          (read_known c.read_window-got.result.found) got (whole h.length h.kind h.instrument h.time)
          (ap read_known (c.in-Some.is ∙ ap Some (arm.is ∙ ap Ok (rw arm.is at arm.field-0-is)))) _ h.time
          (sym (stood_packed h.length h.kind h.instrument h.time (search rules) (search rules)))
          (rw (t.time, t.held, t.heap) at c.sift_down.ensures.sifted) (rw t.heap at o.heap.long));
      memory = search rules;
    }

pub loop-state-smaller : goal.loop-state-smaller
loop-state-smaller c =
    let s = c.loop-state.state in
    let r = c.remove_root.ensures in
    rw (r.gone, r.times, r.places, r.heads)
    (less_gone 256 s.marks.now s.times.now s.places.now s.heads.now (get_or s.heap.now 0 0) (omega arith) (omega arith) (omega arith) (omega arith) (omega arith) c.if-state-p-ne-WAITING.false)

pub loop-state-preserved : goal.loop-state-preserved
loop-state-preserved c =
    let f = c.loop-state in
    let got = rw (c.from-span.ensures, number_of_parts (get_or f.spans (get_or f.state.heap.now 0 0) 0)) at c.read_window-got.ensures.found_value in
    let arm = c.in-Ok-None in
    let r = c.remove_root.ensures in
    record {
      going = rw (r.held, r.gone, r.times, r.places, r.heads)
          (step_ended⁺ c.loop-state.invariant.going c.requires refl c.loop-state-test.true c.if-state-p-ne-WAITING.false
          (read_known c.read_window-got.result.found) got ended (ap read_known (c.in-Some.is ∙ ap Some (arm.is ∙ ap Ok (rw arm.is at arm.field-0-is))))
          r.sifted refl (r.heap.long ∙ sym (length-set _ 0 _)));
      memory = search rules;
    }

pub returns-in-Err-clause-says : goal.returns-in-Err-clause-says
returns-in-Err-clause-says c =
    let f = c.loop-state in
    let got = rw (c.from-span.ensures, number_of_parts (get_or f.spans (get_or f.state.heap.now 0 0) 0)) at c.read_window-got.ensures.found_value in
    let arm = c.in-Err in
    let r = c.remove_root-in-Err.ensures in
    rw (r.held, r.gone, r.times, r.places, r.heads)
    (step_damaged⁺ c.loop-state.invariant.going c.requires refl c.loop-state-test.true c.if-state-p-ne-WAITING.false
    (read_known c.read_window-got.result.found) got (damaged (reason_number arm.reason)) (ap read_known (c.in-Some.is ∙ ap Some arm.is))
    r.sifted (reason_number arm.reason) refl)
