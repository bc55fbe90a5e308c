-- 15 and 12 are tested before anything is laid; then the streams are laid and the heap is put in order. Assumes nothing.
use mathlib.Core.Path.{◌≡◌, refl, sym, ◌∙◌}
use mathlib.Core.Bool.{true, false}
use Prim.Native.Nat.{ℕ}
use native.Mathlib.Omega.{arith}
use lib.ListN.{length}
use Rattle.records_rules.specs.State.{fit_in, right_streams, opening}
use Rattle.records_rules.specs.Opening.{arrays_room, right_count_lem, opened}
use Rattle.records_state.specs.Lent.{arrays_of}
use Rattle.records.proofs.merge.open.Goals as goal

pub returns-then-not-has_places-clause-says : goal.returns-then-not-has_places-clause-says
unfolding opening
returns-then-not-has_places-clause-says c =
    let no : fit_in 0 (arrays_of c.args.state.now) ≡ false = sym c.has_places.ensures ∙ c.if-not-has_places.true in
    record {
      answers = rw no refl;
      refused = λ e. refl;
      opened = rw no (λ e. let z : ◌≡◌ {A = ℕ} 0 1 = cc in absurd (omega arith));
    }

pub returns-then-not-streams_right-clause-says : goal.returns-then-not-streams_right-clause-says
unfolding opening
returns-then-not-streams_right-clause-says c =
    let a = c.args in
    let yes : fit_in 0 (arrays_of a.state.now) ≡ true = sym c.has_places.ensures ∙ c.if-not-has_places.false in
    let no : right_streams (length a.buffer.now) a.cuts.now (length a.hints.now) ≡ false = sym c.streams_right.ensures ∙ c.if-not-streams_right.true in
    record {
      answers = rw (yes, no) refl;
      refused = λ e. refl;
      opened = rw (yes, no) (λ e. let z : ◌≡◌ {A = ℕ} 0 1 = cc in absurd (omega arith));
    }

pub overflow_sub-streams : goal.overflow_sub-streams
overflow_sub-streams c =
    let a = c.args in
    let count = right_count_lem (length a.buffer.now) a.cuts.now (length a.hints.now) (sym c.streams_right.ensures ∙ c.if-not-streams_right.false) in
    omega (arith, count.0)

pub lay_streams-requires : goal.lay_streams-requires
lay_streams-requires c =
    let a = c.args in
    let s = a.state.now in
    let room = arrays_room 0 s.marks.now s.times.now s.places.now s.heads.now s.heap.now (sym c.has_places.ensures ∙ c.if-not-has_places.false) in
    let count = right_count_lem (length a.buffer.now) a.cuts.now (length a.hints.now) (sym c.streams_right.ensures ∙ c.if-not-streams_right.false) in
    omega (arith, count.1, room)

pub heapify-requires : goal.heapify-requires
heapify-requires c =
    let a = c.args in
    let s = a.state.now in
    let room = arrays_room 0 s.marks.now s.times.now s.places.now s.heads.now s.heap.now (sym c.has_places.ensures ∙ c.if-not-has_places.false) in
    let count = right_count_lem (length a.buffer.now) a.cuts.now (length a.hints.now) (sym c.streams_right.ensures ∙ c.if-not-streams_right.false) in
    let laid = c.lay_streams.ensures in
    omega (arith, count.1, room, laid.held, laid.memory.times.long, laid.memory.heap.long)

pub returns-clause-says : goal.returns-clause-says
unfolding opening
returns-clause-says c =
    let a = c.args in
    let yes : fit_in 0 (arrays_of a.state.now) ≡ true = sym c.has_places.ensures ∙ c.if-not-has_places.false in
    let right : right_streams (length a.buffer.now) a.cuts.now (length a.hints.now) ≡ true = sym c.streams_right.ensures ∙ c.if-not-streams_right.false in
    let count = right_count_lem (length a.buffer.now) a.cuts.now (length a.hints.now) right in
    let others = c.heapify.ensures.others in
    let laid = c.lay_streams.ensures in
    rw (others.marks, others.times, others.places, others.heads, others.held, laid.held) (record {
      answers = rw (yes, right) refl;
      refused = rw (yes, right) (λ e. let z : ◌≡◌ {A = ℕ} 0 1 = cc in absurd (omega arith));
      opened = λ e. opened (omega (arith, count.1)) count.2 laid.laid (rw laid.held at c.heapify.ensures.heaped);
    })
