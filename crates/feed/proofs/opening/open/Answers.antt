-- What is lent and the count are tested; then the streams are laid, the heap put in order and the spans emptied. Assumes nothing.
use mathlib.Core.Path.{◌≡◌, refl, sym, ◌∙◌}
use mathlib.Core.Bool.{true, false, true≢false}
use native.Mathlib.Omega.{arith}
use lib.ListN.{length}
use Rattle.records_rules.specs.State.{opening}
use Rattle.records_rules.specs.Opening.{opened}
use Rattle.feed_rules.specs.Adding.{open_fit_in, right_count}
use Rattle.feed_rules.specs.OpeningLaws.{open_room, count_room, feed_opened}
use Rattle.feed.specs.Lent.{feed_arrays_of}
use Rattle.feed.proofs.opening.open.Goals as goal

pub returns-then-not-has_places-clause-says : goal.returns-then-not-has_places-clause-says
unfolding opening
returns-then-not-has_places-clause-says c =
    let no : open_fit_in (feed_arrays_of c.args.state.now c.args.spans.now) ≡ false = sym c.has_places.ensures ∙ c.if-not-has_places.true in
    record { answers = rw no refl; refused = λ e. refl; accepted = rw no (λ e. absurd (true≢false (sym e))) }

pub returns-then-not-count_right-clause-says : goal.returns-then-not-count_right-clause-says
unfolding opening
returns-then-not-count_right-clause-says c =
    let no : right_count c.args.streams (length c.args.hints.now) ≡ false = sym c.count_right.ensures ∙ c.if-not-count_right.true in
    let yes : open_fit_in (feed_arrays_of c.args.state.now c.args.spans.now) ≡ true = sym c.has_places.ensures ∙ c.if-not-has_places.false in
    record { answers = rw (yes, no) refl; refused = λ e. refl; accepted = rw (yes, no) (λ e. absurd (true≢false (sym e))) }

pub lay_streams-requires : goal.lay_streams-requires
lay_streams-requires c =
    let s = c.args.state.now in
    let ps = c.args.spans.now in
    let many = count_room c.args.streams (length c.args.hints.now) (sym c.count_right.ensures ∙ c.if-not-count_right.false) in
    let enough = open_room s.marks.now s.times.now s.places.now s.heads.now s.heap.now ps (sym c.has_places.ensures ∙ c.if-not-has_places.false) in
    omega (arith, many, enough)

pub heapify-requires : goal.heapify-requires
heapify-requires c =
    let s = c.args.state.now in
    let ps = c.args.spans.now in
    let many = count_room c.args.streams (length c.args.hints.now) (sym c.count_right.ensures ∙ c.if-not-count_right.false) in
    let enough = open_room s.marks.now s.times.now s.places.now s.heads.now s.heap.now ps (sym c.has_places.ensures ∙ c.if-not-has_places.false) in
    let laid = c.lay_streams.ensures in
    omega (arith, many, enough, laid.held, laid.memory.times.long, laid.memory.heap.long)

pub returns-clause-says : goal.returns-clause-says
unfolding opening
returns-clause-says c =
    let s = c.args.state.now in
    let ps = c.args.spans.now in
    let yes : open_fit_in (feed_arrays_of s ps) ≡ true = sym c.has_places.ensures ∙ c.if-not-has_places.false in
    let right : right_count c.args.streams (length c.args.hints.now) ≡ true = sym c.count_right.ensures ∙ c.if-not-count_right.false in
    let many = count_room c.args.streams (length c.args.hints.now) right in
    let enough = open_room s.marks.now s.times.now s.places.now s.heads.now s.heap.now ps yes in
    let others = c.heapify.ensures.others in
    let laid = c.lay_streams.ensures in
    rw (others.marks, others.times, others.places, others.heads, others.held, laid.held) (record {
      answers = rw (yes, right) refl;
      refused = rw (yes, right) (λ e. absurd (true≢false e));
      accepted = λ e. feed_opened many.1 (laid.memory.marks.long ∙ enough.2)
          (opened many.1 many.2 laid.laid (rw laid.held at c.heapify.ensures.heaped))
          (λ q below. c.fill.ensures.clones q 0 (omega (arith, below, enough)) refl);
    })
