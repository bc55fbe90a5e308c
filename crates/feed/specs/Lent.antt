-- What is lent, as the theory's arrays. Assumes nothing.
use Rattle.std.specs.Prelude.{ℕ, List}
use Rattle.feed_rules.specs.Spans.{FeedArrays, feed_arrays, FeedRoom}
use Rattle.records_state.specs.declared.state.State.{State}

-- the state's five arrays, and the spans
abbrev pub feed_arrays_of : State → List ℕ → FeedArrays
feed_arrays_of s spans = feed_arrays s.marks.now s.times.now s.places.now s.heads.now s.heap.now spans

-- they have the room for a call
abbrev pub HasFeedRoom : State → List ℕ → Type 0
HasFeedRoom s spans = FeedRoom s.held s.marks.now s.times.now s.places.now s.heads.now s.heap.now spans
