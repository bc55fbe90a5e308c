-- What a run calls: the lent state as what is kept of streams, and the room that a call leaves. Assumes nothing.
use Rattle.std.specs.Prelude.{◌≡◌, ℕ, ◌≤◌, true, List}
use Rattle.std.specs.Borrow.{MutBor}
use Rattle.std.proofs.Common.{arith}
use Rattle.records_rules.specs.StateLaws.{room_kept}
use Rattle.records_state.specs.Lent.{Kept, SameMemory}
use Rattle.records_state.specs.declared.state.State.{State}
use Rattle.feed_rules.specs.Windows.{Feed, Alike}
use Rattle.feed_rules.specs.Spans.{feed_fit_in, feed_at, FeedSound}
use Rattle.feed_rules.specs.SpansLaws.{fits_room}
use Rattle.feed.specs.Lent.{feed_arrays_of, HasFeedRoom}

-- a sound state of n streams, of which is kept as much as of F
pub record Shows⁺ (window : List ℕ) (s : State) (spans : List ℕ) (n : ℕ) (F : Feed) : Type 0 where
  pub few : n ≤ 256
  pub sound : FeedSound n s.held (feed_arrays_of s spans)
  pub alike : Alike (feed_at n window (feed_arrays_of s spans)) F

pub right_room : (window : List ℕ) (s : State) (spans : List ℕ) → feed_fit_in s.held window (feed_arrays_of s spans) ≡ true → HasFeedRoom s spans
right_room window s spans e = (fits_room s.held s.marks.now s.times.now s.places.now s.heads.now s.heap.now spans window e).0

pub room_left : (s t : State) (x y : MutBor (List ℕ)) → HasFeedRoom s x.now → SameMemory s t → t.held ≤ s.held → Kept x y → HasFeedRoom t y.now
room_left s t x y r m fewer k =
    (room_kept r.0 fewer m.marks.long m.times.long m.places.long m.heads.long m.heap.long, omega (arith, r.1, k.long))
