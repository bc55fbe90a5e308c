-- What is lent, as the theory's arrays; and what stays where a call writes in them. Assumes nothing.
use Rattle.std.specs.Prelude.{◌≡◌, ℕ, ◌-◌, ◌≤◌, Bool, ◌&&◌, List, length, set, eqb}
use Rattle.std.specs.Borrow.{MutBor}
use Rattle.leaves_limits.specs.Limits.{most_streams}
use Rattle.records_rules.specs.Heap.{at}
use Rattle.records_rules.specs.Sift.{Sifted}
use Rattle.records_rules.specs.State.{Arrays, arrays, Room}
use Rattle.records_state.specs.declared.state.State.{State}

-- the five arrays
abbrev pub arrays_of : State → Arrays
arrays_of s = arrays s.marks.now s.times.now s.places.now s.heads.now s.heap.now

-- those of the streams have their lengths
abbrev pub streams_fit : State → Bool
streams_fit s =
    eqb (length s.marks.now) most_streams && eqb (length s.times.now) most_streams && eqb (length s.places.now) most_streams
    && eqb (length s.heads.now) most_streams

-- all have room for so many streams
abbrev pub HasRoom : ℕ → State → Type 0
HasRoom n s = Room n s.marks.now s.times.now s.places.now s.heads.now s.heap.now

-- what the heap's functions need: its places in use, and a time for every byte
abbrev pub HeapRoom : State → Type 0
HeapRoom s = (s.held ≤ length s.heap.now) × (s.held ≤ 256) × (256 ≤ length s.times.now)

-- an array that is lent, before and after: the same loan, with as many places
pub record Kept (x y : MutBor (List ℕ)) : Type 0 where
  pub name : y.ghost_name ≡ x.ghost_name
  pub long : length y.now ≡ length x.now

-- both states stand in the same five arrays
pub record SameMemory (s t : State) : Type 0 where
  pub marks : Kept s.marks t.marks
  pub times : Kept s.times t.times
  pub places : Kept s.places t.places
  pub heads : Kept s.heads t.heads
  pub heap : Kept s.heap t.heap

-- the heap's array at most was written
pub record HeapAlone (s t : State) : Type 0 where
  pub held : t.held ≡ s.held
  pub marks : t.marks ≡ s.marks
  pub times : t.times ≡ s.times
  pub places : t.places ≡ s.places
  pub heads : t.heads ≡ s.heads
  pub heap : Kept s.heap t.heap

-- the root's stream is gone, and the rest of the heap in order where it was
pub record RootRemoved (s t : State) : Type 0 where
  pub held : t.held ≡ s.held - 1
  pub gone : t.marks.now ≡ set s.marks.now (at s.heap.now 0) 0
  pub sifted : Sifted s.times.now (s.held - 1) 0 (set s.heap.now 0 (at s.heap.now (s.held - 1))) t.heap.now
  pub marks : Kept s.marks t.marks
  pub times : t.times ≡ s.times
  pub places : t.places ≡ s.places
  pub heads : t.heads ≡ s.heads
  pub heap : Kept s.heap t.heap

-- the stream p stands at a record, of this time and with this head in one number
pub record NowStands (p t h : ℕ) (s s' : State) : Type 0 where
  pub stands : s'.marks.now ≡ set s.marks.now p 2
  pub time : s'.times.now ≡ set s.times.now p t
  pub head : s'.heads.now ≡ set s.heads.now p h
  pub held : s'.held ≡ s.held
  pub marks : Kept s.marks s'.marks
  pub times : Kept s.times s'.times
  pub places : s'.places ≡ s.places
  pub heads : Kept s.heads s'.heads
  pub heap : s'.heap ≡ s.heap
