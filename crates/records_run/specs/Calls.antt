-- What a run calls: the lent state as a state of the machine, and what a call leaves of what is lent. Assumes nothing.
use Rattle.std.specs.Prelude.{◌≡◌, ℕ, ◌≤◌, true, List}
use Rattle.records_rules.specs.Machine.{Status}
use Rattle.records_rules.specs.State.{fit_in, statuses_at, SoundIn}
use Rattle.records_rules.specs.StateLaws.{room_kept}
use Rattle.records_rules.specs.Opening.{arrays_room}
use Rattle.records_state.specs.Lent.{arrays_of, HasRoom, SameMemory}
use Rattle.records_state.specs.declared.state.State.{State}

-- a sound state of n streams, with these statuses
pub record Shows (s : State) (n : ℕ) (ss : List Status) : Type 0 where
  pub few : n ≤ 256
  pub sound : SoundIn n s.held (arrays_of s)
  pub statuses : statuses_at n (arrays_of s) ≡ ss

pub right_room : (s : State) → fit_in s.held (arrays_of s) ≡ true → HasRoom s.held s
right_room s e = arrays_room s.held s.marks.now s.times.now s.places.now s.heads.now s.heap.now e

pub room_left : (s t : State) → HasRoom s.held s → SameMemory s t → t.held ≤ s.held → HasRoom t.held t
room_left s t r m fewer = room_kept r fewer m.marks.long m.times.long m.places.long m.heads.long m.heap.long
