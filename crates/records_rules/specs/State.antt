-- The state of the code, as arrays of numbers: what it means, when it is sound, and what a call and an opening leave. Assumes nothing.
use Rattle.std.specs.Prelude.{◌≡◌, ℕ, zero, suc, ◌+◌, ◌-◌, ◌/◌, ◌%◌, ◌<◌, ◌≤◌, ◌^◌, Bool, true, false, cond, ◌&&◌, ◌||◌, List, [], ◌∷◌, length, get_or, eqb, leb}
use Rattle.leaves_limits.specs.Limits.{most_streams}
use Rattle.theory.specs.Answer.{Answer, answer}
use Rattle.leaves.specs.Frame.{Read, whole, read_found}
use Rattle.records_rules.specs.Machine.{Stream, Status, record_at_lem, damage_at, says, end, start}
use Rattle.records_rules.specs.Machine as machine
use Rattle.records_rules.specs.View.{tab, statuses_of}
use Rattle.records_rules.specs.Holds.{HeapOk}

-- ---- answers

-- the machine's answer in the rules' numbers: a record is done, with stream, place, length, kind, instrument and time; the end
-- is done; damage is 13, with stream, place and reason
abbrev pub answer_of : machine.Answer → Answer
answer_of (says p (record_at_lem a r)) = answer 0 (p ∷ a ∷ r.size ∷ r.kind ∷ r.instrument ∷ r.time ∷ [])
answer_of (says p (damage_at a reason)) = answer 13 (p ∷ a ∷ reason ∷ [])
answer_of end = answer 0 []

-- ---- what is lent

-- "a heap in arrays of 256 places": a length or a number in use that is not right gets 15
unfoldable pub arrays_fit : ℕ → ℕ → ℕ → ℕ → ℕ → ℕ → Bool
arrays_fit held marks times places heads heap =
    leb held most_streams && (eqb marks most_streams && (eqb times most_streams && (eqb places most_streams && (eqb heads most_streams && eqb heap most_streams))))

-- what the inner functions need of it
abbrev pub Room : ℕ → List ℕ → List ℕ → List ℕ → List ℕ → List ℕ → Type 0
Room held ms ts cs hs hp = (held ≤ 256) × (256 ≤ length ms) × (256 ≤ length ts) × (256 ≤ length cs) × (256 ≤ length hs) × (256 ≤ length hp)

-- the five arrays as one
pub record Arrays : Type 0 where
  pub marks : List ℕ
  pub times : List ℕ
  pub places : List ℕ
  pub heads : List ℕ
  pub heap : List ℕ

abbrev pub arrays : List ℕ → List ℕ → List ℕ → List ℕ → List ℕ → Arrays
arrays marks times places heads heap = record { marks = marks; times = times; places = places; heads = heads; heap = heap }

-- they have their lengths, and no more of the heap is in use
abbrev pub fit_in : ℕ → Arrays → Bool
fit_in held a = arrays_fit held (length a.marks) (length a.times) (length a.places) (length a.heads) (length a.heap)

-- ---- streams

-- no cut among the first n + 1 falls behind the one before it
unfoldable pub rise_to : ℕ → List ℕ → Bool
rise_to zero cuts = true
rise_to (suc n) cuts = leb (get_or cuts n 0) (get_or cuts (n + 1) 0) && rise_to n cuts

-- "cuts start at 0, never fall, and end at the buffer's length"; "12: no stream, over 256, cuts wrong,
-- or hints given and not one per stream"
unfoldable pub right_streams : ℕ → List ℕ → ℕ → Bool
unfolding rise_to
right_streams size cuts hints =
    leb 2 (length cuts) && (leb (length cuts) (most_streams + 1) && (eqb (get_or cuts 0 0) 0 && (eqb (get_or cuts (length cuts - 1) 0) size
    && ((eqb hints 0 || eqb hints (length cuts - 1)) && rise_to (length cuts - 1) cuts))))

-- the hints of n streams: "an empty hint list means all hints 0"
unfoldable pub padded : ℕ → List ℕ → List ℕ
unfolding tab
padded n hints = tab n (λ p. get_or hints p 0)

-- what an opening answers: 15, then 12, then done with the streams, which are also those that the heap holds
unfoldable pub opening : Bool → Bool → ℕ → Answer
opening memory streams n = cond memory (cond streams (answer 0 (n ∷ n ∷ [])) (answer 12 [])) (answer 15 [])

-- ---- the state

-- what a read says that found a record, of the time t, with length, kind and instrument in one
abbrev pub stood : ℕ → ℕ → Read
stood t h = whole (h % 65536) (h / 65536 % 65536) (h / 4294967296) t

-- a read in numbers: what was found, the time, and length, kind and instrument in one
unfoldable pub got_of : ℕ → ℕ → ℕ → Read
unfolding read_found
got_of found t h = read_found found (stood t h)

-- the place behind a record fits
abbrev pub Small : ℕ → List ℕ → List ℕ → Type 0
Small n cs hs = (p : ℕ) → p < n → get_or cs p 0 + get_or hs p 0 % 65536 < 2 ^ 64

-- a sound state of n streams: what `open` gives and `next` keeps
pub record StateOk (n held : ℕ) (ms ts cs hs hp : List ℕ) : Type 0 where
  pub small : Small n cs hs
  pub heaped : HeapOk n ms ts hp held

-- the answer x and the statuses left are those of the machine's `next`, and the state left is sound
pub record Says (b : ℕ → Stream) (n : ℕ) (ms ts cs hs : List ℕ) (x : Answer) (held : ℕ) (ms' ts' cs' hs' hp' : List ℕ) : Type 0 where
  pub heard : x ≡ answer_of (machine.answer (machine.next b (statuses_of n ms ts cs hs)))
  pub leaves : statuses_of n ms' ts' cs' hs' ≡ machine.rest (machine.next b (statuses_of n ms ts cs hs))
  pub sound : StateOk n held ms' ts' cs' hs' hp'

-- what an accepted opening of n streams leaves: each waits at its hint, every other place is empty, and the state is sound
pub record StreamsOpened (n : ℕ) (hints ms ts cs hs hp : List ℕ) : Type 0 where
  pub starts : statuses_of n ms ts cs hs ≡ start (padded n hints)
  pub sound : StateOk n n ms ts cs hs hp
  pub places : (q : ℕ) → q < 256 → (get_or cs q 0 ≡ 0) × (get_or hs q 0 ≡ 0)
  pub unused : (q : ℕ) → n ≤ q → q < 256 → (get_or ms q 0 ≡ 0) × (get_or ts q 0 ≡ 0) × (get_or hp q 0 ≡ 0)

-- ---- what the calls promise, over the arrays as one

-- the statuses of the first n streams
abbrev pub statuses_at : ℕ → Arrays → List Status
statuses_at n a = statuses_of n a.marks a.times a.places a.heads

-- a sound state of n streams, of which the heap holds so many
abbrev pub SoundIn : ℕ → ℕ → Arrays → Type 0
SoundIn n held a = StateOk n held a.marks a.times a.places a.heads a.heap

-- the answer and what is left are those of the machine's `next`
abbrev pub SaysIn : (ℕ → Stream) → ℕ → Arrays → Answer → ℕ → Arrays → Type 0
SaysIn b n a x held a' =
    Says b n a.marks a.times a.places a.heads x held a'.marks a'.times a'.places a'.heads a'.heap

-- what an accepted opening leaves
abbrev pub OpenedIn : ℕ → List ℕ → Arrays → Type 0
OpenedIn n hints a = StreamsOpened n hints a.marks a.times a.places a.heads a.heap

-- a call on arrays that have the room: the heap holds no more than before, and a sound state says what the machine says
pub record TurnSays (b : ℕ → Stream) (held : ℕ) (a : Arrays) (x : Answer) (held' : ℕ) (a' : Arrays) : Type 0 where
  pub fewer : held' ≤ held
  pub says : (n : ℕ) → n ≤ most_streams → SoundIn n held a → SaysIn b n a x held' a'

-- `next`: 15 and nothing changed where what is lent is not right; else as above
pub record NextSays (b : ℕ → Stream) (held : ℕ) (a : Arrays) (x : Answer) (held' : ℕ) (a' : Arrays) : Type 0 where
  pub fewer : held' ≤ held
  pub refused : fit_in held a ≡ false → (x ≡ answer 15 []) × (held' ≡ held) × (a' ≡ a)
  pub says : fit_in held a ≡ true → (n : ℕ) → n ≤ most_streams → SoundIn n held a → SaysIn b n a x held' a'

-- what `open` answers of a buffer, its cuts and its hints
abbrev pub open_answer : List ℕ → List ℕ → List ℕ → Arrays → Answer
open_answer buffer cuts hints a = opening (fit_in 0 a) (right_streams (length buffer) cuts (length hints)) (length cuts - 1)

-- `open`: a refusal leaves everything as it was
pub record OpenSays (buffer cuts hints : List ℕ) (a : Arrays) (x : Answer) (a' : Arrays) : Type 0 where
  pub answers : x ≡ open_answer buffer cuts hints a
  pub refused : (fit_in 0 a && right_streams (length buffer) cuts (length hints)) ≡ false → a' ≡ a
  pub opened : (fit_in 0 a && right_streams (length buffer) cuts (length hints)) ≡ true → OpenedIn (length cuts - 1) hints a'
