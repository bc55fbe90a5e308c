-- The state of the code, as arrays of numbers and the window, read as what is kept of streams; when it is sound, and what a call leaves.
-- A span is start + 65,536 × fill + 2^32 × ended: the bytes kept of the stream p are `fill` bytes of the window from 1,024 × p + start on.
-- Assumes nothing.
use Rattle.std.specs.Prelude.{◌≡◌, ◌≢◌, ℕ, ◌+◌, ◌-◌, ◌*◌, ◌/◌, ◌%◌, ◌<◌, ◌≤◌, ◌^◌, Bool, false, true, not, cond, ◌&&◌, ◌||◌, List, [], ◌∷◌, length, get_or, eqb, ltb}
use Rattle.std.proofs.Math.Option.{none}
use Rattle.std.proofs.Math.Seq.{slice}
use Rattle.theory.specs.Answer.{Answer, answer}
use Rattle.leaves.specs.Frame.{Read, whole, ended, damaged}
use Rattle.records_rules.specs.Heap.{at}
use Rattle.records_rules.specs.View.{statuses_of}
use Rattle.records_rules.specs.State.{arrays_fit, Room, StateOk}
use Rattle.feed_rules.specs.Partial.{part, known_at}
use Rattle.feed_rules.specs.Windows.{Kept, Feed, next_leaves, next_answer, Alike}

-- ---- a span

abbrev pub start_of : ℕ → ℕ
start_of s = s % 65536

abbrev pub fill_of : ℕ → ℕ
fill_of s = s / 65536 % 65536

abbrev pub ended_of : ℕ → ℕ
ended_of s = s / 4294967296

-- without its first bytes: start + skip, fill - skip; where there are fewer, as it is
unfoldable pub dropped : ℕ → ℕ → ℕ
dropped s skip = cond (ltb (s / 65536 % 65536) skip) s (s - 65535 * skip)

-- ---- what is kept

-- how many bytes before the place of a stream of this mark and head still count: those of the record that it handed out last
unfoldable pub counts : ℕ → ℕ → ℕ
counts mark head = cond (eqb mark 1) (head % 65536) 0

-- the bytes of the window that a span of the stream p names
abbrev pub bytes_in : List ℕ → ℕ → ℕ → List ℕ
bytes_in window p s = slice (1024 * p + s % 65536) (1024 * p + s % 65536 + s / 65536 % 65536) window

unfoldable pub kept_of : List ℕ → ℕ → ℕ → ℕ → ℕ → ℕ → Kept
unfolding counts
kept_of window p mark place head s =
    record { at = 1024 * p + s % 65536; base = place - counts mark head; bytes = bytes_in window p s; over = not (eqb (s / 4294967296) 0) }

-- the first n streams
unfoldable pub feed_of : ℕ → List ℕ → List ℕ → List ℕ → List ℕ → List ℕ → List ℕ → Feed
unfolding kept_of
feed_of n window ms ts cs hs ps =
    record { statuses = statuses_of n ms ts cs hs; kept = λ p. kept_of window p (get_or ms p 0) (get_or cs p 0) (get_or hs p 0) (get_or ps p 0) }

-- ---- a read

-- whether what a read found is known: a record, a bad length, or whatever was found where the stream has been ended
unfoldable pub settled : Bool → Read → Bool
settled over ended = over
settled over (damaged reason) = over || eqb reason 2
settled over (whole size kind instrument time) = true

-- the answer that hands out a record of the stream p: its place, its span, its head and its time
unfoldable pub handed_out : ℕ → ℕ → ℕ → ℕ → ℕ → Answer
handed_out p place s head time =
    answer 0 (p ∷ place ∷ (1024 * p + s % 65536) ∷ (head % 65536) ∷ (head / 65536 % 65536) ∷ (head / 4294967296) ∷ time ∷ [])

-- ---- the state

-- one stream's: its span lies in its part of the window, the record it stands at or handed out last lies in the span, and it has taken at
-- most 2^63 bytes
pub record SlotOk (mark place head s : ℕ) : Type 0 where
  pub short : s % 65536 + s / 65536 % 65536 ≤ 1024
  pub ends : s / 4294967296 ≤ 1
  pub fits : head % 65536 ≤ s / 65536 % 65536
  pub placed : counts mark head ≤ place
  pub most : place - counts mark head + s / 65536 % 65536 ≤ 2 ^ 63

-- a sound state of n streams: what the calls give and keep; only the stream at the heap's root may have handed out a record that counts
pub record FeedOk (n held : ℕ) (ms ts cs hs hp ps : List ℕ) : Type 0 where
  pub state : StateOk n held ms ts cs hs hp
  pub slots : (p : ℕ) → p < n → get_or ms p 0 ≢ 0 → SlotOk (get_or ms p 0) (get_or cs p 0) (get_or hs p 0) (get_or ps p 0)
  pub lone : (p : ℕ) → p < n → get_or ms p 0 ≡ 1 → p ≢ at hp 0 → get_or hs p 0 % 65536 ≡ 0
  -- the other places hold no stream
  pub unused : (p : ℕ) → n ≤ p → get_or ms p 0 ≡ 0

-- the arrays have 256 places, the window 1,024 bytes a stream: where not, 15
unfoldable pub feed_fits : ℕ → ℕ → ℕ → ℕ → ℕ → ℕ → ℕ → ℕ → Bool
unfolding arrays_fit
feed_fits held marks times places heads heap spans window = arrays_fit held marks times places heads heap && (eqb spans 256 && eqb window 262144)

-- what the inner functions need of what is lent
abbrev pub FeedRoom : ℕ → List ℕ → List ℕ → List ℕ → List ℕ → List ℕ → List ℕ → Type 0
FeedRoom held ms ts cs hs hp ps =
    Room held ms ts cs hs hp × (256 ≤ length ps)

-- the six arrays as one
pub record FeedArrays : Type 0 where
  pub marks : List ℕ
  pub times : List ℕ
  pub places : List ℕ
  pub heads : List ℕ
  pub heap : List ℕ
  pub spans : List ℕ

abbrev pub feed_arrays : List ℕ → List ℕ → List ℕ → List ℕ → List ℕ → List ℕ → FeedArrays
feed_arrays marks times places heads heap spans =
    record { marks = marks; times = times; places = places; heads = heads; heap = heap; spans = spans }

-- they and the window have their lengths, and no more of the heap is in use
abbrev pub feed_fit_in : ℕ → List ℕ → FeedArrays → Bool
feed_fit_in held window a =
    feed_fits held (length a.marks) (length a.times) (length a.places) (length a.heads) (length a.heap) (length a.spans) (length window)

-- the answer x and what is left are those of the call for the next answer, and the state left is sound
pub record FeedSays (n : ℕ) (window ms ts cs hs ps : List ℕ) (x : Answer) (held : ℕ) (ms' ts' cs' hs' hp' ps' : List ℕ) : Type 0 where
  pub heard : x ≡ next_answer (feed_of n window ms ts cs hs ps)
  pub leaves : Alike (feed_of n window ms' ts' cs' hs' ps') (next_leaves (feed_of n window ms ts cs hs ps))
  pub sound : FeedOk n held ms' ts' cs' hs' hp' ps'

-- ---- need more

-- more of the stream at the heap's root must come first: it waits, no record of it counts, and its read is not known
pub record Wanting (window : List ℕ) (held : ℕ) (ms hs hp ps : List ℕ) : Type 0 where
  pub any : 0 < held
  pub waits : get_or ms (at hp 0) 0 ≡ 1
  pub none_counts_lem : get_or hs (at hp 0) 0 ≡ 0
  pub unknown : known_at (part (bytes_in window (at hp 0) (get_or ps (at hp 0) 0)) (not (eqb (get_or ps (at hp 0) 0 / 4294967296) 0))) 0 ≡ none

-- a call that answers need more leaves a state in which more must come first; and where more must come first at entry, it answers need
-- more and leaves everything as it was
pub record FeedNeeds (window : List ℕ) (held : ℕ) (ms ts cs hs hp ps : List ℕ) (x : Answer) (held' : ℕ) (ms' ts' cs' hs' hp' ps' : List ℕ)
    : Type 0 where
  pub left : (p : ℕ) → x ≡ answer 0 (p ∷ []) → (p ≡ at hp' 0) × Wanting window held' ms' hs' hp' ps'
  pub again : Wanting window held ms hs hp ps
      → (x ≡ answer 0 (at hp 0 ∷ [])) × (held' ≡ held) × (feed_arrays ms' ts' cs' hs' hp' ps' ≡ feed_arrays ms ts cs hs hp ps)

-- ---- what a call promises, over the arrays as one

-- what is kept of n streams
abbrev pub feed_at : ℕ → List ℕ → FeedArrays → Feed
feed_at n window a = feed_of n window a.marks a.times a.places a.heads a.spans

-- a sound state of n streams, of which the heap holds so many
abbrev pub FeedSound : ℕ → ℕ → FeedArrays → Type 0
FeedSound n held a = FeedOk n held a.marks a.times a.places a.heads a.heap a.spans

-- the answer and what is left are those of the call for the next answer
abbrev pub FeedSaysIn : ℕ → List ℕ → FeedArrays → Answer → ℕ → FeedArrays → Type 0
FeedSaysIn n window a x held a' =
    FeedSays n window a.marks a.times a.places a.heads a.spans x held a'.marks a'.times a'.places a'.heads a'.heap a'.spans

-- what holds of need more
abbrev pub FeedNeedsIn : List ℕ → ℕ → FeedArrays → Answer → ℕ → FeedArrays → Type 0
FeedNeedsIn window held a x held' a' =
    FeedNeeds window held a.marks a.times a.places a.heads a.heap a.spans
    x held' a'.marks a'.times a'.places a'.heads a'.heap a'.spans

-- a call on arrays that have the room: the heap holds no more than before, a sound state says what the call for the next answer does, and
-- need more is as above
pub record FedSays (window : List ℕ) (held : ℕ) (a : FeedArrays) (x : Answer) (held' : ℕ) (a' : FeedArrays) : Type 0 where
  pub fewer : held' ≤ held
  pub says : (n : ℕ) → n ≤ 256 → FeedSound n held a → FeedSaysIn n window a x held' a'
  pub needs : FeedNeedsIn window held a x held' a'

-- `next`: 15 and nothing changed where what is lent is not right; else as above
pub record FeedNext (window : List ℕ) (held : ℕ) (a : FeedArrays) (x : Answer) (held' : ℕ) (a' : FeedArrays) : Type 0 where
  pub fewer : held' ≤ held
  pub refused : feed_fit_in held window a ≡ false → (x ≡ answer 15 []) × (held' ≡ held) × (a' ≡ a)
  pub told : feed_fit_in held window a ≡ true → FedSays window held a x held' a'
