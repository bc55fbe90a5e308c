-- The plain engine (RULES, Requests, No. 12): what is lent to it, and what a call and an opening leave. Its state is the heap engine's
-- without the heap, and means the same statuses. Assumes nothing.
use Rattle.std.specs.Prelude.{◌≡◌, ℕ, ◌-◌, ◌≤◌, ◌<◌, Bool, true, false, ◌&&◌, List, [], ◌∷◌, length, get_or}
use Rattle.theory.specs.Answer.{Answer, answer}
use Rattle.records_rules.specs.Machine.{Stream, Status, start}
use Rattle.records_rules.specs.Machine as machine
use Rattle.records_rules.specs.Bytes.{streams_of}
use Rattle.records_rules.specs.View.{statuses_of}
use Rattle.records_rules.specs.State.{answer_of, arrays_fit, right_streams, padded, opening, Small}

-- "a length or a number in use that is not right gets 15": each array has 256 places, and the streams are at most 256
abbrev pub plain_fits : ℕ → List ℕ → List ℕ → List ℕ → List ℕ → Bool
plain_fits n ms ts cs hs = arrays_fit n (length ms) (length ts) (length cs) (length hs) 256

-- what the inner functions need of it
abbrev pub PlainRoom : ℕ → List ℕ → List ℕ → List ℕ → List ℕ → Type 0
PlainRoom n ms ts cs hs = (n ≤ 256) × (256 ≤ length ms) × (256 ≤ length ts) × (256 ≤ length cs) × (256 ≤ length hs)

-- the four arrays are as at entry
pub record PlainUntouched (ms ts cs hs ms' ts' cs' hs' : List ℕ) : Type 0 where
  pub marks : ms' ≡ ms
  pub times : ts' ≡ ts
  pub places : cs' ≡ cs
  pub heads : hs' ≡ hs

-- the answer x and the statuses left are those of the machine's `next`, and every place behind a record fits, as at entry
pub record PlainSays (b : ℕ → Stream) (n : ℕ) (ms ts cs hs : List ℕ) (x : Answer) (ms' ts' cs' hs' : List ℕ) : Type 0 where
  pub heard : x ≡ answer_of (machine.answer (machine.next b (statuses_of n ms ts cs hs)))
  pub leaves : statuses_of n ms' ts' cs' hs' ≡ machine.rest (machine.next b (statuses_of n ms ts cs hs))
  pub small : Small n cs' hs'

-- what an accepted opening of n streams leaves: each waits at its hint, every other place is empty
pub record PlainOpened (n : ℕ) (hints ms ts cs hs : List ℕ) : Type 0 where
  pub starts : statuses_of n ms ts cs hs ≡ start (padded n hints)
  pub small : Small n cs hs
  pub places : (q : ℕ) → q < 256 → (get_or cs q 0 ≡ 0) × (get_or hs q 0 ≡ 0)
  pub unused : (q : ℕ) → n ≤ q → q < 256 → (get_or ms q 0 ≡ 0) × (get_or ts q 0 ≡ 0)

-- what a call promises, with the answer x: 15 and nothing changed where the memory is not right; else what the machine says. (A state in
-- which a place behind a record does not fit was not opened: of it nothing is said but that the call ends and is safe.)
pub record PlainNext (buffer cuts : List ℕ) (n : ℕ) (ms ts cs hs : List ℕ) (x : Answer) (ms' ts' cs' hs' : List ℕ) : Type 0 where
  pub refused : plain_fits n ms ts cs hs ≡ false → (x ≡ answer 15 []) × PlainUntouched ms ts cs hs ms' ts' cs' hs'
  pub told : plain_fits n ms ts cs hs ≡ true → Small n cs hs → PlainSays (streams_of buffer cuts) n ms ts cs hs x ms' ts' cs' hs'

-- what an opening promises, with the answer x: 15, then 12, then done with the streams, all of which are held
pub record PlainOpens (buffer cuts hints ms ts cs hs : List ℕ) (x : Answer) (ms' ts' cs' hs' : List ℕ) : Type 0 where
  pub answers : x ≡ opening (plain_fits 0 ms ts cs hs) (right_streams (length buffer) cuts (length hints)) (length cuts - 1)
  pub refused : (plain_fits 0 ms ts cs hs && right_streams (length buffer) cuts (length hints)) ≡ false
      → PlainUntouched ms ts cs hs ms' ts' cs' hs'
  pub opened : (plain_fits 0 ms ts cs hs && right_streams (length buffer) cuts (length hints)) ≡ true
      → PlainOpened (length cuts - 1) hints ms' ts' cs' hs'

-- ---- calls one after the other

-- what the caller lends
pub record PlainLent : Type 0 where
  pub marks : List ℕ
  pub times : List ℕ
  pub places : List ℕ
  pub heads : List ℕ

-- the statuses of the first n streams
abbrev pub statuses_lent : ℕ → PlainLent → List Status
statuses_lent n s = statuses_of n s.marks s.times s.places s.heads

-- calls of the plain `next` from the state s on, and what they answered
pub data PlainCalls (b : ℕ → Stream) (n : ℕ) : PlainLent → List Answer → Type 0 where
  stop : {s : PlainLent} → PlainCalls b n s []
  call : {s s' : PlainLent} {x : Answer} {xs : List Answer}
      → PlainSays b n s.marks s.times s.places s.heads x s'.marks s'.times s'.places s'.heads
      → PlainCalls b n s' xs → PlainCalls b n s (x ∷ xs)
