-- The record merge where streams arrive in portions (RULES, Requests, No. 5): the machine of `Machine`, in which a read may want more
-- bytes first. What is known of a stream so far takes the place of the stream. Assumes nothing.
use Rattle.std.specs.Prelude.{◌≡◌, ℕ, zero, suc, ◌+◌, ◌-◌, Bool, cond, ◌||◌, List, [], ◌∷◌, length, get_or, set, ltb}
use Rattle.std.proofs.Math.Option.{Option, none, some}
use Rattle.theory.specs.Fields.{field}
use Rattle.leaves.specs.Frame.{Read, damaged, record_at, frame_at}
use Rattle.records_rules.specs.Machine.{Stream, record_at_lem, Status, waiting, standing, gone, First, nobody, first, least}
use Rattle.records_rules.specs.Machine.{Answer, says, end, Step, done, again, after_read, Turn, turn}

-- ---- what is known of a stream

-- what has come of a stream: its bytes so far, and whether it has been ended
pub record Part : Type 0 where
  pub bytes : List ℕ
  pub over : Bool

abbrev pub part : List ℕ → Bool → Part
part bytes over = record { bytes = bytes; over = over }

-- where so many bytes are left and the stream has not been ended: "the length is judged only once 16 bytes are there"
unfoldable pub so_far : ℕ → ℕ → Read → Option Read
so_far left size r =
    cond (ltb left 16) none
    (cond (ltb size 16 || ltb 1024 size) (some (damaged 2))
    (cond (ltb left size) none (some r)))

-- what a read at the place finds, or none where more must come first
unfoldable pub known_at : Part → ℕ → Option Read
unfolding so_far
known_at s a = cond s.over (some (frame_at s.bytes a)) (so_far (length s.bytes - a) (field 2 s.bytes a) (record_at s.bytes a))

-- ---- the machine: k p a is what a read of the stream p at the place a finds, where it is known

-- one step of a call: a step of `Machine`, or more of a stream is wanted first
pub data Step⁺ : Type 0 where
  moved : Step → Step⁺
  wants : ℕ → Step⁺

-- the stream p waited at the place a, and this is known of the read there
unfoldable pub found⁺ : List Status → ℕ → ℕ → Option Read → Step⁺
found⁺ ss p a none = wants p
found⁺ ss p a (some r) = moved (after_read ss p a r)

-- the stream p is chosen, and its status is this
unfoldable pub chosen⁺ : (ℕ → ℕ → Option Read) → List Status → ℕ → Status → Step⁺
unfolding found⁺
chosen⁺ k ss p (waiting t a) = found⁺ ss p a (k p a)
chosen⁺ k ss p (standing a r) = moved (done (says p (record_at_lem a r)) (set ss p (waiting r.time (a + r.size))))
chosen⁺ k ss p gone = moved (done end ss)

unfoldable pub step_at⁺ : (ℕ → ℕ → Option Read) → List Status → First → Step⁺
unfolding chosen⁺
step_at⁺ k ss nobody = moved (done end ss)
step_at⁺ k ss (first t p) = chosen⁺ k ss p (get_or ss p gone)

unfoldable pub step⁺ : (ℕ → ℕ → Option Read) → List Status → Step⁺
unfolding step_at⁺
step⁺ k ss = step_at⁺ k ss (least ss)

-- a call's answer, or which stream it needs more of, and what it leaves
pub data Turn⁺ : Type 0 where
  replies : Answer → List Status → Turn⁺
  needs : ℕ → List Status → Turn⁺

-- after a step from these statuses: `go` is the rest of the call
unfoldable pub onward⁺ : (List Status → Turn⁺) → List Status → Step⁺ → Turn⁺
onward⁺ go ss (wants p) = needs p ss
onward⁺ go ss (moved (done x ss')) = replies x ss'
onward⁺ go ss (moved (again ss')) = go ss'

unfoldable pub next_f⁺ : ℕ → (ℕ → ℕ → Option Read) → List Status → Turn⁺
unfolding onward⁺ step⁺
next_f⁺ zero k ss = replies end ss
next_f⁺ (suc f) k ss = onward⁺ (λ ss'. next_f⁺ f k ss') ss (step⁺ k ss)

-- a call reads in no stream twice
unfoldable pub next⁺ : (ℕ → ℕ → Option Read) → List Status → Turn⁺
unfolding next_f⁺
next⁺ k ss = next_f⁺ (suc (length ss)) k ss

-- the statuses that a call leaves; "a call after 'need more' goes on with the same read"
unfoldable pub rest⁺ : Turn⁺ → List Status
rest⁺ (replies x ss) = ss
rest⁺ (needs p ss) = ss

-- ---- beside the whole streams

-- what is known is so of the streams b
abbrev pub Knows : (ℕ → ℕ → Option Read) → (ℕ → Stream) → Type 0
Knows k b = (p a : ℕ) (r : Read) → k p a ≡ some r → (b p).read a ≡ r

-- calls, each on what had come by then, all of it so of the streams b; the "need more" answers are struck out
pub data Heard (b : ℕ → Stream) : List Status → List Answer → Type 0 where
  stop : {ss : List Status} → Heard b ss []
  reply : {ss ss' : List Status} {x : Answer} {xs : List Answer} (k : ℕ → ℕ → Option Read)
      → Knows k b → next⁺ k ss ≡ replies x ss' → Heard b ss' xs → Heard b ss (x ∷ xs)
  need : {ss ss' : List Status} {p : ℕ} {xs : List Answer} (k : ℕ → ℕ → Option Read)
      → Knows k b → next⁺ k ss ≡ needs p ss' → Heard b ss' xs → Heard b ss xs

-- everything is known: a whole buffer
abbrev pub all : (ℕ → Stream) → ℕ → ℕ → Option Read
all b p a = some ((b p).read a)

-- a turn of `Machine` as a turn of this machine
unfoldable pub lifted : Turn → Turn⁺
lifted (turn x ss) = replies x ss

-- ---- when more is needed

-- reads, one after the other, that lead from these statuses to those
pub data Reads (k : ℕ → ℕ → Option Read) : List Status → List Status → Type 0 where
  here : {ss : List Status} → Reads k ss ss
  onto : {ss ss' ss'' : List Status} → step⁺ k ss ≡ moved (again ss') → Reads k ss' ss'' → Reads k ss ss''

-- the next step must read from the stream p, and it is not known what stands there
pub record Wants (k : ℕ → ℕ → Option Read) (ss : List Status) (p : ℕ) : Type 0 where
  pub time : ℕ
  pub place : ℕ
  pub firstly : least ss ≡ first time p
  pub waits : get_or ss p gone ≡ waiting time place
  pub unknown : k p place ≡ none
