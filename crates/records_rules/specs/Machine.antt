-- The record merge as a machine: what a call of `next` answers, and what it leaves (RULES, Merging records).
-- A stream is known by what a read at each place of it finds. A state is a list of statuses, stream p's at index p. Assumes nothing.
use Rattle.std.specs.Prelude.{ℕ, zero, suc, ◌+◌, ◌≤◌, ◌<◌, cond, List, [], ◌∷◌, map, length, get_or, set, leb, eqb}
use Rattle.std.proofs.Math.Option.{Option, none, some}
use Rattle.leaves.specs.Frame.{Read, whole, ended, damaged}

-- ---- a stream

-- a record: its whole length, kind, instrument and time
pub record Rec : Type 0 where
  pub size : ℕ
  pub kind : ℕ
  pub instrument : ℕ
  pub time : ℕ

abbrev pub rec : ℕ → ℕ → ℕ → ℕ → Rec
rec size kind instrument time = record { size = size; kind = kind; instrument = instrument; time = time }

-- what a read at the place a of n bytes can find: the end at n, damage before it, a record that is not empty and ends within
abbrev pub Fits : ℕ → ℕ → Read → Type 0
Fits n a ended = n ≤ a
Fits n a (damaged reason) = a < n
Fits n a (whole size kind instrument time) = (0 < size) × (a + size ≤ n)

-- a stream: how many bytes it has, and what a read at each place finds
pub record Stream : Type 0 where
  pub size : ℕ
  pub read : ℕ → Read
  pub fits : (a : ℕ) → Fits size a (read a)

-- what a stream says by itself, from the place a on: its records, then its damage if it has one
pub data Said : Type 0 where
  record_at_lem : ℕ → Rec → Said  -- place, record
  damage_at : ℕ → ℕ → Said  -- place, reason

-- the read at the place a found this; `go` says what comes from a place on
unfoldable pub own_on : (ℕ → List Said) → ℕ → Read → List Said
own_on go a ended = []
own_on go a (damaged reason) = damage_at a reason ∷ []
own_on go a (whole size kind instrument time) = record_at_lem a (rec size kind instrument time) ∷ go (a + size)

unfoldable pub own_f : ℕ → Stream → ℕ → List Said
unfolding own_on
own_f zero s a = []
own_f (suc f) s a = own_on (λ c. own_f f s c) a (s.read a)

unfoldable pub own : Stream → ℕ → List Said
unfolding own_f
own s a = own_f s.size s a

-- ---- the machine

-- A stream waits at a time with the place to read next (a hint, or the time of the record it handed out last); or stands at a
-- record, with its place; or is gone.
pub data Status : Type 0 where
  waiting : ℕ → ℕ → Status
  standing : ℕ → Rec → Status
  gone : Status

-- the time by which a stream is chosen, "hint or record alike"
unfoldable pub key : Status → Option ℕ
key (waiting t a) = some t
key (standing a r) = some r.time
key gone = none

-- "the least (time, stream number)" of all
pub data First : Type 0 where
  nobody : First
  first : ℕ → ℕ → First  -- time, stream

unfoldable pub up : First → First
up nobody = nobody
up (first t p) = first t (suc p)

unfoldable pub before : Option ℕ → First → First
before none r = r
before (some t) nobody = first t 0
before (some t) (first u q) = cond (leb t u) (first t 0) (first u q)

unfoldable pub least : List Status → First
unfolding key before up
least [] = nobody
least (s ∷ ss) = before (key s) (up (least ss))

pub data Answer : Type 0 where
  says : ℕ → Said → Answer  -- stream, what
  end : Answer

-- one step of a call: an answer, or the choice is to be made again
pub data Step : Type 0 where
  done : Answer → List Status → Step
  again : List Status → Step

-- the stream p waited at the place a, and the read there found this: "with 0 bytes left the stream ends", "a read that fails gives 13",
-- "a hint gives way to its stream's first record, and the choice is made again"
unfoldable pub after_read : List Status → ℕ → ℕ → Read → Step
after_read ss p a ended = again (set ss p gone)
after_read ss p a (damaged reason) = done (says p (damage_at a reason)) (set ss p gone)
after_read ss p a (whole size kind instrument time) = again (set ss p (standing a (rec size kind instrument time)))

-- the stream p is chosen, and its status is this
unfoldable pub chosen : (ℕ → Stream) → List Status → ℕ → Status → Step
unfolding after_read
chosen b ss p (waiting t a) = after_read ss p a ((b p).read a)
chosen b ss p (standing a r) = done (says p (record_at_lem a r)) (set ss p (waiting r.time (a + r.size)))
chosen b ss p gone = done end ss

unfoldable pub step_at : (ℕ → Stream) → List Status → First → Step
unfolding chosen
step_at b ss nobody = done end ss
step_at b ss (first t p) = chosen b ss p (get_or ss p gone)

unfoldable pub step : (ℕ → Stream) → List Status → Step
unfolding least step_at
step b ss = step_at b ss (least ss)

pub data Turn : Type 0 where
  turn : Answer → List Status → Turn

-- after a step: `go` is the rest of the call
unfoldable pub onward : (List Status → Turn) → Step → Turn
onward go (done x ss) = turn x ss
onward go (again ss) = go ss

unfoldable pub next_f : ℕ → (ℕ → Stream) → List Status → Turn
unfolding step onward
next_f zero b ss = turn end ss
next_f (suc f) b ss = onward (λ ss'. next_f f b ss') (step b ss)

-- a call reads in no stream twice
unfoldable pub next : (ℕ → Stream) → List Status → Turn
unfolding next_f
next b ss = next_f (suc (length ss)) b ss

unfoldable pub answer : Turn → Answer
answer (turn x ss) = x

unfoldable pub rest : Turn → List Status
rest (turn x ss) = ss

-- the answers of f calls one after the other, of anything that is called again and again
unfoldable pub answers_by : {S : Type 0} → (S → Answer) → (S → S) → ℕ → S → List Answer
answers_by say go zero s = []
answers_by say go (suc f) s = say s ∷ answers_by say go f (go s)

unfoldable pub answers_f : ℕ → (ℕ → Stream) → List Status → List Answer
unfolding answers_by next answer rest
answers_f f b ss = answers_by (λ s. answer (next b s)) (λ s. rest (next b s)) f ss

-- answers up to the first end
unfoldable pub up_to : Answer → List Answer → List Answer
up_to (says p y) xs = says p y ∷ xs
up_to end xs = end ∷ []

unfoldable pub until_end : List Answer → List Answer
unfolding up_to
until_end [] = []
until_end (x ∷ xs) = up_to x (until_end xs)

unfoldable pub run_f : ℕ → (ℕ → Stream) → List Status → List Answer
unfolding answers_f until_end
run_f f b ss = until_end (answers_f f b ss)

-- one waiting stream for each hint
unfoldable pub start : List ℕ → List Status
start hs = map (λ h. waiting h 0) hs

-- of a run's answers, what they say of the stream p
unfoldable pub tell : ℕ → Answer → List Said → List Said
tell p (says q y) ys = cond (eqb q p) (y ∷ ys) ys
tell p end ys = ys

unfoldable pub mine : ℕ → List Answer → List Said
unfolding tell
mine p [] = []
mine p (x ∷ xs) = tell p x (mine p xs)
