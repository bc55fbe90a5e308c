-- What a run writes to its list and hands back, of what it notes of each call (RULES, Requests, No. 14). Assumes nothing.
use Rattle.std.specs.Prelude.{◌≡◌, ℕ, suc, ◌/◌, ◌%◌, min, ◌+◌, ◌*◌, Bool, true, false, ◌&&◌, List, [], ◌∷◌, ◌++◌, length, drop, set, eqb, leb}
use Rattle.theory.specs.Answer.{Answer, answer}
use Rattle.run_rules.specs.Batch.{Ran, ran}
use Rattle.leaves_limits.specs.Limits.{most_calls}

-- ---- what is lent

-- "at most a stated number of next calls, 0 to 4,096 (more gets 15)"; a list of whole rows of three words
unfoldable pub run_fits : Bool → ℕ → ℕ → Bool
run_fits arrays allowance words = arrays && (leb allowance most_calls && eqb (words % 3) 0)

-- the most calls that are made: no more than allowed, and none where the list is full
abbrev pub most : ℕ → ℕ → ℕ
most allowance words = min allowance (words / 3)

-- ---- what is noted of a call

-- stream, place and time of a record, after which the run goes on; or how the run stops
pub data Note : Type 0 where
  writes : ℕ → ℕ → ℕ → Note
  stops : Answer → Note

unfoldable pub goes_on : Note → Bool
goes_on (writes p a t) = true
goes_on (stops x) = false

-- at most k calls, each from the state that the one before left
unfoldable pub run_of : {S : Type 0} → (S → Note) → (S → S) → ℕ → S → Ran Note S
unfolding ran goes_on
run_of say go k s = ran say go goes_on k s

-- a further call may be made; the end; more of the stream p is needed first
abbrev pub going : Answer
going = answer 0 (1 ∷ [])

abbrev pub ended : Answer
ended = answer 0 (0 ∷ [])

abbrev pub wanting : ℕ → Answer
wanting p = answer 0 (2 ∷ p ∷ [])

-- ---- what a run hands back

-- how many records
unfoldable pub tally : Note → ℕ → ℕ
tally (writes p a t) n = suc n
tally (stops x) n = n

unfoldable pub records_in : List Note → ℕ
unfolding tally
records_in [] = 0
records_in (x ∷ xs) = tally x (records_in xs)

-- "stream, place and time of each record"
unfoldable pub row_of : Note → List ℕ → List ℕ
row_of (writes p a t) ws = p ∷ a ∷ t ∷ ws
row_of (stops x) ws = ws

unfoldable pub words_of : List Note → List ℕ
unfolding row_of
words_of [] = []
words_of (x ∷ xs) = row_of x (words_of xs)

-- the list: the words of each record from its front, then what it held
unfoldable pub list_after : List Note → List ℕ → List ℕ
unfolding words_of
list_after xs ws = words_of xs ++ drop (length (words_of xs)) ws

-- how it stopped: at the first answer that is no record, if one was heard
unfoldable pub stop_on : Note → Answer → Answer
stop_on (writes p a t) later = later
stop_on (stops x) later = x

unfoldable pub last_in : List Note → Answer
unfolding stop_on
last_in [] = going
last_in (x ∷ xs) = stop_on x (last_in xs)

-- the calls, the records written, the last answer and the list are the run's
pub record Gives {S : Type 0} (r : Ran Note S) (ws : List ℕ) (c w : ℕ) (x : Answer) (ws' : List ℕ) : Type 0 where
  pub calls : c ≡ r.steps
  pub written : w ≡ records_in r.heard
  pub answers : x ≡ last_in r.heard
  pub list : ws' ≡ list_after r.heard ws

-- bad memory or allowance: 15, nothing was called, and everything is as at entry
pub record RunRefused {S : Type 0} (a : S) (ws : List ℕ) (size c w size' : ℕ) (x : Answer) (a' : S) (ws' : List ℕ) : Type 0 where
  pub answers : x ≡ answer 15 []
  pub calls : c ≡ 0
  pub written : w ≡ 0
  pub held : size' ≡ size
  pub untouched : a' ≡ a
  pub list : ws' ≡ ws

-- the row i of a list, written
unfoldable pub row : List ℕ → ℕ → ℕ → ℕ → ℕ → List ℕ
row ws i p a t = set (set (set ws (3 * i) p) (3 * i + 1) a) (3 * i + 2) t

-- the row of a call
unfoldable pub row_in : Note → ℕ → List ℕ → List ℕ
unfolding row
row_in (writes p a t) i ws = row ws i p a t
row_in (stops x) i ws = ws

-- a call is noted: its row, whether the run goes on, and how it stopped
pub record Noted (ws : List ℕ) (i : ℕ) (x : Note) (more : Bool) (last : Answer) (ws' : List ℕ) : Type 0 where
  pub goes : more ≡ goes_on x
  pub stopped : last ≡ stop_on x going
  pub list : ws' ≡ row_in x i ws
