-- A run over whole buffers: at most a stated number of calls of the record merge, and what it hands back (RULES, Requests, No. 14).
-- Assumes nothing.
use Rattle.std.specs.Prelude.{◌≡◌, ℕ, ◌≤◌, true, false, length, List, [], ◌∷◌, ⊤, Result, Ok, Err}
use Rattle.theory.specs.Answer.{Answer, answer}
use Rattle.leaves.specs.declared.refusal.Refusal.{Refusal}
use Rattle.run_rules.specs.Batch.{Ran}
use Rattle.run_rules.specs.Rows.{run_fits, most, Note, writes, stops, run_of, ended, Gives, RunRefused}
use Rattle.run_list.specs.declared.run.Last.{Last}
use Rattle.run_list.specs.declared.run.Last.TheVariants as last
use Rattle.records_rules.specs.Machine.{Stream, record_at_lem, damage_at, Status, says, end, next, rest}
use Rattle.records_rules.specs.Machine as machine
use Rattle.records_rules.specs.State.{Arrays, fit_in, statuses_at, SoundIn}

-- ---- the run of the machine

-- what a run notes of an answer: it goes on after a record
unfoldable pub note_of : machine.Answer → Note
note_of (says p (record_at_lem a r)) = writes p a r.time
note_of (says p (damage_at a reason)) = stops (answer 13 (p ∷ a ∷ reason ∷ []))
note_of end = stops ended

-- a call of the machine's `next`: what is noted of it, and the statuses that it leaves
abbrev pub say : (ℕ → Stream) → List Status → Note
say b ss = note_of (machine.answer (next b ss))

abbrev pub go : (ℕ → Stream) → List Status → List Status
go b ss = rest (next b ss)

-- at most k of them
abbrev pub ran_of : ℕ → (ℕ → Stream) → List Status → Ran Note (List Status)
ran_of k b ss = run_of (say b) (go b) k ss

-- ---- a run's contract

-- a run of at most k calls: its numbers, its list and the statuses left are those of the machine's run, and the state left is sound
pub record RunSays (b : ℕ → Stream) (n k : ℕ) (a : Arrays) (ws : List ℕ) (c w size : ℕ) (x : Answer) (a' : Arrays) (ws' : List ℕ) : Type 0 where
  pub gives : Gives (ran_of k b (statuses_at n a)) ws c w x ws'
  pub leaves : statuses_at n a' ≡ (ran_of k b (statuses_at n a)).left
  pub sound : SoundIn n size a'

-- `run`: the first where what is lent or the allowance is not right, else the second
pub record RunGives (b : ℕ → Stream) (allowance size : ℕ) (a : Arrays) (ws : List ℕ) (c w size' : ℕ) (x : Answer) (a' : Arrays) (ws' : List ℕ) : Type 0 where
  pub refused : run_fits (fit_in size a) allowance (length ws) ≡ false → RunRefused a ws size c w size' x a' ws'
  pub says : run_fits (fit_in size a) allowance (length ws) ≡ true
      → (n : ℕ) → n ≤ 256 → SoundIn n size a → RunSays b n (most allowance (length ws)) a ws c w size' x a' ws'

-- a run of whole buffers never needs more of a stream, whatever is lent
abbrev pub IsWhole : Result Last Refusal → Type 0
IsWhole (Ok last.Going) = ⊤
IsWhole (Ok last.End) = ⊤
IsWhole (Ok (last.NeedMore stream)) = ⊥
IsWhole (Err r) = ⊤
