-- A run over whole buffers at the C door.
use Rattle.std.specs.Prelude.{ℕ, ◌≤◌, ◌≡◌, true, false, List, [], length}
use Rattle.theory.specs.Answer.{answer}
use Rattle.run_rules.specs.Rows.{run_fits, most}
use Rattle.records_rules.specs.Machine.{Stream}
use Rattle.records_rules.specs.State.{Arrays, fit_in, statuses_at, SoundIn}
use Rattle.records_run.specs.Run.{ran_of}
use Rattle.door_run.specs.Handing.{Numbers, RunHanded, RunHands}

-- a run of at most k calls: the numbers, the list and the statuses left are those of the machine's run, and the state left is sound
pub record RunMade (b : ℕ → Stream) (n k : ℕ) (a : Arrays) (ws : List ℕ) (r : ℕ) (o o' : Numbers) (held : ℕ) (a' : Arrays) (ws' : List ℕ) : Type 0 where
  pub hands : RunHands (ran_of k b (statuses_at n a)) ws r o o' ws'
  pub leaves : statuses_at n a' ≡ (ran_of k b (statuses_at n a)).left
  pub sound : SoundIn n held a'

-- `desk_run`, which returned r: 15 and nothing changed where what is lent or the allowance is not right; else as above
pub record DeskRun (b : ℕ → Stream) (allowance held : ℕ) (a : Arrays) (ws : List ℕ) (o : Numbers) (r held' : ℕ) (a' : Arrays) (ws' : List ℕ) (o' : Numbers) : Type 0 where
  pub refused : run_fits (fit_in held a) allowance (length ws) ≡ false
      → RunHanded (answer 15 []) 0 0 r o o' × (held' ≡ held) × (a' ≡ a) × (ws' ≡ ws)
  pub made : run_fits (fit_in held a) allowance (length ws) ≡ true
      → (n : ℕ) → n ≤ 256 → SoundIn n held a → RunMade b n (most allowance (length ws)) a ws r o o' held' a' ws'
