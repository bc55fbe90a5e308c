-- A run over streams that arrive in portions, at the C door.
use Rattle.std.specs.Prelude.{ℕ, ◌≤◌, ◌≡◌, true, false, List, [], length}
use Rattle.theory.specs.Answer.{answer}
use Rattle.run_rules.specs.Rows.{run_fits, most}
use Rattle.feed_rules.specs.Windows.{Alike}
use Rattle.feed_rules.specs.Spans.{FeedArrays, feed_fit_in, feed_at, FeedSound}
use Rattle.feed_run.specs.Run.{ran_of⁺}
use Rattle.door_run.specs.Handing.{Numbers, RunHanded, RunHands}

-- a run of at most k calls: the numbers and the list are those of the run from what is kept, what is left is what that run leaves, and the
-- state left is sound
pub record FeedRunMade (n k : ℕ) (window : List ℕ) (a : FeedArrays) (ws : List ℕ) (r : ℕ) (o o' : Numbers) (held : ℕ) (a' : FeedArrays) (ws' : List ℕ) : Type 0 where
  pub hands : RunHands (ran_of⁺ k (feed_at n window a)) ws r o o' ws'
  pub leaves : Alike (feed_at n window a') (ran_of⁺ k (feed_at n window a)).left
  pub sound : FeedSound n held a'

-- `desk_feed_run`, which returned r: 15 and nothing changed where what is lent or the allowance is not right; else as above
pub record DeskFeedRun (window : List ℕ) (allowance held : ℕ) (a : FeedArrays) (ws : List ℕ) (o : Numbers) (r held' : ℕ) (a' : FeedArrays) (ws' : List ℕ) (o' : Numbers) : Type 0 where
  pub refused : run_fits (feed_fit_in held window a) allowance (length ws) ≡ false
      → RunHanded (answer 15 []) 0 0 r o o' × (held' ≡ held) × (a' ≡ a) × (ws' ≡ ws)
  pub made : run_fits (feed_fit_in held window a) allowance (length ws) ≡ true
      → (n : ℕ) → n ≤ 256 → FeedSound n held a → FeedRunMade n (most allowance (length ws)) window a ws r o o' held' a' ws'
