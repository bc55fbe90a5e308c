-- A run over streams that arrive in portions: at most a stated number of calls for the next answer, and what it hands back (RULES,
-- Requests, No. 14). Assumes nothing.
use Rattle.std.specs.Prelude.{◌≡◌, ℕ, ◌≤◌, true, false, length, List, [], ◌∷◌}
use Rattle.theory.specs.Answer.{Answer, answer}
use Rattle.run_rules.specs.Batch.{Ran}
use Rattle.run_rules.specs.Rows.{run_fits, most, Note, writes, stops, run_of, ended, wanting, Gives, RunRefused}
use Rattle.records_rules.specs.Machine.{record_at_lem, damage_at, says, end}
use Rattle.feed_rules.specs.Partial.{Turn⁺, replies, needs}
use Rattle.feed_rules.specs.Windows.{Feed, turn_in, next_leaves, Alike}
use Rattle.feed_rules.specs.Spans.{FeedArrays, feed_fit_in, feed_at, FeedSound}

-- ---- the run

-- what a run notes of a turn: it goes on after a record; need more stops it
unfoldable pub note_of⁺ : Turn⁺ → Note
note_of⁺ (replies (says p (record_at_lem a r)) ss) = writes p a r.time
note_of⁺ (replies (says p (damage_at a reason)) ss) = stops (answer 13 (p ∷ a ∷ reason ∷ []))
note_of⁺ (replies end ss) = stops ended
note_of⁺ (needs p ss) = stops (wanting p)

-- a call for the next answer: what is noted of it; what it leaves is `next_leaves`
abbrev pub say⁺ : Feed → Note
say⁺ F = note_of⁺ (turn_in F)

-- at most k of them
abbrev pub ran_of⁺ : ℕ → Feed → Ran Note Feed
ran_of⁺ k F = run_of say⁺ next_leaves k F

-- ---- a run's contract

-- a run of at most k calls: its numbers and its list are those of the run from what is kept, what is left is what that run leaves, and
-- the state left is sound
pub record FeedRunSays (n k : ℕ) (window : List ℕ) (a : FeedArrays) (ws : List ℕ) (c w size : ℕ) (x : Answer) (a' : FeedArrays) (ws' : List ℕ) : Type 0 where
  pub gives : Gives (ran_of⁺ k (feed_at n window a)) ws c w x ws'
  pub leaves : Alike (feed_at n window a') (ran_of⁺ k (feed_at n window a)).left
  pub sound : FeedSound n size a'

-- `run`: the first where what is lent or the allowance is not right, else the second
pub record FeedRunGives (window : List ℕ) (allowance size : ℕ) (a : FeedArrays) (ws : List ℕ) (c w size' : ℕ) (x : Answer) (a' : FeedArrays) (ws' : List ℕ) : Type 0 where
  pub refused : run_fits (feed_fit_in size window a) allowance (length ws) ≡ false → RunRefused a ws size c w size' x a' ws'
  pub says : run_fits (feed_fit_in size window a) allowance (length ws) ≡ true
      → (n : ℕ) → n ≤ 256 → FeedSound n size a → FeedRunSays n (most allowance (length ws)) window a ws c w size' x a' ws'
