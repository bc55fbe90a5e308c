-- An engine of the merge (RULES, Requests, No. 12): what an opening and a call leave, where `sound n held` says of arrays that they are
-- a sound state of n streams, of which so many are held. What is promised of the answers names no engine. Assumes nothing.
use Rattle.std.specs.Prelude.{◌≡◌, refl, ℕ, ◌-◌, ◌≤◌, true, List, length}
use Rattle.leaves_limits.specs.Limits.{most_streams}
use Rattle.theory.specs.Answer.{Answer}
use Rattle.records_rules.specs.Machine.{Stream, start}
use Rattle.records_rules.specs.Machine as machine
use Rattle.records_rules.specs.State.{answer_of, padded, right_streams, Arrays, fit_in, statuses_at, OpenedIn, open_answer, OpenSays}

-- the answer x and the statuses left are those of the machine's `next`, and the state left is sound
pub record EngineSays (sound : ℕ → ℕ → Arrays → Type 0) (b : ℕ → Stream) (n : ℕ) (a : Arrays) (x : Answer) (held : ℕ) (a' : Arrays) : Type 0 where
  pub heard : x ≡ answer_of (machine.answer (machine.next b (statuses_at n a)))
  pub leaves : statuses_at n a' ≡ machine.rest (machine.next b (statuses_at n a))
  pub after : sound n held a'

-- a call: no more are held than before, and on what is lent right a sound state says what the machine says
pub record EngineTurns (sound : ℕ → ℕ → Arrays → Type 0) (b : ℕ → Stream) (held : ℕ) (a : Arrays) (x : Answer) (held' : ℕ) (a' : Arrays) : Type 0 where
  pub fewer : held' ≤ held
  pub says : fit_in held a ≡ true → (n : ℕ) → n ≤ most_streams → sound n held a → EngineSays sound b n a x held' a'

-- what an accepted opening of n streams leaves: each waits at its hint, and the state is sound, all of its streams held
pub record EngineOpened (sound : ℕ → ℕ → Arrays → Type 0) (n : ℕ) (hints : List ℕ) (a : Arrays) : Type 0 where
  pub starts : statuses_at n a ≡ start (padded n hints)
  pub after : sound n n a

-- an opening, on what is lent right: 12, or done with the streams
pub record EngineOpens (sound : ℕ → ℕ → Arrays → Type 0) (buffer cuts hints : List ℕ) (a : Arrays) (x : Answer) (a' : Arrays) : Type 0 where
  pub answers : fit_in 0 a ≡ true → x ≡ open_answer buffer cuts hints a
  pub opened : fit_in 0 a ≡ true → right_streams (length buffer) cuts (length hints) ≡ true → EngineOpened sound (length cuts - 1) hints a'

-- the heap's opening is one, where what it leaves is sound
pub engine_opens : {sound : ℕ → ℕ → Arrays → Type 0} → ((n : ℕ) (hints : List ℕ) (a : Arrays) → OpenedIn n hints a → sound n n a)
    → {buffer cuts hints : List ℕ} {a : Arrays} {x : Answer} {a' : Arrays} → OpenSays buffer cuts hints a x a' → EngineOpens sound buffer cuts hints a x a'
engine_opens law told =
    record {
      answers = λ e. told.answers;
      opened = λ e r. let o = told.opened (rw (e, r) refl) in record { starts = o.starts; after = law _ _ _ o };
    }
