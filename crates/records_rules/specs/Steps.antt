-- The ways a turn of the loop goes, on a sound state. Assumes nothing.
-- What rests on a step of the machine stands in proofs/Steps.
use Rattle.std.specs.Prelude.{◌≡◌, refl, ℕ, ◌≤◌, List, length}
use Rattle.std.proofs.Common.{arith}
use Rattle.theory.specs.Answer.{Answer}
use Rattle.records_rules.specs.Machine.{Stream, says, end, record_at_lem, damage_at, turn}
use Rattle.records_rules.specs.Machine as machine
use Rattle.records_rules.specs.View.{statuses_of}
use Rattle.records_rules.specs.State.{StateOk, arrays, TurnSays}

-- this state is sound, and the machine goes on from it as from the call's entry
pub record Keeps (b : ℕ → Stream) (n : ℕ) (ks₀ ts₀ cs₀ ls₀ : List ℕ) (size : ℕ) (ms ts cs hs hp : List ℕ) : Type 0 where
  pub sound : StateOk n size ms ts cs hs hp
  pub same : machine.next b (statuses_of n ms ts cs hs) ≡ machine.next b (statuses_of n ks₀ ts₀ cs₀ ls₀)

-- the loop's invariant: the arrays keep their lengths, and where the entry was sound this is
pub record Going (b : ℕ → Stream) (held : ℕ) (ks₀ ts₀ cs₀ ls₀ hp₀ : List ℕ) (size : ℕ) (ms ts cs hs hp : List ℕ) : Type 0 where
  pub marks : length ms ≡ length ks₀
  pub times : length ts ≡ length ts₀
  pub places : length cs ≡ length cs₀
  pub heads : length hs ≡ length ls₀
  pub heap : length hp ≡ length hp₀
  pub few : size ≤ held
  pub keeps : (n : ℕ) → n ≤ 256 → StateOk n held ks₀ ts₀ cs₀ ls₀ hp₀ → Keeps b n ks₀ ts₀ cs₀ ls₀ size ms ts cs hs hp

pub going_start : (b : ℕ → Stream) (held : ℕ) (ms ts cs hs hp : List ℕ) → Going b held ms ts cs hs hp held ms ts cs hs hp
going_start b held ms ts cs hs hp =
    record { marks = refl; times = refl; places = refl; heads = refl; heap = refl; few = omega arith; keeps = λ n hn k. record { sound = k; same = refl } }

-- what a return has to show
abbrev pub Done : (b : ℕ → Stream) (held : ℕ) (ks₀ ts₀ cs₀ ls₀ hp₀ : List ℕ) (x : Answer) (size : ℕ) (ms ts cs hs hp : List ℕ) → Type 0
Done b held ks₀ ts₀ cs₀ ls₀ hp₀ x size ms ts cs hs hp = TurnSays b held (arrays ks₀ ts₀ cs₀ ls₀ hp₀) x size (arrays ms ts cs hs hp)
