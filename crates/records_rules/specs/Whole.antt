-- A whole run from the hints: how many calls it takes, that it ends in End and stays there, and the two theorems for it.
-- Assumes nothing.
-- What rests on a step of the machine stands in proofs/Whole.
use Rattle.std.specs.Prelude.{◌≡◌, refl, ℕ, zero, suc, ◌+◌, ◌-◌, ◌≤◌, List, [], ◌∷◌, length, get_or, set}
use Rattle.std.proofs.Common.{arith}
use Rattle.leaves.specs.Frame.{Read, whole, ended, damaged}
use Rattle.records_rules.specs.Machine.{Fits, Stream, own_on, own_f, own}
use Rattle.records_rules.specs.Machine.{Status, gone}
use Rattle.records_rules.specs.Machine.{Answer, says, end, run_f, start}
use Rattle.records_rules.specs.Kept.{left_of, sum_by, total}

-- ---- how much a stream can say: each saying takes a byte at least

own_f_short : (f : ℕ) (s : Stream) (a : ℕ) → length (own_f f s a) ≤ s.size - a
unfolding own_f own_on
own_f_short zero s a = omega arith
own_f_short (suc f) s a = go (s.read a) (s.fits a) (λ c. own_f_short f s c)
  where
    go : (r : Read) → Fits s.size a r → ((c : ℕ) → length (own_f f s c) ≤ s.size - c)
        → length (own_on (λ c. own_f f s c) a r) ≤ s.size - a
    go ended h ih = omega arith
    go (damaged r) h ih = omega arith
    go (whole l κ ι t) h ih = omega (arith, ih (a + l))

pub own_short : (s : Stream) (a : ℕ) → length (own s a) ≤ s.size - a
unfolding own
own_short s a = own_f_short s.size s a

unfoldable pub bytes : (ℕ → Stream) → ℕ → ℕ
bytes b zero = 0
bytes b (suc n) = (b 0).size + bytes (λ p. b (suc p)) n

pub total_start : (b : ℕ → Stream) (hs : List ℕ) → total b (start hs) ≤ bytes b (length hs)
unfolding total sum_by start bytes left_of
total_start b [] = omega arith
total_start b (h ∷ hs) = omega (arith, own_short (b 0) 0, total_start (λ p. b (suc p)) hs)

-- ---- the calls

-- the last answer is End, and no other is
abbrev pub Ends : List Answer → Type 0
Ends [] = ⊥
Ends (says p y ∷ xs) = Ends xs
Ends (end ∷ xs) = xs ≡ []

-- ---- damage: "13 in the merge closes its stream and keeps what the same call read in others before it"

pub set_gone : (ss : List Status) (p : ℕ) → get_or (set ss p gone) p gone ≡ gone
set_gone [] p = refl
set_gone (s ∷ ss) zero = refl
set_gone (s ∷ ss) (suc p) = set_gone ss p

-- ---- a whole run

unfoldable pub run : (ℕ → Stream) → List ℕ → List Answer
unfolding run_f start bytes
run b hs = run_f (suc (bytes b (length hs))) b (start hs)

-- as many calls as records and damage reports, and one
unfoldable pub counted : (ℕ → Stream) → ℕ → ℕ
counted b zero = 0
counted b (suc n) = length (own (b 0) 0) + counted (λ p. b (suc p)) n

-- ---- the answers from a state on, with no count: what a loop over `next` cites

-- the answers of call after call, up to the first end
unfoldable pub all_from : (ℕ → Stream) → List Status → List Answer
unfolding run_f total
all_from b ss = run_f (suc (total b ss)) b ss
