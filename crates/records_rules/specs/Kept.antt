-- Nothing is lost: of a run's answers, those that concern a stream are what the stream says by itself.
-- Assumes nothing.
-- What rests on a step of the machine stands in proofs/Kept.
use Rattle.std.proofs.Math.Path.{◌≡◌, refl, ap}
use Rattle.std.proofs.Common.{arith}
use Rattle.std.specs.Prelude.{ℕ, zero, suc, ◌+◌, ◌-◌, ◌≤◌, ◌<◌, List, [], ◌∷◌, get_or, set}
use Rattle.std.proofs.Math.Option.{none, some}
use Rattle.std.proofs.Math.ListN.{length}
use Rattle.leaves.specs.Frame.{Read, whole, ended, damaged}
use Rattle.records_rules.specs.Machine.{rec, Fits, Stream, Said, record_at_lem, own_on, own_f, own}
use Rattle.records_rules.specs.Machine.{Status, waiting, standing, gone, key, First, nobody, first, least}
use Rattle.records_rules.specs.Machine.{Answer, says, end, Step, done, again, chosen, step_at, step, Turn, turn, onward, next_f, tell}
use Rattle.records_rules.specs.Least.{IsFirst, LeastOk, least_ok}

-- ---- what a stream says by itself

-- any count that is large enough gives the same
same : (f g : ℕ) (s : Stream) (a : ℕ) → s.size - a ≤ f → s.size - a ≤ g → own_f f s a ≡ own_f g s a
unfolding own_f own_on
same zero zero s a hf hg = refl
same zero (suc g) s a hf hg = go (s.read a) (s.fits a)
  where
    go : (r : Read) → Fits s.size a r → [] ≡ own_on (λ c. own_f g s c) a r
    go ended h = refl
    go (damaged r) h = absurd (omega arith)
    go (whole l κ ι t) h = absurd (omega arith)
same (suc f) zero s a hf hg = go (s.read a) (s.fits a)
  where
    go : (r : Read) → Fits s.size a r → own_on (λ c. own_f f s c) a r ≡ []
    go ended h = refl
    go (damaged r) h = absurd (omega arith)
    go (whole l κ ι t) h = absurd (omega arith)
same (suc f) (suc g) s a hf hg = go (s.read a) (s.fits a) (λ c h k. same f g s c h k)
  where
    go : (r : Read) → Fits s.size a r → ((c : ℕ) → s.size - c ≤ f → s.size - c ≤ g → own_f f s c ≡ own_f g s c)
        → own_on (λ c. own_f f s c) a r ≡ own_on (λ c. own_f g s c) a r
    go ended h ih = refl
    go (damaged r) h ih = refl
    go (whole l κ ι t) h ih = ap (λ (ys : List Said). record_at_lem a (rec l κ ι t) ∷ ys) (ih (a + l) (omega arith) (omega arith))

-- the equation that a reader expects, with no count
pub own_step : (s : Stream) (a : ℕ) → own s a ≡ own_on (own s) a (s.read a)
unfolding own
own_step s a = same s.size (suc s.size) s a (omega arith) (omega arith)

-- ---- what is yet to come of a stream, in a state

unfoldable pub left_of : Stream → Status → List Said
unfolding own
left_of s (waiting h a) = own s a
left_of s (standing a r) = record_at_lem a r ∷ own s (a + r.size)
left_of s gone = []

unfoldable pub left : (ℕ → Stream) → ℕ → List Status → List Said
unfolding left_of
left b p ss = left_of (b p) (get_or ss p gone)

-- ---- a sum over the streams

unfoldable pub sum_by : (ℕ → Status → ℕ) → List Status → ℕ
sum_by w [] = 0
sum_by w (s ∷ ss) = w 0 s + sum_by (λ p. w (suc p)) ss

-- the answers to come, and the streams that wait
unfoldable pub total : (ℕ → Stream) → List Status → ℕ
unfolding sum_by left_of
total b ss = sum_by (λ p s. length (left_of (b p) s)) ss

unfoldable pub unread : Status → ℕ
unread (waiting h a) = 1
unread (standing a r) = 0
unread gone = 0

unfoldable pub waits : List Status → ℕ
unfolding sum_by unread
waits ss = sum_by (λ p s. unread s) ss

pub sum_set : (w : ℕ → Status → ℕ) (ss : List Status) (q : ℕ) (s : Status) → q < length ss
    → sum_by w (set ss q s) + w q (get_or ss q gone) ≡ sum_by w ss + w q s
unfolding sum_by
sum_set w [] q s h = absurd (omega arith)
sum_set w (x ∷ ss) zero s h = omega arith
sum_set w (x ∷ ss) (suc q) s h = omega (arith, sum_set (λ p. w (suc p)) ss q s (omega arith))

pub waits_le : (ss : List Status) → waits ss ≤ length ss
unfolding waits sum_by unread
waits_le [] = omega arith
waits_le (waiting h a ∷ ss) = omega (arith, waits_le ss)
waits_le (standing a r ∷ ss) = omega (arith, waits_le ss)
waits_le (gone ∷ ss) = omega (arith, waits_le ss)

pub waits_less : (ss : List Status) (q h a : ℕ) (s : Status) → q < length ss → get_or ss q gone ≡ waiting h a → unread s ≡ 0 → waits (set ss q s) < waits ss
unfolding waits unread
waits_less ss q h a s l e u = omega (arith, sum_set (λ p s. unread s) ss q s l, ap unread e)

-- ---- one status changes

pub inside : (ss : List Status) (p t : ℕ) → key (get_or ss p gone) ≡ some t → p < length ss
unfolding key
inside [] p t e = let z : ◌≡◌ {A = ℕ} 0 1 = cc in absurd (omega arith)
inside (s ∷ ss) zero t e = omega arith
inside (s ∷ ss) (suc p) t e = omega (arith, inside ss p t e)

-- ---- a step, a call, a run

-- how many answers an answer is, of those that streams give
unfoldable pub size : Answer → ℕ
size (says p y) = 1
size end = 0

-- End is said only where every stream is gone
abbrev pub Closed : List Status → Answer → Type 0
Closed ss (says p y) = Unit {0}
Closed ss end = (q : ℕ) → key (get_or ss q gone) ≡ none

pub record DoneOk (b : ℕ → Stream) (ss : List Status) (x : Answer) (ss' : List Status) : Type 0 where
  pub kept : (p : ℕ) → tell p x (left b p ss') ≡ left b p ss
  pub less : size x + total b ss' ≡ total b ss
  pub long : length ss' ≡ length ss

pub record AgainOk (b : ℕ → Stream) (ss ss' : List Status) : Type 0 where
  pub kept : (p : ℕ) → left b p ss' ≡ left b p ss
  pub less : total b ss' ≡ total b ss
  pub long : length ss' ≡ length ss
  pub read : suc (waits ss') ≡ waits ss

abbrev pub StepOk : (ℕ → Stream) → List Status → Step → Type 0
StepOk b ss (done x ss') = DoneOk b ss x ss' × Closed ss' x
StepOk b ss (again ss') = AgainOk b ss ss'

-- of a step it is enough to show what nobody, and whoever comes first, leads-on to
pub step_by : (b : ℕ → Stream) (ss : List Status) (P : Step → Type 0) → (LeastOk ss nobody → P (done end ss))
    → ((t p : ℕ) → p < length ss → IsFirst ss t p → P (chosen b ss p (get_or ss p gone))) → P (step b ss)
unfolding step step_at
step_by b ss P no_one one = go (least ss) (least_ok ss)
  where
    go : (r : First) → LeastOk ss r → P (step_at b ss r)
    go nobody k = no_one k
    go (first t p) k = one t p (inside ss p t k.has) k

-- of a call it is enough to show where each step leads-on: to the answer, or on to statuses of which the rest of the call holds
abbrev pub LeadsOn : (ℕ → List Status → Type 0) → (List Status → Turn → Type 0) → ℕ → List Status → Step → Type 0
LeadsOn Good Ok f ss (done x ss') = Ok ss (turn x ss')
LeadsOn Good Ok f ss (again ss') = Good f ss' × ((r : Turn) → Ok ss' r → Ok ss r)

pub next_f_by : (b : ℕ → Stream) (Good : ℕ → List Status → Type 0) (Ok : List Status → Turn → Type 0) → ((ss : List Status) → Good 0 ss → Ok ss (turn end ss))
    → ((f : ℕ) (ss : List Status) → Good (suc f) ss → LeadsOn Good Ok f ss (step b ss))
    → (f : ℕ) (ss : List Status) → Good f ss → Ok ss (next_f f b ss)
unfolding next_f onward
next_f_by b Good Ok over leads_on zero ss h = over ss h
next_f_by b Good Ok over leads_on (suc f) ss h = go (step b ss) (leads_on f ss h) (λ ss' k. next_f_by b Good Ok over leads_on f ss' k)
  where
    go : (r : Step) → LeadsOn Good Ok f ss r → ((ss' : List Status) → Good f ss' → Ok ss' (next_f f b ss')) → Ok ss (onward (λ ss'. next_f f b ss') r)
    go (done x ss') k ih = k
    go (again ss') (g, k) ih = k (next_f f b ss') (ih ss' g)

abbrev pub TurnOk : (ℕ → Stream) → List Status → Turn → Type 0
TurnOk b ss (turn x ss') = DoneOk b ss x ss' × Closed ss' x

pub closed_left : (b : ℕ → Stream) (p : ℕ) (s : Status) → key s ≡ none → left_of (b p) s ≡ []
unfolding left_of key
closed_left b p (waiting h a) e = let z : ◌≡◌ {A = ℕ} 0 1 = cc in absurd (omega arith)
closed_left b p (standing a r) e = let z : ◌≡◌ {A = ℕ} 0 1 = cc in absurd (omega arith)
closed_left b p gone e = refl
