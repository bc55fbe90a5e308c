-- Where each stream's times rise from its hint on, the records come out in the order of (time, stream, place).
-- Assumes nothing.
use Rattle.std.proofs.Math.Path.{◌≡◌, sym, ap}
use Rattle.std.specs.Prelude.{refl, ◌≢◌, List, ◌∷◌, length, get_or, set}
use Rattle.std.proofs.Common.{◌∙◌, le_refl, arith, get_or-set_same, get_or-set_other}
use Prim.Native.Nat.{ℕ, zero, suc, ◌+◌, ◌≤◌, ◌<◌}
use Rattle.std.proofs.Math.Decide.{ℕ_discrete}
use Rattle.std.proofs.Math.Option.{none, some}
use Rattle.leaves.specs.Frame.{Read, whole, ended, damaged}
use Rattle.records_rules.specs.Machine.{rec, Fits, Stream, record_at_lem, damage_at, own_on, own}
use Rattle.records_rules.specs.Machine.{Status, waiting, standing, gone, key}
use Rattle.records_rules.specs.Machine.{Answer, says, end, Step, done, again, after_read, chosen, step, Turn, turn, next, answer, rest, up_to, run_f}
use Rattle.records_rules.specs.Least.{Upto, upto_refl, upto_trans, IsFirst}
use Rattle.records_rules.specs.Kept.{own_step, step_by, LeadsOn, next_f_by}
use Rattle.records_rules.specs.Order.{Rising, Precedes, After, AllAfter, Sorted, Rises}

-- ---- what holds of a state all along

abbrev Over : ℕ → ℕ → ℕ → ℕ → Status → Type 0
Over t p a q (waiting u c) = Precedes t p a u q c
Over t p a q (standing c r) = Precedes t p a r.time q c
Over t p a q gone = Unit {0}

abbrev All : (ℕ → Status → Type 0) → List Status → Type 0
All P ss = (q : ℕ) → P q (get_or ss q gone)

abbrev Rise : (ℕ → Stream) → List Status → Type 0
Rise b ss = All (λ p s. Rises (b p) s) ss

abbrev Above : ℕ → ℕ → ℕ → List Status → Type 0
Above t p a ss = All (λ q s. Over t p a q s) ss

all_but : (P : ℕ → Status → Type 0) (ss : List Status) (q : ℕ) (s : Status) → q < length ss
    → ((p : ℕ) → p ≢ q → P p (get_or ss p gone)) → P q s → All P (set ss q s)
all_but P ss q s h k x p = go (ℕ_discrete p q)
  where
    go : Dec (p ≡ q) → P p (get_or (set ss q s) p gone)
    go (yes d) = rw (d, get_or-set_same ss q s gone h) x
    go (no d) = rw (get_or-set_other ss q p s gone d) (k p d)

all_set : (P : ℕ → Status → Type 0) (ss : List Status) (q : ℕ) (s : Status) → q < length ss → All P ss → P q s → All P (set ss q s)
all_set P ss q s h k x = all_but P ss q s h (λ p d. k p) x

-- ---- a step

abbrev Led : Answer → List Status → Type 0
Led (says q (record_at_lem c r)) ss = Above r.time q c ss
Led (says q (damage_at c r)) ss = Unit {0}
Led end ss = Unit {0}

record DoneOk (b : ℕ → Stream) (ss : List Status) (x : Answer) (ss' : List Status) : Type 0 where
  rise : Rise b ss'
  over : (t p a : ℕ) → Above t p a ss → After t p a x × Above t p a ss'
  led : Led x ss'

record AgainOk (b : ℕ → Stream) (ss ss' : List Status) : Type 0 where
  rise : Rise b ss'
  over : (t p a : ℕ) → Above t p a ss → Above t p a ss'

abbrev StepOk : (ℕ → Stream) → List Status → Step → Type 0
StepOk b ss (done x ss') = DoneOk b ss x ss'
StepOk b ss (again ss') = AgainOk b ss ss'

-- the key of a stream rises, its place stays
later : {t p a u q c : ℕ} (v : ℕ) → u ≤ v → Precedes t p a u q c → Precedes t p a v q c
later v h x = record { upto = upto_trans x.upto (record { times = h; numbers = λ k. le_refl _ }); places = x.places }

-- its place rises
further : {t p a u q c : ℕ} (l : ℕ) → Precedes t p a u q c → Precedes t p a u q (c + l)
further l x = record { upto = x.upto; places = λ e. omega (arith, x.places e) }

module _ (b : ℕ → Stream) (ss : List Status) (p : ℕ) (h : p < length ss) (ri : Rise b ss) where
  after_ok : (n a : ℕ) → get_or ss p gone ≡ waiting n a → (r : Read) → Fits (b p).size a r → own (b p) a ≡ own_on (own (b p)) a r
      → StepOk b ss (after_read ss p a r)
  unfolding after_read own_on
  after_ok n a e ended f o =
      record { rise = all_set (λ p s. Rises (b p) s) ss p gone h ri tt; over = λ t q c k. all_set (λ r s. Over t q c r s) ss p gone h k tt }
  after_ok n a e (damaged r) f o =
      record { rise = all_set (λ p s. Rises (b p) s) ss p gone h ri tt; over = λ t q c k. (tt, all_set (λ r s. Over t q c r s) ss p gone h k tt); led = tt }
  after_ok n a e (whole l κ ι u) f o =
      let r : Rises (b p) (waiting n a) = rw e at (ri p) in
      let x : Rising n (record_at_lem a (rec l κ ι u) ∷ own (b p) (a + l)) = rw o at r in
      record {
        rise = all_set (λ p s. Rises (b p) s) ss p (standing a (rec l κ ι u)) h ri (f.0, x.1);
        over = λ t q c k. all_set (λ r s. Over t q c r s) ss p (standing a (rec l κ ι u)) h k
            (let y : Over t q c p (waiting n a) = rw e at (k p) in later u x.0 y);
      }

  over_of : (u a r : ℕ) (s : Status) → ((v : ℕ) → key s ≡ some v → Upto u p v r) → r ≢ p → Over u p a r s
  unfolding key
  over_of u a r (waiting v c) k d = record { upto = k v refl; places = λ e. absurd (d e) }
  over_of u a r (standing c ρ) k d = record { upto = k ρ.time refl; places = λ e. absurd (d e) }
  over_of u a r gone k d = tt

  chosen_ok : (s : Status) → get_or ss p gone ≡ s → (t : ℕ) → IsFirst ss t p → StepOk b ss (chosen b ss p s)
  unfolding chosen key
  chosen_ok (waiting n a) e t f = after_ok n a e ((b p).read a) ((b p).fits a) (own_step (b p) a)
  chosen_ok (standing a ρ) e t f =
      let u : ℕ = ρ.time in
      let l : ℕ = ρ.size in
      let r : Rises (b p) (standing a ρ) = rw e at (ri p) in
      let k : key (get_or ss p gone) ≡ some u = ap key e in
      let same : t ≡ u = cc f.has in
      record {
        rise = all_set (λ p s. Rises (b p) s) ss p (waiting u (a + l)) h ri r.1;
        over = λ t q c k.
            let y : Precedes t q c u p a = (let z : Over t q c p (standing a ρ) = rw e at (k p) in z) in
            (y, all_set (λ r s. Over t q c r s) ss p (waiting u (a + l)) h k (further l y));
        led = all_but (λ r s. Over u p a r s) ss p (waiting u (a + l)) h
            (λ r d. over_of u a r (get_or ss r gone) (λ v x. rw same at (f.low r v x)) d)
            (record { upto = upto_refl u p; places = λ d. omega (arith, r.0) });
      }
  chosen_ok gone e t f = let d : none ≡ some t = sym (ap key e) ∙ f.has in let z : ◌≡◌ {A = ℕ} 0 1 = cc in absurd (omega arith)

idle : (b : ℕ → Stream) (ss : List Status) → Rise b ss → DoneOk b ss end ss
idle b ss ri = record { rise = ri; over = λ t p a k. (tt, k); led = tt }

step_ok : (b : ℕ → Stream) (ss : List Status) → Rise b ss → StepOk b ss (step b ss)
step_ok b ss ri =
    step_by b ss (StepOk b ss) (λ k. idle b ss ri) (λ t p h k. chosen_ok b ss p h ri (get_or ss p gone) refl t k)

-- ---- a call

abbrev TurnOk : (ℕ → Stream) → List Status → Turn → Type 0
TurnOk b ss (turn x ss') = DoneOk b ss x ss'

later_ok : (b : ℕ → Stream) (ss ss' : List Status) → AgainOk b ss ss' → (r : Turn) → TurnOk b ss' r → TurnOk b ss r
later_ok b ss ss' k (turn x ss'') h = record { rise = h.rise; over = λ t p a o. h.over t p a (k.over t p a o); led = h.led }

leads_on : (b : ℕ → Stream) (f : ℕ) (ss : List Status) (r : Step) → StepOk b ss r → LeadsOn (λ f ss. Rise b ss) (TurnOk b) f ss r
leads_on b f ss (done x ss') k = k
leads_on b f ss (again ss') k = (k.rise, later_ok b ss ss' k)

next_ok : (b : ℕ → Stream) (ss : List Status) → Rise b ss → TurnOk b ss (next b ss)
unfolding next
next_ok b ss h =
    next_f_by b (λ f ss. Rise b ss) (TurnOk b) (λ ss h. idle b ss h) (λ f ss h. leads_on b f ss (step b ss) (step_ok b ss h)) (suc (length ss)) ss h

-- ---- a run

all_after : (f : ℕ) (b : ℕ → Stream) (ss : List Status) → Rise b ss → (t p a : ℕ) → Above t p a ss → AllAfter t p a (run_f f b ss)
unfolding run_f up_to answer rest
all_after zero b ss ri t p a o = tt
all_after (suc f) b ss ri t p a o = go (next b ss) (next_ok b ss ri) (λ ss' r k. all_after f b ss' r t p a k)
  where
    go : (r : Turn) → TurnOk b ss r → ((ss' : List Status) → Rise b ss' → Above t p a ss' → AllAfter t p a (run_f f b ss'))
        → AllAfter t p a (up_to (answer r) (run_f f b (rest r)))
    go (turn (says q y) ss') k ih = ((k.over t p a o).0, ih ss' k.rise (k.over t p a o).1)
    go (turn end ss') k ih = (tt, tt)

-- THE THEOREM: the records come out in order
pub sorted : (f : ℕ) (b : ℕ → Stream) (ss : List Status) → Rise b ss → Sorted (run_f f b ss)
unfolding run_f up_to answer rest
sorted zero b ss ri = tt
sorted (suc f) b ss ri = go (next b ss) (next_ok b ss ri) (λ ss' r. sorted f b ss' r)
  where
    go : (r : Turn) → TurnOk b ss r → ((ss' : List Status) → Rise b ss' → Sorted (run_f f b ss')) → Sorted (up_to (answer r) (run_f f b (rest r)))
    go (turn (says q (record_at_lem c r)) ss') k ih = (all_after f b ss' k.rise r.time q c k.led, ih ss' k.rise)
    go (turn (says q (damage_at c r)) ss') k ih = (tt, ih ss' k.rise)
    go (turn end ss') k ih = (tt, tt)
