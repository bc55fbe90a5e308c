-- Nothing is lost: of a run's answers, those that concern a stream are what the stream says by itself.
-- Assumes nothing.
use Rattle.std.proofs.Math.Path.{◌≡◌, refl, sym, ap}
use Rattle.std.proofs.Common.{◌∙◌, arith, get_or-set_other}
use Rattle.std.specs.Prelude.{◌≢◌, ℕ, zero, suc, ◌+◌, ◌<◌, List, ◌∷◌, get_or, set, eqb}
use Rattle.std.proofs.Math.Decide.{ℕ_discrete}
use Rattle.std.proofs.Math.Option.{none, some}
use Rattle.std.proofs.Math.ListN.{length, length-set}
use Rattle.std.proofs.Math.Seq.{get_or-set_same}
use Rattle.std.proofs.Math.Facts.{eqb_yes, eqb_no}
use Rattle.theory.specs.RunsTools.{cond_case}
use Rattle.leaves.specs.Frame.{Read, whole, ended, damaged}
use Rattle.records_rules.specs.Machine.{rec, Stream, Said, record_at_lem, damage_at, own_on, own}
use Rattle.records_rules.specs.Machine.{Status, waiting, standing, gone, key}
use Rattle.records_rules.specs.Machine.{says, end, Step, done, again, after_read, chosen, step, Turn, turn, next, answer, rest, up_to, run_f, tell, mine}
use Rattle.records_rules.specs.Kept.{own_step, left_of, left, total, unread, waits, sum_set, waits_le, size, DoneOk, AgainOk, StepOk, step_by, LeadsOn, next_f_by, TurnOk, closed_left}

-- ---- one status changes

module _ (b : ℕ → Stream) (ss : List Status) (q : ℕ) (s : Status) (h : q < length ss) where
  keep_same : left_of (b q) (get_or ss q gone) ≡ left_of (b q) s → (p : ℕ) → left b p (set ss q s) ≡ left b p ss
  unfolding left
  keep_same e p = go (ℕ_discrete p q)
    where
      go : Dec (p ≡ q) → left_of (b p) (get_or (set ss q s) p gone) ≡ left_of (b p) (get_or ss p gone)
      go (yes d) = rw (d, get_or-set_same ss q s gone h) (sym e)
      go (no d) = rw (get_or-set_other ss q p s gone d)

  keep_told : (y : Said) → left_of (b q) (get_or ss q gone) ≡ y ∷ left_of (b q) s → (p : ℕ) → tell p (says q y) (left b p (set ss q s)) ≡ left b p ss
  unfolding left tell
  keep_told y e p = cond_case (λ ys. ys ≡ left_of (b p) (get_or ss p gone)) (eqb q p) _ _ (λ t. hit (eqb_yes t)) (λ t. miss (eqb_no t))
    where
      hit : q ≡ p → y ∷ left_of (b p) (get_or (set ss q s) p gone) ≡ left_of (b p) (get_or ss p gone)
      hit d = rw (← d, get_or-set_same ss q s gone h) (sym e)

      miss : q ≢ p → left_of (b p) (get_or (set ss q s) p gone) ≡ left_of (b p) (get_or ss p gone)
      miss d = rw (get_or-set_other ss q p s gone (λ k. d (sym k)))

-- ---- a step, a call, a run

module _ (b : ℕ → Stream) (ss : List Status) (p : ℕ) (h : p < length ss) where
  again_ok : (n a : ℕ) (s : Status) → get_or ss p gone ≡ waiting n a → unread s ≡ 0
      → left_of (b p) (get_or ss p gone) ≡ left_of (b p) s → AgainOk b ss (set ss p s)
  unfolding total waits unread
  again_ok n a s e u d =
      record {
        kept = keep_same b ss p s h d;
        less = omega (arith, sum_set (λ p s. length (left_of (b p) s)) ss p s h, ap length d);
        long = length-set ss p s;
        read = omega (arith, sum_set (λ p s. unread s) ss p s h, ap unread e);
      }

  done_ok : (y : Said) (s : Status) → left_of (b p) (get_or ss p gone) ≡ y ∷ left_of (b p) s → DoneOk b ss (says p y) (set ss p s)
  unfolding total size
  done_ok y s d =
      record {
        kept = keep_told b ss p s h y d;
        less = omega (arith, sum_set (λ p s. length (left_of (b p) s)) ss p s h, ap length d);
        long = length-set ss p s;
      }

  after_ok : (n a : ℕ) → get_or ss p gone ≡ waiting n a → (r : Read) → own (b p) a ≡ own_on (own (b p)) a r → StepOk b ss (after_read ss p a r)
  unfolding after_read left_of own_on unread
  after_ok n a e ended o = again_ok n a gone e refl (ap (left_of (b p)) e ∙ o)
  after_ok n a e (damaged r) o = (done_ok (damage_at a r) gone (ap (left_of (b p)) e ∙ o), tt)
  after_ok n a e (whole l κ ι t) o = again_ok n a (standing a (rec l κ ι t)) e refl (ap (left_of (b p)) e ∙ o)

  chosen_ok : (s : Status) → get_or ss p gone ≡ s → (t : ℕ) → key (get_or ss p gone) ≡ some t → StepOk b ss (chosen b ss p s)
  unfolding chosen left_of key
  chosen_ok (waiting n a) e t k = after_ok n a e ((b p).read a) (own_step (b p) a)
  chosen_ok (standing a r) e t k = (done_ok (record_at_lem a r) (waiting r.time (a + r.size)) (ap (left_of (b p)) e), tt)
  chosen_ok gone e t k = let d : none ≡ some t = sym (ap key e) ∙ k in let z : ◌≡◌ {A = ℕ} 0 1 = cc in absurd (omega arith)

-- nothing happened
idle : (b : ℕ → Stream) (ss : List Status) → DoneOk b ss end ss
unfolding tell size
idle b ss = record { kept = λ p. refl; less = omega arith; long = refl }

pub step_ok : (b : ℕ → Stream) (ss : List Status) → StepOk b ss (step b ss)
step_ok b ss =
    step_by b ss (StepOk b ss) (λ k. (idle b ss, k)) (λ t p h k. chosen_ok b ss p h (get_or ss p gone) refl t k.has)

later : (b : ℕ → Stream) (ss ss' : List Status) → AgainOk b ss ss' → (r : Turn) → TurnOk b ss' r → TurnOk b ss r
later b ss ss' k (turn x ss'') (h, c) =
    (record { kept = λ p. h.kept p ∙ k.kept p; less = h.less ∙ k.less; long = h.long ∙ k.long }, c)

leads_on : (b : ℕ → Stream) (f : ℕ) (ss : List Status) → waits ss < suc f → (r : Step) → StepOk b ss r → LeadsOn (λ f ss. waits ss < f) (TurnOk b) f ss r
leads_on b f ss h (done x ss') k = k
leads_on b f ss h (again ss') k = (omega (arith, k.read), later b ss ss' k)

pub next_ok : (b : ℕ → Stream) (ss : List Status) → TurnOk b ss (next b ss)
unfolding next
next_ok b ss =
    next_f_by b (λ f ss. waits ss < f) (TurnOk b) (λ ss h. absurd (omega arith)) (λ f ss h. leads_on b f ss h (step b ss) (step_ok b ss))
    (suc (length ss)) ss (omega (arith, waits_le ss))

-- THE THEOREM: of the answers up to the first End, those that concern the stream p are what was to come of it, in order.
pub nothing_lost : (f : ℕ) (b : ℕ → Stream) (ss : List Status) → total b ss < f → (p : ℕ) → mine p (run_f f b ss) ≡ left b p ss
unfolding run_f up_to mine tell answer rest size left
nothing_lost zero b ss h p = absurd (omega arith)
nothing_lost (suc f) b ss h p = go (next b ss) (next_ok b ss) (λ ss' k. nothing_lost f b ss' k p)
  where
    go : (r : Turn) → TurnOk b ss r → ((ss' : List Status) → total b ss' < f → mine p (run_f f b ss') ≡ left b p ss')
        → mine p (up_to (answer r) (run_f f b (rest r))) ≡ left b p ss
    go (turn (says q y) ss') (k, c) ih = ap (tell p (says q y)) (ih ss' (omega (arith, k.less))) ∙ k.kept p
    go (turn end ss') (k, c) ih = sym (closed_left b p (get_or ss' p gone) (c p)) ∙ k.kept p
