-- The machine's rules with no count and no scan in them: what code cites, one for each way a turn of its loop can go.
-- `IsFirst ss t p` is what a heap's root gives (`root_first`). Assumes nothing.
use Rattle.std.specs.Prelude.{◌≡◌, ℕ, suc, ◌+◌, List, length, get_or, set}
use Rattle.std.proofs.Math.Path.{ap}
use Rattle.std.proofs.Common.{◌∙◌, arith}
use Rattle.std.proofs.Math.Option.{none}
use Rattle.leaves.specs.Frame.{Read, whole, ended, damaged}
use Rattle.records_rules.specs.Machine.{Rec, rec, Stream, record_at_lem, damage_at}
use Rattle.records_rules.specs.Machine.{Status, waiting, standing, gone, key}
use Rattle.records_rules.specs.Machine.{Answer, says, end, done, again, after_read, chosen, step_at, step, turn, onward, next_f, next}
use Rattle.records_rules.specs.Least.{IsFirst, least_is, least_none}
use Rattle.records_rules.specs.Kept.{waits_le, AgainOk, StepOk}
use Rattle.records_rules.proofs.Kept.{step_ok}
use Rattle.records_rules.proofs.Literal.{next_same}

module _ (b : ℕ → Stream) (ss : List Status) where
  pub next_done : (x : Answer) (ss' : List Status) → step b ss ≡ done x ss' → next b ss ≡ turn x ss'
  unfolding next next_f onward
  next_done x ss' e = ap (onward (λ r. next_f (length ss) b r)) e

  pub next_again : (ss' : List Status) → step b ss ≡ again ss' → next b ss ≡ next b ss'
  unfolding next next_f onward
  next_again ss' e =
      let k : AgainOk b ss ss' = (let z : StepOk b ss (again ss') = rw e at (step_ok b ss) in z) in
      ap (onward (λ r. next_f (length ss) b r)) e
      ∙ next_same (length ss) (suc (length ss')) b ss' (omega (arith, k.read, waits_le ss)) (omega (arith, waits_le ss'))

  -- nobody is left
  pub rule_end : ((q : ℕ) → key (get_or ss q gone) ≡ none) → next b ss ≡ turn end ss
  unfolding step step_at
  rule_end h = next_done end ss (ap (step_at b ss) (least_none ss h))

  module _ (t p : ℕ) (f : IsFirst ss t p) where
    -- the first stands at a record
    pub rule_record : (a : ℕ) (r : Rec) → get_or ss p gone ≡ standing a r → next b ss ≡ turn (says p (record_at_lem a r)) (set ss p (waiting r.time (a + r.size)))
    unfolding step step_at chosen
    rule_record a r e = next_done _ _ (ap (step_at b ss) (least_is ss t p f) ∙ ap (chosen b ss p) e)

    -- it waits, and is read
    reading : (h a : ℕ) → get_or ss p gone ≡ waiting h a → (r : Read) → (b p).read a ≡ r → step b ss ≡ after_read ss p a r
    unfolding step step_at chosen
    reading h a e r d = ap (step_at b ss) (least_is ss t p f) ∙ ap (chosen b ss p) e ∙ ap (after_read ss p a) d

    pub rule_ended : (h a : ℕ) → get_or ss p gone ≡ waiting h a → (b p).read a ≡ ended → next b ss ≡ next b (set ss p gone)
    unfolding after_read
    rule_ended h a e d = next_again (set ss p gone) (reading h a e ended d)

    pub rule_damaged : (h a r : ℕ) → get_or ss p gone ≡ waiting h a → (b p).read a ≡ damaged r → next b ss ≡ turn (says p (damage_at a r)) (set ss p gone)
    unfolding after_read
    rule_damaged h a r e d = next_done _ _ (reading h a e (damaged r) d)

    pub rule_whole : (h a l κ ι u : ℕ) → get_or ss p gone ≡ waiting h a → (b p).read a ≡ whole l κ ι u → next b ss ≡ next b (set ss p (standing a (rec l κ ι u)))
    unfolding after_read
    rule_whole h a l κ ι u e d = next_again (set ss p (standing a (rec l κ ι u))) (reading h a e (whole l κ ι u) d)
