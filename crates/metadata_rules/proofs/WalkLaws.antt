-- How two heads ordering, one rule for each way the code's tests can go. Assumes nothing.
use Rattle.std.specs.Prelude.{◌≡◌, refl, ℕ, ◌≤◌, ◌<◌, Bool, true, false, not, ◌&&◌, T, eqb}
use Rattle.std.proofs.Common.{arith, eq-eqb}
use Rattle.std.proofs.Math.Facts.{eqb_yes}
use Rattle.metadata_rules.specs.declared.Interval.{Interval}
use Rattle.metadata_rules.specs.declared.IntervalOrdering.{IntervalOrdering}
use Rattle.metadata_rules.specs.declared.IntervalOrdering.TheVariants.{Equal, Less, Greater, Overlap}
use Rattle.metadata_rules.specs.Walk.{same_dates, ordering}
use Rattle.theory.specs.RunsTools.{cond_case, T_fst, T_snd}
use Rattle.metadata_rules.specs.Cases.{leb_case}

abbrev pub Apart : Interval → Interval → Type 0
Apart a b = a.start ≡ b.start → a.end ≡ b.end → ⊥

nand : (p q : Bool) → T (not (p && q)) → p ≡ true → q ≡ true → ⊥
nand true true t e f = t
nand true false t e f = let z : ◌≡◌ {A = ℕ} 0 1 = cc in omega arith
nand false q t e f = let z : ◌≡◌ {A = ℕ} 0 1 = cc in omega arith

ordering_cases : (P : IntervalOrdering → Type 0) (a b : Interval) → (a.start ≡ b.start → a.end ≡ b.end → P Equal)
    → (Apart a b → a.end ≤ b.start → P Less) → (Apart a b → b.start < a.end → b.end ≤ a.start → P Greater)
    → (Apart a b → b.start < a.end → a.start < b.end → P Overlap) → P (ordering a b)
unfolding ordering same_dates
ordering_cases P a b f g h k =
    cond_case P (same_dates a b) _ _
    (λ t. f (eqb_yes (T_fst (eqb a.start b.start) (eqb a.end b.end) t)) (eqb_yes (T_snd (eqb a.start b.start) (eqb a.end b.end) t)))
    (λ t. leb_case P a.end b.start _ _ (g (apart t)) (λ i. leb_case P b.end a.start _ _ (h (apart t) i) (k (apart t) i)))
  where
    apart : T (not (eqb a.start b.start && eqb a.end b.end)) → Apart a b
    apart t e f = nand _ _ t (eq-eqb a.start b.start e) (eq-eqb a.end b.end f)

module _ (a b : Interval) where
  pub ordering_equal : a.start ≡ b.start → a.end ≡ b.end → ordering a b ≡ Equal
  ordering_equal e f = ordering_cases (λ (o : IntervalOrdering). o ≡ Equal) a b (λ p q. refl) (λ d p. absurd (d e f)) (λ d p q. absurd (d e f)) (λ d p q. absurd (d e f))

  pub ordering_less : Apart a b → a.end ≤ b.start → ordering a b ≡ Less
  ordering_less d h = ordering_cases (λ (o : IntervalOrdering). o ≡ Less) a b (λ p q. absurd (d p q)) (λ p q. refl) (λ n p q. absurd (omega arith)) (λ n p q. absurd (omega arith))

  pub ordering_greater : Apart a b → b.start < a.end → b.end ≤ a.start → ordering a b ≡ Greater
  ordering_greater d h k = ordering_cases (λ (o : IntervalOrdering). o ≡ Greater) a b (λ p q. absurd (d p q)) (λ n p. absurd (omega arith)) (λ n p q. refl) (λ n p q. absurd (omega arith))

  pub ordering_overlap : Apart a b → b.start < a.end → a.start < b.end → ordering a b ≡ Overlap
  ordering_overlap d h k = ordering_cases (λ (o : IntervalOrdering). o ≡ Overlap) a b (λ p q. absurd (d p q)) (λ n p. absurd (omega arith)) (λ n p q. absurd (omega arith)) (λ n p q. refl)
