-- Each way through the tests is one law. Assumes nothing.
use Rattle.std.proofs.Common.{◌∙◌, ap, sym}
use borrow.Author.Tests.{eq-eqb, ne_eqb}
use Prim.Native.Nat.{ℕ}
use Rattle.map_rules.specs.Table.{Row}
use Rattle.map_explain.specs.ExplainLaws.{own_out, own_in}
use Rattle.map_explain.proofs.explain.own.Goals as goal

pub returns-then-used-place : goal.returns-then-used-place
returns-then-used-place c = own_out _ _ _ _ c.if-used-place.true

pub returns-then-x-instrument : goal.returns-then-x-instrument
returns-then-x-instrument c =
    let e = c.interval_at-x.ensures in
    (own_in _ _ _ _ c.if-used-place.false (eq-eqb _ _ (sym (ap (λ (x : Row ℕ). x.instrument) e) ∙ c.if-x-instrument.true)), e)

pub returns-else-x-instrument : goal.returns-else-x-instrument
returns-else-x-instrument c =
    let e = c.interval_at-x.ensures in
    own_in _ _ _ _ c.if-used-place.false (ne_eqb _ _ (λ z. c.if-x-instrument.false (ap (λ (x : Row ℕ). x.instrument) e ∙ z)))
