-- The tests of the definition, one after the other; cuts that are sorted never fall. Assumes nothing.
use mathlib.Core.Path.{◌≡◌, refl, sym, ◌∙◌}
use mathlib.Core.Bool.{Bool, true, false, ◌||◌}
use mathlib.Core.List.{List}
use Prim.Native.Nat.{ℕ, zero, suc, ◌-◌, ◌+◌, ◌<◌, ◌≤◌}
use native.Mathlib.Omega.{arith}
use lib.Dec.{eqb}
use lib.ListN.{length, get_or}
use borrow.Author.Tests.{lt-leb, le-leb, eq-eqb, ne_eqb}
use Rattle.std.specs.Bool.{MatchBool}
use Rattle.std.specs.List.Sorted.{IsNonDecreasing}
use Rattle.std.proofs.lemmas.List.Sorted.{non_decreasing_from_is_sorted}
use Rattle.records_rules.specs.State.{right_streams, rise_to}
use Rattle.records_rules.specs.Opening.{falls}
use Rattle.records_state.proofs.opening.streams_right.Goals.{then-cuts-gt-MOST_CUTS-via-then-cuts-gt-MOST_CUTS, then-cuts-gt-MOST_CUTS-via-else-cuts-gt-MOST_CUTS+then-first-ne0, then-cuts-gt-MOST_CUTS-via-else-cuts-gt-MOST_CUTS+else-first-ne0+then-last-size, then-hints-eq0, else-hints-eq0}
use Rattle.records_state.proofs.opening.streams_right.Goals as goal

rises : (i : ℕ) (cuts : List ℕ) → i < length cuts → IsNonDecreasing cuts → rise_to i cuts ≡ true
unfolding rise_to
rises zero cuts h m = refl
rises (suc i) cuts h m = simp (le-leb _ _ (m i (i + 1) 0 (omega arith) (omega arith))) (rises i cuts (omega arith) m)

sorted_rises : (cuts : List ℕ) (r : Bool) → 2 ≤ length cuts
    → MatchBool r (IsNonDecreasing cuts) ((k : ℕ) × (k + 1 < length cuts) × ((d : ℕ) → get_or cuts (k + 1) d < get_or cuts k d))
    → r ≡ rise_to (length cuts - 1) cuts
sorted_rises cuts true h m = sym (rises (length cuts - 1) cuts (omega arith) m)
sorted_rises cuts false h (k, l, m) = sym (falls (length cuts - 1) k cuts (omega arith) (m 0))

pub returns-in_default : goal.returns-in_default
unfolding right_streams
returns-in_default c = simp (lt-leb 2 (length c.args.cuts.now) c.in_default.len_below)

pub returns-then-cuts-gt-MOST_CUTS : goal.returns-then-cuts-gt-MOST_CUTS
unfolding right_streams
returns-then-cuts-gt-MOST_CUTS c =
    let cuts = c.args.cuts.now in
    let two = le-leb 2 (length cuts) c.in-len2-up.len_at_least in
    elim c.then-cuts-gt-MOST_CUTS.branch [
      | then-cuts-gt-MOST_CUTS-via-then-cuts-gt-MOST_CUTS w ↦ simp (two, lt-leb _ _ w.if-cuts-gt-MOST_CUTS.true)
      | then-cuts-gt-MOST_CUTS-via-else-cuts-gt-MOST_CUTS+then-first-ne0 w ↦
          simp (two, le-leb _ _ w.if-cuts-gt-MOST_CUTS.false, ne_eqb _ _ w.if-first-ne0.true)
      | then-cuts-gt-MOST_CUTS-via-else-cuts-gt-MOST_CUTS+else-first-ne0+then-last-size w ↦
          simp (two, le-leb _ _ w.if-cuts-gt-MOST_CUTS.false, eq-eqb _ _ w.if-first-ne0.false, ne_eqb _ _ w.if-last-size.true)
    ]

pub returns-then-hints-cuts : goal.returns-then-hints-cuts
unfolding right_streams
returns-then-hints-cuts c =
    let cuts = c.args.cuts.now in
    let hints = c.args.hints in
    let given : (eqb hints 0 || eqb hints (length cuts - 1)) ≡ true =
    elim c.if-hints-eq0.branch [
      | then-hints-eq0 w ↦ simp (eq-eqb hints 0 w.if-hints-eq0.true)
      | else-hints-eq0 w ↦ simp (ne_eqb hints 0 w.if-hints-eq0.false) (sym w.value-is ∙ c.if-hints-cuts.true)
    ] in
    simp (
      le-leb 2 (length cuts) c.in-len2-up.len_at_least,
      le-leb _ _ c.if-cuts-gt-MOST_CUTS.false,
      eq-eqb _ _ c.if-first-ne0.false,
      eq-eqb _ _ c.if-last-size.false,
      given,
    ) (sorted_rises cuts c.is_sorted.result c.in-len2-up.len_at_least (non_decreasing_from_is_sorted cuts _ c.is_sorted.ensures.cases))

pub returns-else-hints-cuts : goal.returns-else-hints-cuts
unfolding right_streams
returns-else-hints-cuts c =
    let cuts = c.args.cuts.now in
    let hints = c.args.hints in
    let given : c.if-hints-eq0.value ≡ (eqb hints 0 || eqb hints (length cuts - 1)) =
    elim c.if-hints-eq0.branch [
      | then-hints-eq0 w ↦ w.value-is ∙ simp (eq-eqb hints 0 w.if-hints-eq0.true)
      | else-hints-eq0 w ↦ w.value-is ∙ simp (ne_eqb hints 0 w.if-hints-eq0.false)
    ] in
    c.if-hints-cuts.false ∙ simp (
      le-leb 2 (length cuts) c.in-len2-up.len_at_least,
      le-leb _ _ c.if-cuts-gt-MOST_CUTS.false,
      eq-eqb _ _ c.if-first-ne0.false,
      eq-eqb _ _ c.if-last-size.false,
      sym given ∙ c.if-hints-cuts.false,
    )
