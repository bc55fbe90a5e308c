-- The tests one after the other; then the bytes are laid, and the span is told anew. Assumes nothing.
use mathlib.Core.Path.{◌≡◌, sym, ◌∙◌}
use mathlib.Core.Bool.{true, true≢false}
use lib.ListN.{get_or}
use native.Mathlib.Omega.{arith}
use Rattle.feed_rules.specs.Adding.{portion_fits}
use Rattle.feed_rules.proofs.AddingLaws.{shut_no, slot, add_shut, add_done}
use Rattle.feed_window.proofs.SpanNumber.{number_of_parts, number_of_front}
use Rattle.feed_window.proofs.portions.add.Goals as goal

pub returns-then-is_shut : goal.returns-then-is_shut
returns-then-is_shut c =
    let a = c.args in
    let yes : portion_fits _ _ _ _ _ ≡ true = sym c.portions_fit.ensures.value ∙ c.if-not-portions_fit.false in
    record {
      refused = λ e. absurd (true≢false (sym yes ∙ e));
      says = λ e n held ts hp hn ok. add_shut a.window.now hn ok a.stream a.portion.now (sym c.is_shut.ensures.value ∙ c.if-is_shut.true);
    }

pub returns-then-from-gt-WINDOW : goal.returns-then-from-gt-WINDOW
returns-then-from-gt-WINDOW c =
    let a = c.args in
    let yes : portion_fits _ _ _ _ _ ≡ true = sym c.portions_fit.ensures.value ∙ c.if-not-portions_fit.false in
    let far = rw (c.from.ensures, c.from-2.ensures, c.from-span.ensures) at c.if-from-gt-WINDOW.true in
    record {
      refused = λ e. absurd (true≢false (sym yes ∙ e));
      says = λ e n held ts hp hn ok.
          let o = shut_no a.window.now hn ok a.stream a.portion.now (sym c.is_shut.ensures.value ∙ c.if-is_shut.false) in
          absurd (omega (arith, far, (slot a.window.now hn ok a.stream a.portion.now o.0 o.1 o.2).short));
    }

pub returns : goal.returns
returns c =
    let a = c.args in
    let yes : portion_fits _ _ _ _ _ ≡ true = sym c.portions_fit.ensures.value ∙ c.if-not-portions_fit.false in
    let full = c.portions_fit.ensures.full c.if-not-portions_fit.false in
    let taken = rw (c.from-span.ensures, number_of_parts (get_or a.spans.now a.stream 0)) at c.room_for-taken.ensures.value in
    let told = rw (c.from-span.ensures, number_of_front _) at c.from-3.ensures in
    let laid = rw (c.from-start.ensures, c.from-fill.ensures, c.from-span.ensures) at c.lay.ensures in
    record {
      refused = λ e. absurd (true≢false (sym yes ∙ e));
      says = λ e n held ts hp hn ok.
          let o = shut_no a.window.now hn ok a.stream a.portion.now (sym c.is_shut.ensures.value ∙ c.if-is_shut.false) in
          rw (laid, told, taken) (add_done a.window.now hn ok a.stream a.portion.now o.0 o.1 o.2 full.4 (omega (arith, full)));
    }
