-- The tests one after the other, then the mark of the end. Assumes nothing.
use mathlib.Core.Path.{◌≡◌, sym, ◌∙◌}
use mathlib.Core.Bool.{true, true≢false}
use mathlib.Core.List.{[]}
use native.Mathlib.Omega.{arith}
use Rattle.feed_rules.specs.Adding.{word_fits}
use Rattle.feed_rules.proofs.AddingLaws.{shut_no, end_shut, end_done}
use Rattle.feed_window.proofs.SpanNumber.{number_of_end}
use Rattle.feed_window.proofs.portions.end.Goals as goal

pub returns-then-is_shut : goal.returns-then-is_shut
returns-then-is_shut c =
    let yes : word_fits _ _ ≡ true = sym c.words_fit.ensures.value ∙ c.if-not-words_fit.false in
    record {
      refused = λ e. absurd (true≢false (sym yes ∙ e));
      says = λ e n held window ts cs hs hp hn ok. end_shut window hn ok c.args.stream (sym c.is_shut.ensures.value ∙ c.if-is_shut.true);
    }

pub returns : goal.returns
returns c =
    let yes : word_fits _ _ ≡ true = sym c.words_fit.ensures.value ∙ c.if-not-words_fit.false in
    let told = rw c.from-span.ensures at c.from.ensures in
    record {
      refused = λ e. absurd (true≢false (sym yes ∙ e));
      says = λ e n held window ts cs hs hp hn ok.
          let o = shut_no window hn ok c.args.stream [] (sym c.is_shut.ensures.value ∙ c.if-is_shut.false) in
          rw (told, number_of_end _ o.2) (end_done window hn ok c.args.stream o.0 o.1 o.2 (omega (arith, c.words_fit.ensures.full c.if-not-words_fit.false)));
    }
