-- Each way through the tests is one law. Assumes nothing.
use borrow.Author.Tests.{not-false}
use Rattle.map_compare.specs.CompareLaws.{lends, formed_order, tables_unfit, tables_ill, tables_fine}
use Rattle.map_compare_walk.specs.StretchesLaws.{ordered_test}
use Rattle.map_compare.proofs.compare.Lent.check.Goals as goal

pub returns-then-not-fits-clause-answer : goal.returns-then-not-fits-clause-answer
returns-then-not-fits-clause-answer c = tables_unfit _ _ _ _ _ _ c.fits.ensures c.if-not-fits.true-raw

pub is_formed-requires : goal.is_formed-requires
is_formed-requires c =
    let w = lends _ _ _ _ _ _ c.fits.ensures c.if-not-fits.false-raw in (w.left_fits, w.right_fits)

pub returns-then-not-is_formed-clause-answer : goal.returns-then-not-is_formed-clause-answer
returns-then-not-is_formed-clause-answer c =
    tables_ill _ _ _ _ _ _ c.fits.ensures c.if-not-fits.false-raw c.is_formed.ensures c.if-not-is_formed.true-raw

pub invariant_of-result : goal.invariant_of-result
invariant_of-result c =
    let l = lends _ _ _ _ _ _ c.fits.ensures c.if-not-fits.false-raw in
    let w = formed_order _ _ _ _ _ l c.is_formed.ensures (not-false _ c.if-not-is_formed.false-raw) in
    record {
      left_fits = w.left_fits;
      right_fits = w.right_fits;
      left_few = w.left_few;
      right_few = w.right_few;
      left_order = ordered_test _ _ w.left_order;
      right_order = ordered_test _ _ w.right_order;
    }

pub returns-clause-answer : goal.returns-clause-answer
returns-clause-answer c =
    tables_fine _ _ _ _ _ _ c.fits.ensures c.if-not-fits.false-raw c.is_formed.ensures c.if-not-is_formed.false-raw
