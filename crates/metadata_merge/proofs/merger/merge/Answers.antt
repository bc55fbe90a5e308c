-- `merger::merge` meets its contract: 15, 6, or the merge of two that agree. Assumes nothing.
use mathlib.Core.Path.{sym, ap, ◌∙◌}
use Rattle.metadata_form.specs.Header.{lent, lent_mut, field_at}
use Rattle.metadata_merge.specs.Merger.{both_tested, merge_unfit, merge_differs}
use Rattle.metadata_merge.proofs.merger.merge.Goals as goal

pub returns-then-not-both_fit-clause-merges : goal.returns-then-not-both_fit-clause-merges
returns-then-not-both_fit-clause-merges c =
    let a = c.args in
    let l = lent_mut a.lists.now in
    merge_unfit a.names a.header l a.added (lent a.added_lists)
    (both_tested a.names a.header l a.added (lent a.added_lists) c.both_fit.ensures c.shared.ensures c.if-not-both_fit.true)

pub returns-in-Some-clause-merges : goal.returns-in-Some-clause-merges
returns-in-Some-clause-merges c =
    let a = c.args in
    let l = lent_mut a.lists.now in
    merge_differs a.names a.header l a.added (lent a.added_lists)
    (both_tested a.names a.header l a.added (lent a.added_lists) c.both_fit.ensures c.shared.ensures c.if-not-both_fit.false)
    _ (ap field_at (sym c.in-Some.is) ∙ c.differs.ensures)
