-- `merger::merge_agreed` meets its contract: the verdict on the outcome, and the outcome laid over the lent lists. Assumes nothing.
use mathlib.Core.Path.{refl}
use Prim.Native.Nat.{ℕ}
use lib.ListN.{length-replicate}
use Rattle.std.proofs.lemmas.Result.{err_from_is_err_and}
use Rattle.metadata_form.specs.Header.{lent, lent_mut}
use Rattle.metadata_merge.specs.Merger.{plannable, outcomes_read, both_plannable, merge_refuses, merge_commit, merge_done}
use Rattle.metadata_merge.proofs.merger.merge_agreed.Goals as goal

pub outcome-requires : goal.outcome-requires
outcome-requires c =
    let a = c.args in
    plannable a.names a.header a.added (lent a.added_lists) c.shared.ensures
    (both_plannable a.names a.header (lent_mut a.lists.now) a.added (lent a.added_lists) c.requires _
    (length-replicate {A = ℕ} 8192 0) (length-replicate {A = ℕ} 8192 0) (length-replicate {A = ℕ} 8192 0)
    (length-replicate {A = ℕ} 16384 0) (length-replicate {A = ℕ} 393216 0))

pub returns-in_err-counts-clause-merges : goal.returns-in_err-counts-clause-merges
returns-in_err-counts-clause-merges c =
    let a = c.args in
    let p = err_from_is_err_and c.from_residual.result c.from_residual.ensures.1 in
    rw (p.1, p.2)
    (merge_refuses a.names a.header (lent_mut a.lists.now) a.added (lent a.added_lists) c.requires _ _
    (outcomes_read a.names a.header a.added (lent a.added_lists) _ c.shared.ensures refl c.outcome.ensures.outcomes) _ c.in_err-counts.was)

pub commit-requires : goal.commit-requires
commit-requires c =
    let a = c.args in
    merge_commit a.names a.header (lent_mut a.lists.now) a.added (lent a.added_lists) c.requires _ _
    (outcomes_read a.names a.header a.added (lent a.added_lists) _ c.shared.ensures c.shared-2.ensures c.outcome.ensures.outcomes) _ c.in_ok-counts.was

pub returns-clause-merges : goal.returns-clause-merges
returns-clause-merges c =
    let a = c.args in
    merge_done a.names a.header (lent_mut a.lists.now) a.added (lent a.added_lists) c.requires _ _
    (outcomes_read a.names a.header a.added (lent a.added_lists) _ c.shared.ensures c.shared-2.ensures c.outcome.ensures.outcomes) _ c.in_ok-counts.was
    _ c.commit.ensures.holds _ c.merged_header.ensures
