-- `opening::open` meets its contract: 15, or the metadata without its repeats laid over the lent lists. Assumes nothing.
use mathlib.Core.Path.{sym}
use Prim.Native.Nat.{ℕ}
use lib.ListN.{length-replicate}
use Rattle.metadata_form.specs.Header.{lent_mut}
use Rattle.metadata_open.specs.Opening.{openable, tested, stood, open_unfit, open_fitting, open_commit, open_done}
use Rattle.metadata_open.proofs.opening.open.Goals as goal

pub returns-then-not-metadata_fits-clause-opens : goal.returns-then-not-metadata_fits-clause-opens
returns-then-not-metadata_fits-clause-opens c =
    let a = c.args in
    open_unfit a.header (lent_mut a.lists.now) (tested a.header (lent_mut a.lists.now) c.metadata_fits.ensures c.shared.ensures c.if-not-metadata_fits.true)

pub without_repeats-counts-requires : goal.without_repeats-counts-requires
without_repeats-counts-requires c =
    let a = c.args in
    let l = lent_mut a.lists.now in
    openable a.header c.shared-2.ensures
    (open_fitting a.header l (tested a.header l c.metadata_fits.ensures c.shared.ensures c.if-not-metadata_fits.false))
    (length-replicate {A = ℕ} 4096 0) (length-replicate {A = ℕ} 4096 0) (length-replicate {A = ℕ} 4096 0)
    (length-replicate {A = ℕ} 8192 0) (length-replicate {A = ℕ} 196608 0)

pub commit-requires : goal.commit-requires
commit-requires c =
    let a = c.args in
    let l = lent_mut a.lists.now in
    open_commit a.header l
    (tested a.header l c.metadata_fits.ensures c.shared.ensures c.if-not-metadata_fits.false) _ _
    (stood a.header c.shared-2.ensures c.shared-3.ensures c.without_repeats-counts.ensures.stands)

pub returns-clause-opens : goal.returns-clause-opens
returns-clause-opens c =
    let a = c.args in
    let l = lent_mut a.lists.now in
    open_done a.header l
    (tested a.header l c.metadata_fits.ensures c.shared.ensures c.if-not-metadata_fits.false)
    _ _ (stood a.header c.shared-2.ensures c.shared-3.ensures c.without_repeats-counts.ensures.stands) _ c.commit.ensures.holds _ c.counted.ensures
