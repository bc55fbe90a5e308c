-- `arrivals::add_all` meets its contract. The invariant: the arrivals so far are those of the entries passed. Assumes nothing.
use mathlib.Core.Path.{refl, sym, ◌∙◌, subst}
use Prim.Native.Nat.{ℕ}
use lib.ListN.{take}
use lib.Seq.{length-take-le}
use Rattle.std.proofs.Common.{List, take_all}
use Rattle.metadata_rules.specs.Metadata.{add_all}
use Rattle.metadata_gather.specs.Arrivals.{Marked, AllAdded, all_start, all_turn, count_next}
use native.Mathlib.Omega.{arith}
use Rattle.metadata_gather.proofs.arrivals.add_all.Goals as goal

pub loop-x-init : goal.loop-x-init
loop-x-init c =
    let a = c.args in (omega arith, refl, refl, all_start a.added.now a.numbers.now a.marks.now a.count (omega arith) c.requires.2)

pub add_one-held-requires : goal.add_one-held-requires
add_one-held-requires c =
    (omega arith, omega arith, subst (Marked _) (sym c.loop-x.invariant.3.stand) c.loop-x.invariant.3.marks)

pub loop-x-preserved : goal.loop-x-preserved
loop-x-preserved c =
    let a = c.args in
    let l = length-take-le c.loop-x.held c.loop-x.numbers (omega arith) in
    let e = count_next c.loop-x.held c.add_one-held.ensures (omega arith) in (
      omega arith,
      c.add_one-held.auto.numbers ∙ c.loop-x.invariant.1,
      c.add_one-held.auto.marks ∙ c.loop-x.invariant.2,
      all_turn
          (take a.count a.numbers.now) a.added.now c.loop-x.x-index (omega arith) c.loop-x.held c.loop-x.numbers c.loop-x.marks
          c.loop-x.invariant.3 _ _ _ _ _ refl c.add_one-held.ensures,
    )

pub returns : goal.returns
returns c =
    let a = c.args in
    subst (λ (l : List ℕ). AllAdded (add_all (take a.count a.numbers.now) l) c.loop-x.held c.loop-x.numbers c.loop-x.marks)
    (take_all c.loop-x.x-index a.added.now (omega arith)) c.loop-x.invariant.3
