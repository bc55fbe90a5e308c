-- `plan` meets its contract: what was gathered is judged, then merged by name. Assumes nothing.
use mathlib.Core.Path.{ap, ◌∙◌}
use Prim.Native.Nat.{ℕ}
use Rattle.std.specs.Prelude.{Result}
use Rattle.leaves.specs.declared.refusal.Refusal.{Refusal}
use Rattle.metadata_lists.specs.declared.names.Laid.{Laid}
use lib.ListN.{length-replicate}
use native.Mathlib.Omega.{arith}
use Rattle.std.proofs.lemmas.Result.{err_from_is_err_and}
use Rattle.metadata_plan.specs.Plan.{end_plan, shown_or, stands_words, stands_spans, plan_gathered, plan_linkable, plan_stopped, plan_laid}
use Rattle.metadata_plan.proofs.plan.plan.Goals as goal

pub gather_sides-gathered-requires : goal.gather_sides-gathered-requires
gather_sides-gathered-requires c =
    plan_gathered _ _ _ _ _ _ _ _ _ c.requires _ _ (length-replicate {A = ℕ} 16384 0) (length-replicate {A = ℕ} 393216 0)

pub numbers_known-named-requires : goal.numbers_known-named-requires
numbers_known-named-requires c =
    let w = stands_words _ _ _ _ _ c.gather_sides-gathered.ensures in (omega arith, omega arith)

pub judge-requires : goal.judge-requires
judge-requires c = stands_spans _ _ _ _ _ c.gather_sides-gathered.ensures

pub merge_names-requires : goal.merge_names-requires
merge_names-requires c =
    plan_linkable _ _ _ _ _ _ _ _ _ c.requires _ _ _ _ c.gather_sides-gathered.ensures c.args.rest _ c.numbers_known-named.ensures _ c.judge.ensures
    c.in_ok-judge.was _ (length-replicate {A = ℕ} 393216 0)

pub returns-in_err-judge : goal.returns-in_err-judge
unfolding end_plan
returns-in_err-judge c =
    let p = err_from_is_err_and c.from_residual.result c.from_residual.ensures.1 in
    rw (p.1, p.2) (plan_stopped _ _ _ _ _ c.gather_sides-gathered.ensures _ _ _ c.numbers_known-named.ensures _ c.judge.ensures _ _ _ c.in_err-judge.was)

pub returns : goal.returns
returns c =
    let a = c.args in
    ap (λ (x : Result Laid Refusal). end_plan x c.merge_names.new.out_mappings c.merge_names.new.out_intervals) c.ok_or.ensures.value
    ∙ shown_or _ _ _
    ∙ plan_laid _ _ _ _ _ c.gather_sides-gathered.ensures _ _ _ c.numbers_known-named.ensures _ c.judge.ensures a.out_mappings.now a.out_intervals.now _ _ _ c.in_ok-judge.was c.merge_names.ensures
