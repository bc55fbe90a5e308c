-- `merge_names` meets its contract: the chains reach every mapping of a name, so what is laid is the merge by name. Assumes nothing.
use mathlib.Core.Path.{refl, ap, ◌∙◌}
use lib.ListN.{replicate}
use Rattle.metadata_lists.specs.Names.{finish_names}
use Rattle.metadata_plan.specs.Plan.{all_ready, all_by_name, full}
use native.Mathlib.Omega.{arith}
use Rattle.metadata_plan.proofs.plan.merge_names.Goals as goal

pub link-requires : goal.link-requires
link-requires c =
    let both = c.args.both in (
      c.requires.words,
      omega (arith, c.requires.count),
      λ t h. let a = c.requires.names t h in omega arith,
      full both.count 4096 (replicate 4096 both.count)
          refl,
    )

pub lay_names-requires : goal.lay_names-requires
lay_names-requires c =
    all_ready _ _ _ _ _ _ c.requires _ _ _ c.offsets.ensures.1 c.link.ensures
    (omega (arith, c.requires.count)) (omega (arith, c.requires.count)) (omega arith)

pub returns : goal.returns
returns c =
    let a = c.args in
    c.lay_names.ensures ∙ ap (finish_names a.out_mappings.now 0 a.out_intervals.now 0)
    (all_by_name _ _ _ _ _ _ c.requires _ _ _ c.offsets.ensures.1 c.link.ensures (omega (arith, c.requires.count))
    (omega (arith, c.requires.count)) (omega arith))
