-- `sides::lay_mapping` meets its contract: the mapping's words, then its intervals. Assumes nothing.
use mathlib.Core.Path.{refl, ap, ◌∙◌}
use Prim.Native.Nat.{ℕ, ◌+◌}
use Rattle.metadata_rules.specs.Words.{name_at}
use Rattle.metadata_words.specs.Words.{put_mapping, lay_intervals}
use Rattle.metadata_lists.specs.Name.{rest_list}
use Rattle.metadata_gather.proofs.sides.lay_mapping.Goals as goal

pub returns : goal.returns
returns c =
    let a = c.args in (
      c.put_mapping.ensures ∙ ap
          (λ (u : ℕ). put_mapping a.both_mappings.now a.laid.mappings u c.count_at-size.result) c.name_at-name.ensures
          ∙ ap (put_mapping a.both_mappings.now a.laid.mappings (name_at a.mappings.words.now a.i)) c.count_at-size.ensures,
      c.copy_intervals.ensures ∙ ap (lay_intervals a.both_intervals.now a.laid.intervals)
          (rest_list _ _ _ _ _ _ refl c.count_at-size.ensures),
      refl,
      ap (λ (u : ℕ). a.laid.intervals + u) c.count_at-size.ensures,
    )
