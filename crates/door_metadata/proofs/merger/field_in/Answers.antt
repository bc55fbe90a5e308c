-- 6 brings its field, every other refusal none. Assumes nothing.
use mathlib.Core.Path.{sym, ap, ◌∙◌}
use Rattle.leaves.specs.Refusal.{refused}
use Rattle.leaves.specs.declared.refusal.Refusal.{Refusal}
use Rattle.door_metadata.specs.Merger.{field_in}
use Rattle.door_metadata.proofs.Kept.{field_kept}
use Rattle.door_metadata.proofs.merger.field_in.Goals as goal

pub returns-in-Differ : goal.returns-in-Differ
unfolding field_in
returns-in-Differ c = c.number.ensures ∙ ap (λ (r : Refusal). field_in c.args.held (refused r)) (sym c.in-Differ.is)

pub returns-in_default : goal.returns-in_default
returns-in_default c = field_kept c.args.refusal c.args.held c.in_default.not-Differ
