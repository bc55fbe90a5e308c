-- Damage brings its reason, every other refusal none. Assumes nothing.
use mathlib.Core.Path.{sym, ap, ◌∙◌}
use Rattle.leaves.specs.Refusal.{refused}
use Rattle.leaves.specs.declared.refusal.Refusal.{Refusal}
use Rattle.door_answers.specs.Answers.{damage_in}
use Rattle.door_answers.proofs.Kept.{kept}
use Rattle.door_answers.proofs.damage.reason_in.Goals as goal

pub returns-in-Damaged : goal.returns-in-Damaged
unfolding damage_in
returns-in-Damaged c = c.number.ensures ∙ ap (λ (r : Refusal). damage_in c.args.held 2 (refused r)) (sym c.in-Damaged.is)

pub returns-in_default : goal.returns-in_default
returns-in_default c = kept c.args.refusal c.args.held 2 c.in_default.not-Damaged
