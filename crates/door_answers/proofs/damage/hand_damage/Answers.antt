-- Damage brings its three numbers, every other refusal none. Assumes nothing.
use Prim.Native.Nat.{ℕ}
use mathlib.Core.Path.{sym, ap, ◌∙◌}
use Rattle.leaves.specs.Refusal.{refused}
use Rattle.leaves.specs.declared.refusal.Refusal.{Refusal}
use Rattle.door_answers.specs.Answers.{damage_in}
use Rattle.door_answers.proofs.Kept.{kept}
use Rattle.door_answers.proofs.damage.hand_damage.Goals as goal

pub returns-in-Damaged : goal.returns-in-Damaged
unfolding damage_in
returns-in-Damaged c =
    let a = c.args in
    let brings = λ (held k : ℕ). ap (λ (r : Refusal). damage_in held k (refused r)) (sym c.in-Damaged.is) in
    record {
      streams = brings a.stream.now 0;
      places = brings a.place.now 1;
      reasons = c.number.ensures ∙ brings a.reason.now 2;
    }

pub returns-in_default : goal.returns-in_default
returns-in_default c =
    let a = c.args in
    let keeps = λ (held k : ℕ). kept a.refusal held k c.in_default.not-Damaged in
    record { streams = keeps a.stream.now 0; places = keeps a.place.now 1; reasons = keeps a.reason.now 2 }
