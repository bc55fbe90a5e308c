-- Stretches with their sides exchanged: they stay in order, and say the same the other way round. Assumes nothing.
use Rattle.std.specs.Prelude.{◌≡◌, ℕ, ◌≤◌, ◌<◌, Bool}
use Rattle.std.proofs.Math.Path.{refl, sym}
use Rattle.std.proofs.Common.{ap, ◌∙◌}
use Rattle.std.proofs.Math.Option.{Option, none, some}
use mathlib.Core.List.{List, [], ◌∷◌, map}
use Rattle.map_rules.specs.Table.{Row, group, answer_for, Ordered}
use Rattle.map_rules.specs.Fronts.{row_in, row_out}
use Rattle.map_compare_rules.specs.Compare.{Difference, Stretches}
use Rattle.map_compare_rules.specs.Steps.{covered}

module _ {A : Type 0} where
  -- what is said, the other way round
  abbrev pub turned_value : Difference A → Difference A
  turned_value d = record { left = d.right; right = d.left }

  unfoldable pub turned_said : Option (Difference A) → Option (Difference A)
  turned_said none = none
  turned_said (some d) = some (turned_value d)

  -- a stretch with its sides exchanged
  abbrev pub turned : Row (Difference A) → Row (Difference A)
  turned d = record { instrument = d.instrument; start = d.start; end = d.end; value = turned_value d.value }

  pub turned_order : (ds : Stretches A) → Ordered ds → Ordered (map (λ d. turned d) ds)
  turned_order [] w = tt
  turned_order (d ∷ []) w = (w.0, tt, tt)
  turned_order (d ∷ e ∷ ds) w =
      (w.0, (w.1.0, λ q. ((w.1.1 q).0, λ f g. (w.1.1 q).1 f (ap (λ (z : Difference A). turned_value z) g))), turned_order (e ∷ ds) w.2)

module _ {A : Type 0} (same : A → A → Bool) where
  pub turned_answers : (ds : Stretches A) (i m : ℕ) → answer_for (map (λ d. turned d) ds) i m ≡ turned_said (answer_for ds i m)
  unfolding answer_for group turned_said
  turned_answers [] i m = refl
  turned_answers (d ∷ ds) i m = go (covered same d i m) (turned_answers ds i m)
    where
      go : Dec ((d.instrument ≡ i) × (d.start ≤ m) × (m < d.end)) → answer_for (map (λ d. turned d) ds) i m ≡ turned_said (answer_for ds i m)
          → answer_for (map (λ d. turned d) (d ∷ ds)) i m ≡ turned_said (answer_for (d ∷ ds) i m)
      go (yes c) rest =
          row_in (turned d) (map (λ d. turned d) ds) i m c.0 c.1 c.2 ∙ sym (ap turned_said (row_in d ds i m c.0 c.1 c.2))
      go (no c) rest =
          row_out (turned d) (map (λ d. turned d) ds) i m (λ e h k. c (e, h, k)) ∙ rest
          ∙ sym (ap turned_said (row_out d ds i m (λ e h k. c (e, h, k))))
