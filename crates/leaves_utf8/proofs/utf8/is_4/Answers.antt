-- The first two bytes, then two UTF8-tails. Assumes nothing.
use Rattle.std.specs.Prelude.{ℕ, Bool, true, false, ◌&&◌, ◌≡◌}
use mathlib.Core.Path.{sym, ◌∙◌}
use Rattle.leaves_utf8.specs.Utf8.{is_tail, begins_4, utf8_4}
use Rattle.leaves_utf8.specs.Utf8Bytes.{by_two_4}
use Rattle.leaves_utf8.proofs.utf8.is_4.Goals as goal
use Rattle.leaves_utf8.proofs.utf8.is_4.Goals.{then-begins_4, else-begins_4}

both : {f t v p q : Bool} → f ≡ p → f ≡ true → v ≡ t → t ≡ q → v ≡ (p && q)
both e h g k = rw (sym e ∙ h) (g ∙ k)

none : {f v p : Bool} (q : Bool) → f ≡ p → f ≡ false → v ≡ f → v ≡ (p && q)
none q e h g = rw (sym e ∙ h) (g ∙ h)

module _ (a b c d : ℕ) {v : Bool} (e : v ≡ (begins_4 a b && is_tail c)) where
  then_tail : {t : Bool} → v ≡ true → t ≡ is_tail d → t ≡ utf8_4 a b c d
  then_tail h k = k ∙ rw (sym e ∙ h) at (by_two_4 a b c d)

  else_tail : v ≡ false → v ≡ utf8_4 a b c d
  else_tail h = h ∙ rw (sym e ∙ h) at (by_two_4 a b c d)

pub returns-then-is_tail : goal.returns-then-is_tail
returns-then-is_tail c =
    let e : c.if-begins_4.value ≡ (begins_4 c.args.a c.args.b && is_tail c.args.c) =
    elim c.if-begins_4.branch [
      | then-begins_4 w ↦ both c.begins_4.ensures w.if-begins_4.true w.value-is w.is_tail.ensures
      | else-begins_4 w ↦ none (is_tail c.args.c) c.begins_4.ensures w.if-begins_4.false w.value-is
    ] in
    then_tail c.args.a c.args.b c.args.c c.args.d e c.if-is_tail.true c.is_tail-then-is_tail.ensures

pub returns-else-is_tail : goal.returns-else-is_tail
returns-else-is_tail c =
    let e : c.if-begins_4.value ≡ (begins_4 c.args.a c.args.b && is_tail c.args.c) =
    elim c.if-begins_4.branch [
      | then-begins_4 w ↦ both c.begins_4.ensures w.if-begins_4.true w.value-is w.is_tail.ensures
      | else-begins_4 w ↦ none (is_tail c.args.c) c.begins_4.ensures w.if-begins_4.false w.value-is
    ] in
    else_tail c.args.a c.args.b c.args.c c.args.d e c.if-is_tail.false
