-- The bytes are those of the field, put one after the other. Assumes nothing.
use Rattle.std.specs.Prelude.{ℕ, ◌+◌, ◌≤◌, ◌/◌, ◌%◌, List, [], ◌∷◌, ◌≡◌, length, set}
use mathlib.Core.Path.{refl, sym, ap, ◌∙◌}
use native.Mathlib.Omega.{arith}
use lib.Seq.{paste}
use Rattle.std.proofs.lemmas.List.Edits.{paste_none, paste_more}
use Rattle.std.proofs.lemmas.Slice.{put_mid-paste}
use Rattle.theory.specs.Fields.{put_4}
use Rattle.leaves_fields.proofs.fields.put_u32.Goals as goal

four : (b : List ℕ) (at x y z w : ℕ) → at + 4 ≤ length b
    → set (set (set (set b at x) (at + 1) y) (at + 2) z) (at + 3) w ≡ paste b at (x ∷ y ∷ z ∷ w ∷ []) 4
four b at x y z w h =
    let s = x ∷ y ∷ z ∷ w ∷ [] in
    let e0 : set b at x ≡ paste b at s 1 = ap (λ (n : ℕ). set b n x) (omega arith) ∙ ap (λ (l : List ℕ). set l (at + 0) x) (paste_none b at s) ∙ paste_more b at s 0 0 (omega arith) (omega arith) in
    ap (λ (l : List ℕ). set (set (set l (at + 1) y) (at + 2) z) (at + 3) w) e0
    ∙ ap (λ (l : List ℕ). set (set l (at + 2) z) (at + 3) w) (paste_more b at s 1 0 (omega arith) (omega arith))
    ∙ ap (λ (l : List ℕ). set l (at + 3) w) (paste_more b at s 2 0 (omega arith) (omega arith))
    ∙ paste_more b at s 3 0 (omega arith) (omega arith)

pub returns : goal.returns
returns c =
    let a = c.args in
    let s = a.v % 256 ∷ a.v / 256 % 256 ∷ a.v / 65536 % 256 ∷ a.v / 16777216 % 256 ∷ [] in
    put_mid-paste a.at _ a.b.now c.copy_from_slice.new.self s 4 (c.copy_from_slice.ensures.after ∙ c.to_le_bytes.ensures) (omega arith) refl
    ∙ sym (put_4 a.b.now a.at a.v ∙ four a.b.now a.at _ _ _ _ (omega arith))
