-- A part of a list from one place to another, taken apart at its first entry. Assumes nothing.
use Rattle.std.specs.Prelude.{ℕ, ◌+◌, ◌≤◌, ◌<◌, List, [], ◌∷◌, ◌≡◌, length, get_or}
use Rattle.std.proofs.Common.{ap, ◌∙◌, sym, arith, add-one, take_all}
use Rattle.std.proofs.Math.Seq.{slice, slice-cons, slice_empty}

pub cut : (s : List ℕ) (at to : ℕ) → at < to → to ≤ length s → slice at to s ≡ get_or s at 0 ∷ slice (at + 1) to s
cut s at to h k = slice-cons at to s 0 h k ∙ ap (λ (n : ℕ). get_or s at 0 ∷ slice n to s) (sym (add-one at))

pub none_left : (s : List ℕ) (at to : ℕ) → at ≡ to → slice at to s ≡ []
none_left s at to e = ap (λ (n : ℕ). slice n to s) e ∙ slice_empty to s

pub whole : (s : List ℕ) → slice 0 (length s) s ≡ s
whole s = take_all (length s) s (omega arith)
