-- An outcome laid over a lent list. Assumes nothing.
use Rattle.std.specs.Prelude.{◌≡◌, ℕ, ◌+◌, ◌-◌, ◌≤◌, ◌<◌, max, List, ◌++◌, length, take, drop, replicate}
use Rattle.std.proofs.Common.{sym, ap, ◌∙◌, arith, append_assoc, drop-drop, take_all, length-take-le}
use Rattle.std.proofs.lemmas.List.{length-replicate}
use Rattle.std.proofs.Math.Seq.{paste}
use Rattle.std.proofs.lemmas.List.Edits.{take-paste, drop-paste}

-- the outcome's words, 0 in the places that it frees, and the rest of the list as it was; `used` places were in use
unfoldable pub over : List ℕ → ℕ → List ℕ → List ℕ
over d used new = new ++ (replicate (used - length new) 0 ++ drop (max used (length new)) d)

-- ---- laws

pub over_kept : (d t : List ℕ) (used n : ℕ) → n ≤ length t → used ≤ n → paste d 0 t n ≡ over d used (take n t)
unfolding over
over_kept d t used n h k =
    let l = length-take-le n t h in
    let z : used - n ≡ 0 = omega arith in
    let y : 0 + n ≡ max used n = omega arith in
    rw (l, z) (ap (λ (i : ℕ). take n t ++ drop i d) y)

pub over_freed : (d d' d'' t : List ℕ) (used n : ℕ) → n ≤ length d → n ≤ length t → n < used → d' ≡ paste d 0 t n → d'' ≡ paste d' n (replicate (used - n) 0) (used - n)
    → d'' ≡ over d used (take n t)
unfolding over
over_freed d d' d'' t used n h k l e f =
    let a = length-take-le n t k in
    let z : n ≡ 0 + n = omega arith in
    let b : take n d' ≡ take n t = ap (take n) e ∙ ap (λ (i : ℕ). take i (paste d 0 t n)) z ∙ take-paste d 0 t n (omega arith) k in
    let c : drop (n + (used - n)) d' ≡ drop (max used n) d =
    sym (drop-drop (used - n) n d') ∙ ap (drop (used - n)) (ap (drop n) e ∙ ap (λ (i : ℕ). drop i (paste d 0 t n)) z ∙ drop-paste d 0 t n (omega arith) k) ∙ drop-drop (used - n) (0 + n) d ∙ same in
    let g = take_all {A = ℕ} (used - n) (replicate (used - n) 0) (omega (arith, length-replicate {A = ℕ} (used - n) 0)) in
    f ∙ append_assoc (take n d') (take (used - n) (replicate (used - n) 0)) (drop (n + (used - n)) d') ∙ rw (a) (ap (λ (x : List ℕ). x ++ (take (used - n) (replicate (used - n) 0) ++ drop (n + (used - n)) d')) b
    ∙ ap (λ (x : List ℕ). take n t ++ (x ++ drop (n + (used - n)) d')) g
    ∙ ap (λ (x : List ℕ). take n t ++ (replicate (used - n) 0 ++ x)) c)
  where
    same : drop (0 + n + (used - n)) d ≡ drop (max used n) d
    same = let z : 0 + n + (used - n) ≡ max used n = omega arith in ap (λ (i : ℕ). drop i d) z
