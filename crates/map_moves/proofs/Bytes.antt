-- What moving and clearing bytes leaves of the rows. Assumes nothing.
use Rattle.std.specs.Prelude.{◌≡◌, refl, ℕ, zero, suc, ◌+◌, ◌-◌, ◌*◌, ◌≤◌, ◌<◌, List, length, get_or, take, drop, replicate}
use Rattle.std.proofs.Common.{ap, sym, length-take-le, ◌∙◌, arith, add-zero, length-drop, get_or-drop}
use Rattle.std.proofs.lemmas.List.{length-replicate}
use Rattle.std.proofs.lemmas.Grind.{common_steps}
use Rattle.std.proofs.Math.Seq.{paste}
use borrow.Rule.Slice.PartMut.{put_mid}
use Rattle.std.proofs.lemmas.Slice.{put_mid-paste}
use Rattle.theory.specs.Fields.{field}
use Rattle.map_rules.specs.Memory.{row_at}
use Rattle.map_rules.specs.MemoryLaws.{blank, row_same}
use Rattle.map_rules.specs.Moves.{Moved, Cleared}

paste_in : (d s : List ℕ) (at n x : ℕ) → at ≤ x → x < at + n → at + n ≤ length d → n ≤ length s → get_or (paste d at s n) x 0 ≡ get_or s (x - at) 0
paste_in d s at n x h k l m = grind (arith, common_steps)

paste_out : (d s : List ℕ) (at n x : ℕ) → (at ≤ x → x < at + n → ⊥) → at + n ≤ length d → n ≤ length s → get_or (paste d at s n) x 0 ≡ get_or d x 0
paste_out d s at n x h l m = grind (arith, common_steps)

-- a field, and a row, that stand elsewhere
field_moved : (w : ℕ) (b b' : List ℕ) (at at' : ℕ) → ((x : ℕ) → x < w → get_or b' (at' + x) 0 ≡ get_or b (at + x) 0) → field w b' at' ≡ field w b at
unfolding field
field_moved zero b b' at at' h = refl
field_moved (suc w) b b' at at' h =
    let first : get_or b' at' 0 ≡ get_or b at 0 = rw (add-zero at, add-zero at') at (h 0 (omega arith)) in
    let rest : field w b' (at' + 1) ≡ field w b (at + 1) =
    field_moved w b b' (at + 1) (at' + 1)
    (λ x l. let e : at + 1 + x ≡ at + (x + 1) = omega arith in let e' : at' + 1 + x ≡ at' + (x + 1) = omega arith in rw (e, e') (h (x + 1) (omega arith))) in
    omega (arith, first, rest)

module _ (b b' : List ℕ) (j j' : ℕ) (h : (x : ℕ) → x < 24 → get_or b' (j' * 24 + x) 0 ≡ get_or b (j * 24 + x) 0) where
  part : (o w : ℕ) → o + w ≤ 24 → (x : ℕ) → x < w → get_or b' (j' * 24 + o + x) 0 ≡ get_or b (j * 24 + o + x) 0
  part o w l x u =
      let e : j * 24 + o + x ≡ j * 24 + (o + x) = omega arith in
      let e' : j' * 24 + o + x ≡ j' * 24 + (o + x) = omega arith in
      rw (e, e') (h (o + x) (omega arith))

  row_moved : row_at b' j' ≡ row_at b j
  unfolding row_at
  row_moved =
      cc (
        field_moved 4 b b' (j * 24) (j' * 24) (λ x l. h x (omega arith)),
        field_moved 4 b b' (j * 24 + 4) (j' * 24 + 4) (part 4 4 (omega arith)),
        field_moved 8 b b' (j * 24 + 8) (j' * 24 + 8) (part 8 8 (omega arith)),
        field_moved 8 b b' (j * 24 + 16) (j' * 24 + 16) (part 16 8 (omega arith)),
      )

-- rows from f up to n copied to g on
module _ (t t' : List ℕ) (f n g : ℕ) (h : f ≤ n) (k : n * 24 ≤ length t) (l : (g + (n - f)) * 24 ≤ length t)
    (e : t' ≡ paste t (g * 24) (drop (f * 24) t) (n * 24 - f * 24)) where
  rest : n * 24 - f * 24 ≤ length (drop (f * 24) t)
  rest = omega (arith, length-drop (f * 24) t)

  pub moved_within : Moved t f n g t'
  moved_within = record {
    moved = λ j u. row_moved t t' (f + j) (g + j) (λ x v.
        let q : f * 24 + ((g + j) * 24 + x - g * 24) ≡ (f + j) * 24 + x = omega arith in
        rw e (paste_in t (drop (f * 24) t) (g * 24) (n * 24 - f * 24) ((g + j) * 24 + x) (omega arith) (omega arith) (omega arith) rest)
        ∙ get_or-drop (f * 24) t ((g + j) * 24 + x - g * 24) 0
        ∙ ap (λ (i : ℕ). get_or t i 0) q);
    kept = λ j out. row_same t t' j (λ x a b.
        rw e (paste_out t (drop (f * 24) t) (g * 24) (n * 24 - f * 24) x (λ c d. out (omega arith) (omega arith)) (omega arith) rest));
  }

-- rows from f up to n filled with 0
field_zero : (w : ℕ) (b : List ℕ) (at : ℕ) → ((x : ℕ) → at ≤ x → x < at + w → get_or b x 0 ≡ 0) → field w b at ≡ 0
unfolding field
field_zero zero b at h = refl
field_zero (suc w) b at h = omega (arith, h at (omega arith) (omega arith), field_zero w b (at + 1) (λ x l u. h x (omega arith) (omega arith)))

row_zero : (b : List ℕ) (j : ℕ) → ((x : ℕ) → j * 24 ≤ x → x < j * 24 + 24 → get_or b x 0 ≡ 0) → row_at b j ≡ blank
unfolding row_at
row_zero b j h =
    cc (
      field_zero 4 b (j * 24) (λ x l u. h x (omega arith) (omega arith)),
      field_zero 4 b (j * 24 + 4) (λ x l u. h x (omega arith) (omega arith)),
      field_zero 8 b (j * 24 + 8) (λ x l u. h x (omega arith) (omega arith)),
      field_zero 8 b (j * 24 + 16) (λ x l u. h x (omega arith) (omega arith)),
    )

zeros : (n x : ℕ) → x < n → ◌≡◌ {A = ℕ} (get_or (replicate n 0) x 0) 0
zeros n x h = grind (arith, common_steps)

module _ (t zs : List ℕ) (f n : ℕ) (h : f < n) (k : n * 24 ≤ length t)
    (z : ◌≡◌ {A = List ℕ} zs (replicate (length (take (n * 24 - f * 24) (drop (f * 24) t))) 0)) where
  abbrev t' : List ℕ
  t' = put_mid (f * 24) (n * 24 - f * 24) t zs

  long : length (take (n * 24 - f * 24) (drop (f * 24) t)) ≡ n * 24 - f * 24
  long = length-take-le (n * 24 - f * 24) (drop (f * 24) t) (omega (arith, length-drop (f * 24) t))

  z' : ◌≡◌ {A = List ℕ} zs (replicate (n * 24 - f * 24) 0)
  z' = rw long at z

  whole : n * 24 - f * 24 ≡ length zs
  whole = let l : length zs ≡ n * 24 - f * 24 = rw z' (length-replicate {A = ℕ} (n * 24 - f * 24) 0) in sym l

  e : t' ≡ paste t (f * 24) zs (n * 24 - f * 24)
  e = put_mid-paste (f * 24) (n * 24 - f * 24) t zs zs (n * 24 - f * 24) refl refl whole

  pub cleared_fill : Cleared t f n (put_mid (f * 24) (n * 24 - f * 24) t zs)
  cleared_fill = record {
    zero = λ j a b. row_zero t' j (λ x c d.
        rw e (paste_in t zs (f * 24) (n * 24 - f * 24) x (omega arith) (omega arith) (omega arith) (omega (arith, whole)))
        ∙ ap (λ (ys : List ℕ). get_or ys (x - f * 24) 0) z' ∙ zeros (n * 24 - f * 24) (x - f * 24) (omega arith));
    kept = λ j out. row_same t t' j (λ x a b.
        rw e (paste_out t zs (f * 24) (n * 24 - f * 24) x (λ c d. out (omega arith) (omega arith)) (omega arith) (omega (arith, whole))));
  }
