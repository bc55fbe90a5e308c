-- What a step over one UTF8-char means for the text from a place on: the code's walk, a law for each way that a step goes.
-- Assumes nothing.
use Rattle.std.specs.Prelude.{ℕ, zero, suc, ◌+◌, ◌-◌, ◌≤◌, ◌<◌, List, [], ◌∷◌, Bool, true, false, ◌≡◌, refl, length, get_or}
use Rattle.std.proofs.Math.Path.{ap}
use Rattle.std.proofs.Common.{◌∙◌, sym, arith}
use Rattle.std.proofs.Math.Decide.{dec_lt}
use Rattle.std.proofs.Math.Seq.{slice}
use Rattle.theory.specs.Slices.{cut, none_left}
use Rattle.theory.specs.Bools.{and_false}
use Rattle.leaves_utf8.specs.Utf8Bytes.{within_yes, yes_1, not_1, not_2, not_3, not_4}
use Rattle.leaves_utf8.specs.Utf8.{within, is_tail, utf8_1, utf8_2, utf8_3, four, utf8_4, is_utf8, Stepped, Upto}

-- ---- the alternatives of UTF8-4, tried in their order; f1 to f3 are what their tests answered

pub fourth_1 : (a b c d : ℕ) {f1 : Bool} → f1 ≡ four 0xF0 0xF0 0x90 0xBF a b c d → f1 ≡ true → true ≡ utf8_4 a b c d
unfolding utf8_4
fourth_1 a b c d e1 t1 = rw (sym e1 ∙ t1)

pub fourth_2 : (a b c d : ℕ) {f1 f2 : Bool} → f1 ≡ four 0xF0 0xF0 0x90 0xBF a b c d → f1 ≡ false
    → f2 ≡ four 0xF1 0xF3 0x80 0xBF a b c d → f2 ≡ true → true ≡ utf8_4 a b c d
unfolding utf8_4
fourth_2 a b c d e1 t1 e2 t2 = rw (sym e1 ∙ t1, sym e2 ∙ t2)

pub fourth_3 : (a b c d : ℕ) {f1 f2 f3 : Bool} → f1 ≡ four 0xF0 0xF0 0x90 0xBF a b c d → f1 ≡ false
    → f2 ≡ four 0xF1 0xF3 0x80 0xBF a b c d → f2 ≡ false
    → f3 ≡ four 0xF4 0xF4 0x80 0x8F a b c d → f3 ≡ utf8_4 a b c d
unfolding utf8_4
fourth_3 a b c d e1 t1 e2 t2 e3 = rw (sym e1 ∙ t1, sym e2 ∙ t2) e3

-- ---- the definition, one byte after the other

pub is_1 : (a : ℕ) (s : List ℕ) → utf8_1 a ≡ true → is_utf8 (a ∷ s) ≡ is_utf8 s
unfolding is_utf8
is_1 a s e = rw e

pub is_2 : (a b : ℕ) (s : List ℕ) → utf8_1 a ≡ false → utf8_2 a b ≡ true → is_utf8 (a ∷ b ∷ s) ≡ is_utf8 s
unfolding is_utf8
is_2 a b s e f = rw (e, f)

pub is_3 : (a b c : ℕ) (s : List ℕ) → utf8_1 a ≡ false → utf8_2 a b ≡ false → utf8_3 a b c ≡ true → is_utf8 (a ∷ b ∷ c ∷ s) ≡ is_utf8 s
unfolding is_utf8
is_3 a b c s e f g = rw (e, f, g)

pub is_4 : (a b c d : ℕ) (s : List ℕ) → utf8_1 a ≡ false → utf8_2 a b ≡ false → utf8_3 a b c ≡ false → utf8_4 a b c d ≡ true → is_utf8 (a ∷ b ∷ c ∷ d ∷ s) ≡ is_utf8 s
unfolding is_utf8
is_4 a b c d s e f g h = rw (e, f, g, h)

no_1 : (a : ℕ) → utf8_1 a ≡ false → is_utf8 (a ∷ []) ≡ false
unfolding is_utf8
no_1 a e = rw e

no_2 : (a b : ℕ) → utf8_1 a ≡ false → utf8_2 a b ≡ false → is_utf8 (a ∷ b ∷ []) ≡ false
unfolding is_utf8
no_2 a b e f = rw (e, f)

no_3 : (a b c : ℕ) → utf8_1 a ≡ false → utf8_2 a b ≡ false → utf8_3 a b c ≡ false → is_utf8 (a ∷ b ∷ c ∷ []) ≡ false
unfolding is_utf8
no_3 a b c e f g = rw (e, f, g)

no_4 : (a b c d : ℕ) (s : List ℕ) → utf8_1 a ≡ false → utf8_2 a b ≡ false → utf8_3 a b c ≡ false → utf8_4 a b c d ≡ false → is_utf8 (a ∷ b ∷ c ∷ d ∷ s) ≡ false
unfolding is_utf8
no_4 a b c d s e f g h = rw (e, f, g, h)

-- ---- the bytes from a place on

cut_from : (s : List ℕ) (at to i j : ℕ) → i + 1 ≡ j → at + i < to → to ≤ length s → slice (at + i) to s ≡ get_or s (at + i) 0 ∷ slice (at + j) to s
cut_from s at to i j e h k =
    let p : at + i + 1 ≡ at + j = omega arith in
    cut s (at + i) to h k ∙ ap (λ (n : ℕ). get_or s (at + i) 0 ∷ slice n to s) p

cut_2 : (s : List ℕ) (at to : ℕ) → at + 1 < to → to ≤ length s → slice at to s ≡ get_or s at 0 ∷ get_or s (at + 1) 0 ∷ slice (at + 2) to s
cut_2 s at to h k = cut s at to (omega arith) k ∙ ap (λ (l : List ℕ). get_or s at 0 ∷ l) (cut_from s at to 1 2 refl h k)

cut_3 : (s : List ℕ) (at to : ℕ) → at + 2 < to → to ≤ length s → slice at to s ≡ get_or s at 0 ∷ get_or s (at + 1) 0 ∷ get_or s (at + 2) 0 ∷ slice (at + 3) to s
cut_3 s at to h k =
    cut_2 s at to (omega arith) k ∙ ap (λ (l : List ℕ). get_or s at 0 ∷ get_or s (at + 1) 0 ∷ l) (cut_from s at to 2 3 refl h k)

cut_4 : (s : List ℕ) (at to : ℕ) → at + 3 < to → to ≤ length s → slice at to s ≡ get_or s at 0 ∷ get_or s (at + 1) 0 ∷ get_or s (at + 2) 0 ∷ get_or s (at + 3) 0 ∷ slice (at + 4) to s
cut_4 s at to h k =
    cut_3 s at to (omega arith) k ∙ ap (λ (l : List ℕ). get_or s at 0 ∷ get_or s (at + 1) 0 ∷ get_or s (at + 2) 0 ∷ l) (cut_from s at to 3 4 refl h k)

pub none_left_is : (s : List ℕ) (at to : ℕ) → at ≡ to → is_utf8 (slice at to s) ≡ true
unfolding is_utf8
none_left_is s at to e = ap is_utf8 (none_left s at to e)

-- ---- UTF8-1 alone

pub upto_none : {s : List ℕ} {at : ℕ} → Upto s at at 0
upto_none = record { each = λ k h l. absurd (omega arith) }

module _ {s : List ℕ} {from at n x : ℕ} (u : Upto s from at n) (e : x ≡ get_or s at 0) where
  one_more : (m : ℕ) → n ≤ m → x ≤ m → Upto s from (at + 1) m
  one_more m h l = record { each = λ k p q. go k p q (dec_lt k at) }
    where
      go : (k : ℕ) → from ≤ k → k < at + 1 → Dec (k < at) → get_or s k 0 ≤ m
      go k p q (yes o) = omega (arith, u.each k p o)
      go k p q (no o) = let d : k ≡ at = omega arith in rw (d, ← e) l

  pub upto_above : n < x → Upto s from (at + 1) x
  upto_above h = one_more x (omega arith) (omega arith)

  pub upto_below : x ≤ n → Upto s from (at + 1) n
  upto_below h = one_more n (omega arith) h

-- none is left
pub upto_all : {s : List ℕ} {from at to n : ℕ} → Upto s from at n → at ≤ to → to ≤ at → Upto s from to n
upto_all u h l = record { each = λ k p q. u.each k p (omega arith) }

-- bytes up to %x7F are UTF-8
pub upto_is : (s : List ℕ) (left at to n : ℕ) → at + left ≡ to → to ≤ length s → n ≤ 0x7F → Upto s at to n → is_utf8 (slice at to s) ≡ true
upto_is s zero at to n e l h u = none_left_is s at to (omega arith)
upto_is s (suc left) at to n e l h u =
    ap is_utf8 (cut s at to (omega arith) l)
    ∙ is_1 (get_or s at 0) (slice (at + 1) to s) (yes_1 (get_or s at 0) (omega (arith, u.each at (omega arith) (omega arith))))
    ∙ upto_is s left (at + 1) to n (omega arith) l h (record { each = λ k p q. u.each k (omega arith) q })

-- the same of a part of them
pub plain_is : (s : List ℕ) (from to at end : ℕ) → Upto s from to 0x7F → from ≤ at → at ≤ end → end ≤ to → to ≤ length s → is_utf8 (slice at end s) ≡ true
plain_is s from to at end u a b c l =
    upto_is s (end - at) at end 0x7F (omega arith) (omega arith) (omega arith) (record { each = λ k p q. u.each k (omega arith) (omega arith) })

-- ---- the ways that a step goes; f1 to f4 are what the tests of the four productions answered

good : {s : List ℕ} {at to n : ℕ} → 0 < n → at + n ≤ to → is_utf8 (slice at to s) ≡ is_utf8 (slice (at + n) to s) → Stepped s at to n
good p h e = record { inside = h; stuck = λ z. absurd (omega arith); onward = λ z. e }

bad : {s : List ℕ} {at to : ℕ} → at < to → is_utf8 (slice at to s) ≡ false → Stepped s at to 0
bad h e = record { inside = omega arith; stuck = λ z. e; onward = λ z. absurd (z refl) }

pub step_1 : {s : List ℕ} {at to : ℕ} {f1 : Bool} → at < to → to ≤ length s
    → f1 ≡ utf8_1 (get_or s at 0) → f1 ≡ true → Stepped s at to 1
step_1 {s} {at} {to} h k e1 t1 =
    good (omega arith) (omega arith) (ap is_utf8 (cut s at to h k) ∙ is_1 _ _ (sym e1 ∙ t1))

pub step_2 : {s : List ℕ} {at to : ℕ} {f1 f2 : Bool} → at < to → to ≤ length s
    → f1 ≡ utf8_1 (get_or s at 0) → f1 ≡ false
    → 2 ≤ to - at → f2 ≡ utf8_2 (get_or s at 0) (get_or s (at + 1) 0) → f2 ≡ true → Stepped s at to 2
step_2 {s} {at} {to} h k e1 t1 l2 e2 t2 =
    good (omega arith) (omega arith) (ap is_utf8 (cut_2 s at to (omega arith) k) ∙ is_2 _ _ _ (sym e1 ∙ t1) (sym e2 ∙ t2))

pub step_3 : {s : List ℕ} {at to : ℕ} {f1 f2 f3 : Bool} → at < to → to ≤ length s
    → f1 ≡ utf8_1 (get_or s at 0) → f1 ≡ false
    → 2 ≤ to - at → f2 ≡ utf8_2 (get_or s at 0) (get_or s (at + 1) 0) → f2 ≡ false
    → 3 ≤ to - at → f3 ≡ utf8_3 (get_or s at 0) (get_or s (at + 1) 0) (get_or s (at + 2) 0) → f3 ≡ true → Stepped s at to 3
step_3 {s} {at} {to} h k e1 t1 l2 e2 t2 l3 e3 t3 =
    good (omega arith) (omega arith) (ap is_utf8 (cut_3 s at to (omega arith) k) ∙ is_3 _ _ _ _ (sym e1 ∙ t1) (sym e2 ∙ t2) (sym e3 ∙ t3))

pub step_4 : {s : List ℕ} {at to : ℕ} {f1 f2 f3 f4 : Bool} → at < to → to ≤ length s
    → f1 ≡ utf8_1 (get_or s at 0) → f1 ≡ false
    → 2 ≤ to - at → f2 ≡ utf8_2 (get_or s at 0) (get_or s (at + 1) 0) → f2 ≡ false
    → 3 ≤ to - at → f3 ≡ utf8_3 (get_or s at 0) (get_or s (at + 1) 0) (get_or s (at + 2) 0) → f3 ≡ false
    → 4 ≤ to - at → f4 ≡ utf8_4 (get_or s at 0) (get_or s (at + 1) 0) (get_or s (at + 2) 0) (get_or s (at + 3) 0) → f4 ≡ true → Stepped s at to 4
step_4 {s} {at} {to} h k e1 t1 l2 e2 t2 l3 e3 t3 l4 e4 t4 =
    good (omega arith) (omega arith) (ap is_utf8 (cut_4 s at to (omega arith) k) ∙ is_4 _ _ _ _ _ (sym e1 ∙ t1) (sym e2 ∙ t2) (sym e3 ∙ t3) (sym e4 ∙ t4))

pub none_1 : {s : List ℕ} {at to : ℕ} {f1 : Bool} → at < to → to ≤ length s
    → f1 ≡ utf8_1 (get_or s at 0) → f1 ≡ false
    → to - at < 2 → Stepped s at to 0
none_1 {s} {at} {to} h k e1 t1 l =
    bad h (ap is_utf8 (cut s at to h k ∙ ap (λ (r : List ℕ). get_or s at 0 ∷ r) (none_left s (at + 1) to (omega arith))) ∙ no_1 _ (sym e1 ∙ t1))

pub none_2 : {s : List ℕ} {at to : ℕ} {f1 f2 : Bool} → at < to → to ≤ length s
    → f1 ≡ utf8_1 (get_or s at 0) → f1 ≡ false
    → 2 ≤ to - at → f2 ≡ utf8_2 (get_or s at 0) (get_or s (at + 1) 0) → f2 ≡ false
    → to - at < 3 → Stepped s at to 0
none_2 {s} {at} {to} h k e1 t1 l2 e2 t2 l =
    bad h (ap is_utf8 (cut_2 s at to (omega arith) k ∙ ap (λ (r : List ℕ). get_or s at 0 ∷ get_or s (at + 1) 0 ∷ r) (none_left s (at + 2) to (omega arith))) ∙ no_2 _ _ (sym e1 ∙ t1) (sym e2 ∙ t2))

pub none_3 : {s : List ℕ} {at to : ℕ} {f1 f2 f3 : Bool} → at < to → to ≤ length s
    → f1 ≡ utf8_1 (get_or s at 0) → f1 ≡ false
    → 2 ≤ to - at → f2 ≡ utf8_2 (get_or s at 0) (get_or s (at + 1) 0) → f2 ≡ false
    → 3 ≤ to - at → f3 ≡ utf8_3 (get_or s at 0) (get_or s (at + 1) 0) (get_or s (at + 2) 0) → f3 ≡ false
    → to - at < 4 → Stepped s at to 0
none_3 {s} {at} {to} h k e1 t1 l2 e2 t2 l3 e3 t3 l =
    bad h (ap is_utf8 (cut_3 s at to (omega arith) k ∙ ap (λ (r : List ℕ). get_or s at 0 ∷ get_or s (at + 1) 0 ∷ get_or s (at + 2) 0 ∷ r) (none_left s (at + 3) to (omega arith))) ∙ no_3 _ _ _ (sym e1 ∙ t1) (sym e2 ∙ t2) (sym e3 ∙ t3))

pub none_4 : {s : List ℕ} {at to : ℕ} {f1 f2 f3 f4 : Bool} → at < to → to ≤ length s
    → f1 ≡ utf8_1 (get_or s at 0) → f1 ≡ false
    → 2 ≤ to - at → f2 ≡ utf8_2 (get_or s at 0) (get_or s (at + 1) 0) → f2 ≡ false
    → 3 ≤ to - at → f3 ≡ utf8_3 (get_or s at 0) (get_or s (at + 1) 0) (get_or s (at + 2) 0) → f3 ≡ false
    → 4 ≤ to - at → f4 ≡ utf8_4 (get_or s at 0) (get_or s (at + 1) 0) (get_or s (at + 2) 0) (get_or s (at + 3) 0) → f4 ≡ false → Stepped s at to 0
none_4 {s} {at} {to} h k e1 t1 l2 e2 t2 l3 e3 t3 l4 e4 t4 =
    bad h (ap is_utf8 (cut_4 s at to (omega arith) k) ∙ no_4 _ _ _ _ _ (sym e1 ∙ t1) (sym e2 ∙ t2) (sym e3 ∙ t3) (sym e4 ∙ t4))

-- ---- the walk by the first byte, where four bytes are left

module _ (s : List ℕ) (at to : ℕ) (h : at + 4 ≤ to) (k : to ≤ length s) where
  pub by_1 : get_or s at 0 < 0x80 → is_utf8 (slice at to s) ≡ is_utf8 (slice (at + 1) to s)
  by_1 l = ap is_utf8 (cut s at to (omega arith) k) ∙ is_1 _ _ (yes_1 (get_or s at 0) (omega arith))

  pub by_2 : 0xC2 ≤ get_or s at 0 → get_or s at 0 < 0xE0 → is_tail (get_or s (at + 1) 0) ≡ true → is_utf8 (slice at to s) ≡ is_utf8 (slice (at + 2) to s)
  unfolding utf8_2
  by_2 l m e =
      ap is_utf8 (cut_2 s at to (omega arith) k)
      ∙ is_2 _ _ _ (not_1 (get_or s at 0) (omega arith)) (rw (within_yes 0xC2 0xDF (get_or s at 0) l (omega arith)) e)

  pub by_3 : 0xE0 ≤ get_or s at 0 → utf8_3 (get_or s at 0) (get_or s (at + 1) 0) (get_or s (at + 2) 0) ≡ true → is_utf8 (slice at to s) ≡ is_utf8 (slice (at + 3) to s)
  by_3 l e =
      ap is_utf8 (cut_3 s at to (omega arith) k)
      ∙ is_3 _ _ _ _ (not_1 (get_or s at 0) (omega arith)) (not_2 (get_or s at 0) (get_or s (at + 1) 0) (λ p q. omega arith)) e

  pub by_4 : 0xF0 ≤ get_or s at 0 → utf8_4 (get_or s at 0) (get_or s (at + 1) 0) (get_or s (at + 2) 0) (get_or s (at + 3) 0) ≡ true
      → is_utf8 (slice at to s) ≡ is_utf8 (slice (at + 4) to s)
  by_4 l e =
      ap is_utf8 (cut_4 s at to (omega arith) k)
      ∙ is_4 _ _ _ _ _ (not_1 (get_or s at 0) (omega arith)) (not_2 (get_or s at 0) (get_or s (at + 1) 0) (λ p q. omega arith))
      (sym (not_3 (get_or s at 0) (get_or s (at + 1) 0) (get_or s (at + 2) 0) (λ p q. omega arith))) e

  -- no UTF8-char stands there
  none : 0x80 ≤ get_or s at 0 → utf8_2 (get_or s at 0) (get_or s (at + 1) 0) ≡ false → utf8_3 (get_or s at 0) (get_or s (at + 1) 0) (get_or s (at + 2) 0) ≡ false
      → utf8_4 (get_or s at 0) (get_or s (at + 1) 0) (get_or s (at + 2) 0) (get_or s (at + 3) 0) ≡ false → is_utf8 (slice at to s) ≡ false
  none l e f g = ap is_utf8 (cut_4 s at to (omega arith) k) ∙ no_4 _ _ _ _ _ (not_1 (get_or s at 0) l) e f g

  pub no_lead : 0x80 ≤ get_or s at 0 → get_or s at 0 < 0xC2 → is_utf8 (slice at to s) ≡ false
  no_lead l m =
      none l (not_2 (get_or s at 0) (get_or s (at + 1) 0) (λ p q. omega arith))
      (sym (not_3 (get_or s at 0) (get_or s (at + 1) 0) (get_or s (at + 2) 0) (λ p q. omega arith)))
      (not_4 (get_or s at 0) (get_or s (at + 1) 0) (get_or s (at + 2) 0) (get_or s (at + 3) 0) (λ p q. omega arith))

  pub no_2nd : 0xC2 ≤ get_or s at 0 → get_or s at 0 < 0xE0 → is_tail (get_or s (at + 1) 0) ≡ false → is_utf8 (slice at to s) ≡ false
  unfolding utf8_2
  no_2nd l m e =
      none (omega arith) (rw e (and_false (within 0xC2 0xDF (get_or s at 0))))
      (sym (not_3 (get_or s at 0) (get_or s (at + 1) 0) (get_or s (at + 2) 0) (λ p q. omega arith)))
      (not_4 (get_or s at 0) (get_or s (at + 1) 0) (get_or s (at + 2) 0) (get_or s (at + 3) 0) (λ p q. omega arith))

  pub no_3rd : 0xE0 ≤ get_or s at 0 → get_or s at 0 < 0xF0 → utf8_3 (get_or s at 0) (get_or s (at + 1) 0) (get_or s (at + 2) 0) ≡ false
      → is_utf8 (slice at to s) ≡ false
  no_3rd l m e =
      none (omega arith) (not_2 (get_or s at 0) (get_or s (at + 1) 0) (λ p q. omega arith)) e
      (not_4 (get_or s at 0) (get_or s (at + 1) 0) (get_or s (at + 2) 0) (get_or s (at + 3) 0) (λ p q. omega arith))

  pub no_4th : 0xF0 ≤ get_or s at 0 → utf8_4 (get_or s at 0) (get_or s (at + 1) 0) (get_or s (at + 2) 0) (get_or s (at + 3) 0) ≡ false
      → is_utf8 (slice at to s) ≡ false
  no_4th l e =
      none (omega arith) (not_2 (get_or s at 0) (get_or s (at + 1) 0) (λ p q. omega arith))
      (sym (not_3 (get_or s at 0) (get_or s (at + 1) 0) (get_or s (at + 2) 0) (λ p q. omega arith))) e
