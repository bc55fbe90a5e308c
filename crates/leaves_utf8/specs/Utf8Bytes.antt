-- What the bytes of a UTF8-char tell of its production, byte by byte. Assumes nothing.
use Rattle.std.specs.Prelude.{ℕ, ◌+◌, ◌≤◌, ◌<◌, Bool, false, ◌&&◌, ◌||◌, ◌≡◌, refl, leb}
use Rattle.std.proofs.Math.Bool.{true}
use Rattle.std.proofs.lemmas.Bool.{false≢true}
use Rattle.std.proofs.Common.{ap, ◌∙◌, sym, arith}
use Rattle.std.proofs.Math.Decide.{dec_lt}
use borrow.Author.Tests.{leb-true, leb-false, le-leb}
use Rattle.leaves_utf8.specs.Utf8.{within, is_tail, utf8_1, utf8_2, three, begins_3, utf8_3, four, begins_4, utf8_4}
use Rattle.theory.specs.Bools.{both, and_false}

-- ---- a byte within bounds, or not

pub within_yes : (low high x : ℕ) → low ≤ x → x ≤ high → within low high x ≡ true
unfolding within
within_yes low high x h k = rw (le-leb low x h, le-leb x high k)

pub within_no : (low high x : ℕ) → (low ≤ x → x ≤ high → ⊥) → within low high x ≡ false
unfolding within
within_no low high x f = go (within low high x) refl
  where
    halves : within low high x ≡ true → ⊥
    halves e = let h = both (leb low x) (leb x high) e in f (leb-true low x h.0) (leb-true x high h.1)

    go : (t : Bool) → within low high x ≡ t → within low high x ≡ false
    go true e = absurd (halves e)
    go false e = e

within_not : (low high x : ℕ) → within low high x ≡ false → low ≤ x → x ≤ high → ⊥
within_not low high x e h k = false≢true (sym e ∙ within_yes low high x h k)

-- ---- the alternatives of UTF8-3

module _ (from to low high a b c : ℕ) where
  three_yes : from ≤ a → a ≤ to → low ≤ b → b ≤ high → is_tail c ≡ true → three from to low high a b c ≡ true
  unfolding three
  three_yes p q r t e = rw (within_yes from to a p q, within_yes low high b r t, e)

  three_1st : (from ≤ a → a ≤ to → ⊥) → three from to low high a b c ≡ false
  unfolding three
  three_1st f = rw (within_no from to a f)

  three_2nd : (low ≤ b → b ≤ high → ⊥) → three from to low high a b c ≡ false
  unfolding three
  three_2nd f = rw (within_no low high b f, and_false (within from to a))

  three_3rd : is_tail c ≡ false → three from to low high a b c ≡ false
  unfolding three
  three_3rd e = rw e (and_false (within from to a && within low high b))

rise : {m a : ℕ} → m ≤ a → (a ≡ m → ⊥) → m + 1 ≤ a
rise {m} {a} h d = omega arith

module _ (a b c : ℕ) where
  third : {t1 t2 t3 t4 : Bool} → three 0xE0 0xE0 0xA0 0xBF a b c ≡ t1 → three 0xE1 0xEC 0x80 0xBF a b c ≡ t2
      → three 0xED 0xED 0x80 0x9F a b c ≡ t3 → three 0xEE 0xEF 0x80 0xBF a b c ≡ t4 → (t1 || t2 || t3 || t4) ≡ utf8_3 a b c
  unfolding utf8_3
  third e1 e2 e3 e4 = rw (e1, e2, e3, e4)

  -- a first byte that no alternative has
  pub not_3 : (0xE0 ≤ a → a ≤ 0xEF → ⊥) → false ≡ utf8_3 a b c
  not_3 f =
      third
      (three_1st 0xE0 0xE0 0xA0 0xBF a b c (λ p q. f (omega arith) (omega arith)))
      (three_1st 0xE1 0xEC 0x80 0xBF a b c (λ p q. f (omega arith) (omega arith)))
      (three_1st 0xED 0xED 0x80 0x9F a b c (λ p q. f (omega arith) (omega arith)))
      (three_1st 0xEE 0xEF 0x80 0xBF a b c (λ p q. f (omega arith) (omega arith)))

  pub third_out : within 0xE0 0xEF a ≡ false → false ≡ utf8_3 a b c
  third_out e = not_3 (within_not 0xE0 0xEF a e)

  -- a second byte that is no UTF8-tail
  pub third_2nd : is_tail b ≡ false → false ≡ utf8_3 a b c
  third_2nd e =
      third
      (three_2nd 0xE0 0xE0 0xA0 0xBF a b c (λ p q. within_not 0x80 0xBF b e (omega arith) (omega arith)))
      (three_2nd 0xE1 0xEC 0x80 0xBF a b c (λ p q. within_not 0x80 0xBF b e (omega arith) (omega arith)))
      (three_2nd 0xED 0xED 0x80 0x9F a b c (λ p q. within_not 0x80 0xBF b e (omega arith) (omega arith)))
      (three_2nd 0xEE 0xEF 0x80 0xBF a b c (λ p q. within_not 0x80 0xBF b e (omega arith) (omega arith)))

  -- a third byte that is none
  pub third_3rd : is_tail c ≡ false → false ≡ utf8_3 a b c
  third_3rd e = third (three_3rd _ _ _ _ a b c e) (three_3rd _ _ _ _ a b c e) (three_3rd _ _ _ _ a b c e) (three_3rd _ _ _ _ a b c e)

  module _ (tb : is_tail b ≡ true) (tc : is_tail c ≡ true) where
    bounds : (0x80 ≤ b) × (b ≤ 0xBF)
    unfolding within
    bounds = let h = both (leb 0x80 b) (leb b 0xBF) tb in (leb-true 0x80 b h.0, leb-true b 0xBF h.1)

    pub third_e0 : a ≡ 0xE0 → leb 0xA0 b ≡ utf8_3 a b c
    third_e0 e = go (leb 0xA0 b) refl
      where
        go : (t : Bool) → leb 0xA0 b ≡ t → t ≡ utf8_3 a b c
        go true h =
            let l : 0xA0 ≤ b = leb-true 0xA0 b h in
            third
            (three_yes 0xE0 0xE0 0xA0 0xBF a b c (omega arith) (omega arith) l bounds.1 tc)
            (three_1st 0xE1 0xEC 0x80 0xBF a b c (λ p q. omega arith))
            (three_1st 0xED 0xED 0x80 0x9F a b c (λ p q. omega arith))
            (three_1st 0xEE 0xEF 0x80 0xBF a b c (λ p q. omega arith))
        go false h =
            let l : b < 0xA0 = leb-false 0xA0 b h in
            third
            (three_2nd 0xE0 0xE0 0xA0 0xBF a b c (λ p q. omega arith))
            (three_1st 0xE1 0xEC 0x80 0xBF a b c (λ p q. omega arith))
            (three_1st 0xED 0xED 0x80 0x9F a b c (λ p q. omega arith))
            (three_1st 0xEE 0xEF 0x80 0xBF a b c (λ p q. omega arith))

    pub third_ed : a ≡ 0xED → leb b 0x9F ≡ utf8_3 a b c
    third_ed e = go (leb b 0x9F) refl
      where
        go : (t : Bool) → leb b 0x9F ≡ t → t ≡ utf8_3 a b c
        go true h =
            let l : b ≤ 0x9F = leb-true b 0x9F h in
            third
            (three_1st 0xE0 0xE0 0xA0 0xBF a b c (λ p q. omega arith))
            (three_1st 0xE1 0xEC 0x80 0xBF a b c (λ p q. omega arith))
            (three_yes 0xED 0xED 0x80 0x9F a b c (omega arith) (omega arith) bounds.0 l tc)
            (three_1st 0xEE 0xEF 0x80 0xBF a b c (λ p q. omega arith))
        go false h =
            let l : 0x9F < b = leb-false b 0x9F h in
            third
            (three_1st 0xE0 0xE0 0xA0 0xBF a b c (λ p q. omega arith))
            (three_1st 0xE1 0xEC 0x80 0xBF a b c (λ p q. omega arith))
            (three_2nd 0xED 0xED 0x80 0x9F a b c (λ p q. omega arith))
            (three_1st 0xEE 0xEF 0x80 0xBF a b c (λ p q. omega arith))

    pub third_else : within 0xE0 0xEF a ≡ true → (a ≡ 0xE0 → ⊥) → (a ≡ 0xED → ⊥) → true ≡ utf8_3 a b c
    unfolding within
    third_else e x y = go (dec_lt a 0xED)
      where
        go : Dec (a < 0xED) → true ≡ utf8_3 a b c
        go (yes l) =
            let h = leb-true 0xE0 a (both (leb 0xE0 a) (leb a 0xEF) e).0 in
            third
            (three_1st 0xE0 0xE0 0xA0 0xBF a b c (λ p q. x (omega arith)))
            (three_yes 0xE1 0xEC 0x80 0xBF a b c (rise h x) (omega arith) bounds.0 bounds.1 tc)
            (three_1st 0xED 0xED 0x80 0x9F a b c (λ p q. omega arith))
            (three_1st 0xEE 0xEF 0x80 0xBF a b c (λ p q. omega arith))
        go (no l) =
            let h = leb-true a 0xEF (both (leb 0xE0 a) (leb a 0xEF) e).1 in
            third
            (three_1st 0xE0 0xE0 0xA0 0xBF a b c (λ p q. omega arith))
            (three_1st 0xE1 0xEC 0x80 0xBF a b c (λ p q. omega arith))
            (three_1st 0xED 0xED 0x80 0x9F a b c (λ p q. y (omega arith)))
            (three_yes 0xEE 0xEF 0x80 0xBF a b c (rise (omega arith) y) h bounds.0 bounds.1 tc)

or_and : (p q r : Bool) → ((p && r) || (q && r)) ≡ ((p || q) && r)
or_and true true true = refl
or_and true true false = refl
or_and true false true = refl
or_and true false false = refl
or_and false q r = refl

-- the first two bytes, then a UTF8-tail
pub by_two_3 : (a b c : ℕ) → (begins_3 a b && is_tail c) ≡ utf8_3 a b c
unfolding begins_3 utf8_3 three
by_two_3 a b c =
    let t = is_tail c in
    let p = within 0xE0 0xE0 a && within 0xA0 0xBF b in
    let q = within 0xE1 0xEC a && is_tail b in
    let r = within 0xED 0xED a && within 0x80 0x9F b in
    let s = within 0xEE 0xEF a && is_tail b in
    sym (ap (λ (x : Bool). x || (r && t) || (s && t)) (or_and p q t) ∙ ap (λ (x : Bool). x || (s && t)) (or_and (p || q) r t) ∙ or_and (p || q || r) s t)

-- and two
pub by_two_4 : (a b c d : ℕ) → (begins_4 a b && is_tail c && is_tail d) ≡ utf8_4 a b c d
unfolding begins_4 utf8_4 four three
by_two_4 a b c d =
    let t = is_tail c in
    let u = is_tail d in
    let p = within 0xF0 0xF0 a && within 0x90 0xBF b in
    let q = within 0xF1 0xF3 a && is_tail b in
    let r = within 0xF4 0xF4 a && within 0x80 0x8F b in
    sym
    (ap (λ (x : Bool). x || (r && t && u)) (or_and (p && t) (q && t) u)
    ∙ ap (λ (x : Bool). (x && u) || (r && t && u)) (or_and p q t)
    ∙ or_and ((p || q) && t) (r && t) u
    ∙ ap (λ (x : Bool). x && u) (or_and (p || q) r t))

-- ---- what a first byte says of the other productions

pub yes_1 : (a : ℕ) → a ≤ 0x7F → utf8_1 a ≡ true
yes_1 a h = within_yes 0x00 0x7F a (omega arith) h

pub not_1 : (a : ℕ) → 0x80 ≤ a → utf8_1 a ≡ false
not_1 a h = within_no 0x00 0x7F a (λ p q. omega arith)

pub not_2 : (a b : ℕ) → (0xC2 ≤ a → a ≤ 0xDF → ⊥) → utf8_2 a b ≡ false
unfolding utf8_2
not_2 a b f = rw (within_no 0xC2 0xDF a f)

pub not_4 : (a b c d : ℕ) → (0xF0 ≤ a → a ≤ 0xF4 → ⊥) → utf8_4 a b c d ≡ false
unfolding utf8_4 four
not_4 a b c d f =
    rw (
      three_1st 0xF0 0xF0 0x90 0xBF a b c (λ p q. f (omega arith) (omega arith)),
      three_1st 0xF1 0xF3 0x80 0xBF a b c (λ p q. f (omega arith) (omega arith)),
      three_1st 0xF4 0xF4 0x80 0x8F a b c (λ p q. f (omega arith) (omega arith)),
    )
