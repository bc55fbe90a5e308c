-- RFC 3629, section 4, as a grammar: what a derivation is. The test `is_utf8` answers true exactly where there is one.
-- Assumes nothing.
use Rattle.std.specs.Prelude.{ℕ, ◌≤◌, ◌<◌, List, [], ◌∷◌, ◌++◌, Bool, true, false, cond, ◌&&◌, ◌||◌, ◌⊎◌, ◌≡◌, refl, leb}
use Rattle.std.proofs.lemmas.Bool.{false≢true, lt-leb}
use Rattle.std.proofs.Common.{inl, inr, ⊎_elim, ◌∙◌, arith, le-leb, leb-true}
use Rattle.leaves_utf8.specs.Utf8.{within, is_tail, utf8_1, utf8_2, three, utf8_3, four, utf8_4, is_utf8, from_2, from_3, from_4}
use Rattle.leaves_utf8.specs.Utf8Laws.{is_1, is_2, is_3, is_4}
use Rattle.theory.specs.Bools.{both, and_false}

-- %xLOW-HIGH
pub record In (low high x : ℕ) : Type 0 where
  pub least : low ≤ x
  pub most : x ≤ high

-- UTF8-char = UTF8-1 / UTF8-2 / UTF8-3 / UTF8-4
pub data Char : List ℕ → Type 0 where
  -- UTF8-1 = %x00-7F
  char_1 : {a : ℕ} → In 0x00 0x7F a → Char (a ∷ [])
  -- UTF8-2 = %xC2-DF UTF8-tail
  char_2 : {a b : ℕ} → In 0xC2 0xDF a → In 0x80 0xBF b → Char (a ∷ b ∷ [])
  -- UTF8-3 = %xE0 %xA0-BF UTF8-tail / %xE1-EC 2( UTF8-tail ) / %xED %x80-9F UTF8-tail / %xEE-EF 2( UTF8-tail )
  char_3_1 : {a b c : ℕ} → In 0xE0 0xE0 a → In 0xA0 0xBF b → In 0x80 0xBF c → Char (a ∷ b ∷ c ∷ [])
  char_3_2 : {a b c : ℕ} → In 0xE1 0xEC a → In 0x80 0xBF b → In 0x80 0xBF c → Char (a ∷ b ∷ c ∷ [])
  char_3_3 : {a b c : ℕ} → In 0xED 0xED a → In 0x80 0x9F b → In 0x80 0xBF c → Char (a ∷ b ∷ c ∷ [])
  char_3_4 : {a b c : ℕ} → In 0xEE 0xEF a → In 0x80 0xBF b → In 0x80 0xBF c → Char (a ∷ b ∷ c ∷ [])
  -- UTF8-4 = %xF0 %x90-BF 2( UTF8-tail ) / %xF1-F3 3( UTF8-tail ) / %xF4 %x80-8F 2( UTF8-tail )
  char_4_1 : {a b c d : ℕ} → In 0xF0 0xF0 a → In 0x90 0xBF b → In 0x80 0xBF c → In 0x80 0xBF d → Char (a ∷ b ∷ c ∷ d ∷ [])
  char_4_2 : {a b c d : ℕ} → In 0xF1 0xF3 a → In 0x80 0xBF b → In 0x80 0xBF c → In 0x80 0xBF d → Char (a ∷ b ∷ c ∷ d ∷ [])
  char_4_3 : {a b c d : ℕ} → In 0xF4 0xF4 a → In 0x80 0x8F b → In 0x80 0xBF c → In 0x80 0xBF d → Char (a ∷ b ∷ c ∷ d ∷ [])

-- UTF8-octets = *( UTF8-char )
pub data Octets : List ℕ → Type 0 where
  none : Octets []
  more : {c s : List ℕ} → Char c → Octets s → Octets (c ++ s)

-- ---- a range's test, both ways

yes : {low high x : ℕ} → In low high x → within low high x ≡ true
unfolding within
yes i = rw (le-leb _ _ i.least, le-leb _ _ i.most)

over : (low : ℕ) {high x : ℕ} → high < x → within low high x ≡ false
unfolding within
over low {high} {x} h = rw (lt-leb x high h) (and_false (leb low x))

in_range : (low high x : ℕ) → within low high x ≡ true → In low high x
unfolding within
in_range low high x e =
    let p = both (leb low x) (leb x high) e in
    record { least = leb-true _ _ p.0; most = leb-true _ _ p.1 }

or_true : (t : Bool) → (t || true) ≡ true
or_true true = refl
or_true false = refl

-- ---- a derivation is accepted

no_1 : {a : ℕ} → 0x7F < a → utf8_1 a ≡ false
no_1 h = over 0x00 h

no_2 : {a : ℕ} (b : ℕ) → 0xDF < a → utf8_2 a b ≡ false
unfolding utf8_2
no_2 b h = rw (over 0xC2 h)

no_three : (from to low high : ℕ) {a : ℕ} (b c : ℕ) → to < a → three from to low high a b c ≡ false
unfolding three
no_three from to low high b c h = rw (over from h)

no_3 : {a : ℕ} (b c : ℕ) → 0xEF < a → utf8_3 a b c ≡ false
unfolding utf8_3
no_3 {a} b c h =
    let l1 : 0xE0 < a = omega arith in
    let l2 : 0xEC < a = omega arith in
    let l3 : 0xED < a = omega arith in
    rw (no_three 0xE0 0xE0 0xA0 0xBF b c l1, no_three 0xE1 0xEC 0x80 0xBF b c l2, no_three 0xED 0xED 0x80 0x9F b c l3, no_three 0xEE 0xEF 0x80 0xBF b c h)

yes_2 : {a b : ℕ} → In 0xC2 0xDF a → In 0x80 0xBF b → utf8_2 a b ≡ true
unfolding utf8_2
yes_2 i j = rw (yes i, yes j)

yes_three : {from to low high a b c : ℕ} → In from to a → In low high b → In 0x80 0xBF c → three from to low high a b c ≡ true
unfolding three
yes_three i j k = rw (yes i, yes j, yes k)

yes_four : {from to low high a b c d : ℕ} → In from to a → In low high b → In 0x80 0xBF c → In 0x80 0xBF d → four from to low high a b c d ≡ true
unfolding four
yes_four i j k l = rw (yes_three i j k, yes l)

accept_3 : (a b c : ℕ) (s : List ℕ) → 0xDF < a → utf8_3 a b c ≡ true → is_utf8 s ≡ true → is_utf8 (a ∷ b ∷ c ∷ s) ≡ true
accept_3 a b c s h e on =
    let l : 0x7F < a = omega arith in
    is_3 a b c s (no_1 l) (no_2 b h) e ∙ on

accept_4 : (a b c d : ℕ) (s : List ℕ) → 0xEF < a → utf8_4 a b c d ≡ true → is_utf8 s ≡ true → is_utf8 (a ∷ b ∷ c ∷ d ∷ s) ≡ true
accept_4 a b c d s h e on =
    let l : 0x7F < a = omega arith in
    let k : 0xDF < a = omega arith in
    is_4 a b c d s (no_1 l) (no_2 b k) (no_3 b c h) e ∙ on

-- every derivation is accepted
pub complete : {s : List ℕ} → Octets s → is_utf8 s ≡ true
unfolding is_utf8 utf8_3 utf8_4
complete none = refl
complete (more {s = s} (char_1 {a} i) o) = is_1 a s (yes i) ∙ complete o
complete (more {s = s} (char_2 {a} {b} i j) o) = let h = i.least in is_2 a b s (no_1 (omega arith)) (yes_2 i j) ∙ complete o
complete (more {s = s} (char_3_1 {a} {b} {c} i j k) o) = let h = i.least in accept_3 a b c s (omega arith) (rw (yes_three i j k)) (complete o)
complete (more {s = s} (char_3_2 {a} {b} {c} i j k) o) = let h = i.least in accept_3 a b c s (omega arith) (simp (yes_three i j k, or_true)) (complete o)
complete (more {s = s} (char_3_3 {a} {b} {c} i j k) o) = let h = i.least in accept_3 a b c s (omega arith) (simp (yes_three i j k, or_true)) (complete o)
complete (more {s = s} (char_3_4 {a} {b} {c} i j k) o) = let h = i.least in accept_3 a b c s (omega arith) (simp (yes_three i j k, or_true)) (complete o)
complete (more {s = s} (char_4_1 {a} {b} {c} {d} i j k l) o) = let h = i.least in accept_4 a b c d s (omega arith) (rw (yes_four i j k l)) (complete o)
complete (more {s = s} (char_4_2 {a} {b} {c} {d} i j k l) o) = let h = i.least in accept_4 a b c d s (omega arith) (simp (yes_four i j k l, or_true)) (complete o)
complete (more {s = s} (char_4_3 {a} {b} {c} {d} i j k l) o) = let h = i.least in accept_4 a b c d s (omega arith) (simp (yes_four i j k l, or_true)) (complete o)

-- ---- what is accepted has a derivation

-- of one of two
either : (t u : Bool) → (t || u) ≡ true → (t ≡ true) ⊎ (u ≡ true)
either true u e = inl refl
either false u e = inr e

of_2 : (a b : ℕ) → utf8_2 a b ≡ true → Char (a ∷ b ∷ [])
unfolding utf8_2
of_2 a b e =
    let p = both (within 0xC2 0xDF a) (is_tail b) e in
    char_2 (in_range _ _ a p.0) (in_range _ _ b p.1)

of_three : (from to low high a b c : ℕ) → three from to low high a b c ≡ true → In from to a × In low high b × In 0x80 0xBF c
unfolding three
of_three from to low high a b c e =
    let p = both (within from to a && within low high b) (is_tail c) e in
    let q = both (within from to a) (within low high b) p.0 in
    (in_range _ _ a q.0, in_range _ _ b q.1, in_range _ _ c p.1)

of_four : (from to low high a b c d : ℕ) → four from to low high a b c d ≡ true → In from to a × In low high b × In 0x80 0xBF c × In 0x80 0xBF d
unfolding four
of_four from to low high a b c d e =
    let p = both (three from to low high a b c) (is_tail d) e in
    let q = of_three from to low high a b c p.0 in
    (q.0, q.1, q.2, in_range _ _ d p.1)

of_3 : (a b c : ℕ) → utf8_3 a b c ≡ true → Char (a ∷ b ∷ c ∷ [])
unfolding utf8_3
of_3 a b c e =
    ⊎_elim
    (λ f. ⊎_elim
    (λ g. ⊎_elim
    (λ h. let q = of_three 0xE0 0xE0 0xA0 0xBF a b c h in char_3_1 q.0 q.1 q.2)
    (λ h. let q = of_three 0xE1 0xEC 0x80 0xBF a b c h in char_3_2 q.0 q.1 q.2)
    (either (three 0xE0 0xE0 0xA0 0xBF a b c) (three 0xE1 0xEC 0x80 0xBF a b c) g))
    (λ g. let q = of_three 0xED 0xED 0x80 0x9F a b c g in char_3_3 q.0 q.1 q.2)
    (either (three 0xE0 0xE0 0xA0 0xBF a b c || three 0xE1 0xEC 0x80 0xBF a b c) (three 0xED 0xED 0x80 0x9F a b c) f))
    (λ f. let q = of_three 0xEE 0xEF 0x80 0xBF a b c f in char_3_4 q.0 q.1 q.2)
    (either (three 0xE0 0xE0 0xA0 0xBF a b c || three 0xE1 0xEC 0x80 0xBF a b c || three 0xED 0xED 0x80 0x9F a b c) (three 0xEE 0xEF 0x80 0xBF a b c) e)

of_4 : (a b c d : ℕ) → utf8_4 a b c d ≡ true → Char (a ∷ b ∷ c ∷ d ∷ [])
unfolding utf8_4
of_4 a b c d e =
    ⊎_elim
    (λ f. ⊎_elim
    (λ g. let q = of_four 0xF0 0xF0 0x90 0xBF a b c d g in char_4_1 q.0 q.1 q.2 q.3)
    (λ g. let q = of_four 0xF1 0xF3 0x80 0xBF a b c d g in char_4_2 q.0 q.1 q.2 q.3)
    (either (four 0xF0 0xF0 0x90 0xBF a b c d) (four 0xF1 0xF3 0x80 0xBF a b c d) f))
    (λ f. let q = of_four 0xF4 0xF4 0x80 0x8F a b c d f in char_4_3 q.0 q.1 q.2 q.3)
    (either (four 0xF0 0xF0 0x90 0xBF a b c d || four 0xF1 0xF3 0x80 0xBF a b c d) (four 0xF4 0xF4 0x80 0x8F a b c d) e)

-- of the first test that holds
step : (t : Bool) (x y : Bool) {P : Type 0} → (t ≡ true → x ≡ true → P) → (y ≡ true → P) → cond t x y ≡ true → P
step true x y f g e = f refl e
step false x y f g e = g e

-- what is accepted has a derivation
mutual
  unfolding is_utf8

  pub sound : (s : List ℕ) → is_utf8 s ≡ true → Octets s
  sound [] e = none
  sound (a ∷ s) e = step (utf8_1 a) (is_utf8 s) (from_2 s a) (λ t f. more (char_1 (in_range _ _ a t)) (sound s f)) (λ z. sound_2 s a z) e

  sound_2 : (s : List ℕ) (a : ℕ) → from_2 s a ≡ true → Octets (a ∷ s)
  sound_2 [] a e = absurd (false≢true e)
  sound_2 (b ∷ s) a e = step (utf8_2 a b) (is_utf8 s) (from_3 s a b) (λ t f. more (of_2 a b t) (sound s f)) (λ z. sound_3 s a b z) e

  sound_3 : (s : List ℕ) (a b : ℕ) → from_3 s a b ≡ true → Octets (a ∷ b ∷ s)
  sound_3 [] a b e = absurd (false≢true e)
  sound_3 (c ∷ s) a b e = step (utf8_3 a b c) (is_utf8 s) (from_4 s a b c) (λ t f. more (of_3 a b c t) (sound s f)) (λ z. sound_4 s a b c z) e

  sound_4 : (s : List ℕ) (a b c : ℕ) → from_4 s a b c ≡ true → Octets (a ∷ b ∷ c ∷ s)
  sound_4 [] a b c e = absurd (false≢true e)
  sound_4 (d ∷ s) a b c e = step (utf8_4 a b c d) (is_utf8 s) false (λ t f. more (of_4 a b c d t) (sound s f)) (λ z. absurd (false≢true z)) e
