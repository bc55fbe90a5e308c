-- Laws on lines: words laid one behind the other, and the digits that `io::decimal` answers.
-- Assumes nothing.
use Rattle.std.specs.Prelude.{◌≡◌}
use Rattle.std.proofs.Common.{sym, ◌∙◌, length-drop, take_all, take_at, length-take-le, lt-ltb, le-ltb}
use Rattle.std.proofs.Math.Path.{ap}
use Prim.Native.Nat.{ℕ, zero, suc, ◌+◌, ◌-◌, ◌*◌, ◌/◌, ◌%◌, ◌^◌, ◌≤◌, ◌<◌}
use Rattle.std.proofs.Math.Nat.{pow-succ'}
use native.Mathlib.Omega.{arith}
use mathlib.Core.List.{List, [], ◌∷◌, ◌++◌, append_assoc}
use Rattle.std.proofs.Math.ListN.{length, take, drop, length-append}
use Rattle.std.proofs.Math.Seq.{paste, drop-drop, drop-append-add}
use Rattle.io.specs.Digits.{last_digits, hex_digit_ascii, IsDigitCount}
use Rattle.lines.specs.Lines.{decimal_f, decimal, laid, Lays}

-- ---- words

-- a word laid by copying all of it
pub laid_paste : (text : List ℕ) (at : ℕ) (word : List ℕ) → paste text at word (length word) ≡ laid text at word
unfolding laid
laid_paste text at word = ap (λ (w : List ℕ). take at text ++ w ++ drop (at + length word) text) (take_all (length word) word (omega arith))

-- what stands up to behind a word that was laid
pub laid_taken : (text text' : List ℕ) (at next : ℕ) (w : List ℕ) → at ≤ length text → Lays text at w next text' → take next text' ≡ take at text ++ w
unfolding laid
laid_taken text text' at next w h l =
    let e : length (take at text ++ w) ≡ next = length-append (take at text) w ∙ omega (arith, length-take-le at text h, l.behind) in
    ap (take next) l.whole ∙ take_at (take at text ++ w) (drop (at + length w) text) next e

-- laying a word changes no length
pub laid_length : (text text' : List ℕ) (at next : ℕ) (w : List ℕ) → next ≤ length text → Lays text at w next text' → length text' ≡ length text
unfolding laid
laid_length text text' at next w h l =
    ap length l.whole ∙ length-append (take at text ++ w) (drop (at + length w) text)
    ∙ omega (arith, length-append (take at text) w, length-take-le at text (omega (arith, l.behind)), length-drop (at + length w) text, l.behind)

module _ (text : List ℕ) (at : ℕ) (v w : List ℕ) (fits : at ≤ length text) where
  head : length (take at text ++ v) ≡ at + length v
  head = length-append (take at text) v ∙ omega (arith, length-take-le at text fits)

  -- one word, and another behind it
  laid_laid : laid (laid text at v) (at + length v) w ≡ laid text at (v ++ w)
  unfolding laid
  laid_laid =
      let p : List ℕ = take at text ++ v in
      let r : List ℕ = drop (at + length v) text in
      let n : length (v ++ w) ≡ length v + length w = length-append v w in
      let e : at + length v + length w ≡ at + length (v ++ w) = omega arith in
      ap (λ (x : List ℕ). x ++ w ++ drop (at + length v + length w) (p ++ r)) (take_at p r (at + length v) head)
      ∙ ap (λ (x : List ℕ). p ++ w ++ x) (
      ap (λ (k : ℕ). drop (k + length w) (p ++ r)) (sym head)
      ∙ drop-append-add p r (length w)
      ∙ drop-drop (length w) (at + length v) text
      ∙ ap (λ (k : ℕ). drop k text) e
      )
      ∙ ap (λ (x : List ℕ). x ++ drop (at + length (v ++ w)) text) (append_assoc (take at text) v w)

-- a run of words is one word
pub lays_then : {text text' text'' : List ℕ} {at next next' : ℕ} {v w : List ℕ} → at ≤ length text
    → Lays text at v next text' → Lays text' next w next' text'' → Lays text at (v ++ w) next' text''
lays_then {text} {text'} {text''} {at} {next} {next'} {v} {w} h a b = record {
  behind = omega (arith, a.behind, b.behind, length-append v w);
  whole = b.whole ∙ ap (λ (t : List ℕ). laid t next w) a.whole ∙ ap (λ (k : ℕ). laid (laid text at v) k w) a.behind ∙ laid_laid text at v w h;
}

-- ---- digits

below_power : (m : ℕ) → m < 10 ^ m
below_power zero = omega arith
below_power (suc m) = rw (pow-succ' 10 m) (omega (arith, below_power m))

glyph_digit : (d : ℕ) → d < 10 → hex_digit_ascii d ≡ 48 + d
glyph_digit d h = rw (lt-ltb d 10 h)

lower : (k n : ℕ) → IsDigitCount 10 1 n (suc (suc k)) → 10 ^ suc k ≤ n
lower k n w = let e : suc (suc k) - 1 ≡ suc k = omega arith in rw e at (w.2 (omega arith))

-- a digit less, a tenth
tenth : (k n : ℕ) → IsDigitCount 10 1 n (suc (suc k)) → IsDigitCount 10 1 (n / 10) (suc k)
tenth k n w =
    let u : n < 10 * 10 ^ suc k = rw (pow-succ' 10 (suc k)) at w.1 in
    let lo : 10 * 10 ^ k ≤ n = rw (pow-succ' 10 k) at (lower k n w) in
    let e : suc k - 1 ≡ k = omega arith in
    (omega arith, omega arith, λ h. rw e (omega arith))

ten : (k n : ℕ) → IsDigitCount 10 1 n (suc (suc k)) → 10 ≤ n
ten k n w = let lo : 10 * 10 ^ k ≤ n = rw (pow-succ' 10 k) at (lower k n w) in omega (arith, below_power k)

-- the fewest digits are the decimal ones
digits_decimal : (k f n : ℕ) → IsDigitCount 10 1 n k → k ≤ f → last_digits 10 k n ≡ decimal_f f n
unfolding decimal_f
digits_decimal zero f n w l = absurd (omega (arith, w.0))
digits_decimal (suc zero) zero n w l = absurd (omega arith)
digits_decimal (suc zero) (suc f) n w l =
    let h : n < 10 = w.1 in
    let e : n % 10 ≡ n = omega arith in
    rw (lt-ltb n 10 h) (ap (λ (d : ℕ). d ∷ []) (glyph_digit (n % 10) (omega arith) ∙ ap (λ (d : ℕ). 48 + d) e))
digits_decimal (suc (suc k)) zero n w l = absurd (omega arith)
digits_decimal (suc (suc k)) (suc f) n w l =
    rw (le-ltb n 10 (ten k n w), glyph_digit (n % 10) (omega arith))
    (ap (λ (x : List ℕ). x ++ ((48 + n % 10) ∷ [])) (digits_decimal (suc k) f (n / 10) (tenth k n w) (omega arith)))

-- so many steps are enough
enough : (k n : ℕ) → IsDigitCount 10 1 n k → k ≤ suc n
enough zero n w = omega arith
enough (suc zero) n w = omega arith
enough (suc (suc k)) n w = omega (arith, lower k n w, below_power (suc k))

pub decimal_fewest : (n k : ℕ) → IsDigitCount 10 1 n k → last_digits 10 k n ≡ decimal n
unfolding decimal
decimal_fewest n k w = digits_decimal k (suc n) n w (enough k n w)

-- a number below 10 ^ m has at most m digits
few_digits : (k m n : ℕ) → IsDigitCount 10 1 n k → n < 10 ^ suc m → k ≤ suc m
few_digits zero m n w h = omega arith
few_digits (suc zero) m n w h = omega arith
few_digits (suc (suc k)) zero n w h = absurd (omega (arith, ten k n w))
few_digits (suc (suc k)) (suc m) n w h =
    let u : n < 10 * 10 ^ suc m = rw (pow-succ' 10 (suc m)) at h in
    omega (arith, few_digits (suc k) m (n / 10) (tenth k n w) (omega arith))

pub twenty_digits : (n k : ℕ) → IsDigitCount 10 1 n k → n < 2 ^ 64 → k ≤ 20
twenty_digits n k w h = few_digits k 19 n w (omega arith)

pub lays_same : {text text' : List ℕ} {at next : ℕ} {v w : List ℕ} → v ≡ w → Lays text at v next text' → Lays text at w next text'
lays_same {text} {text'} {at} {next} {v} {w} e l = rw e at l
