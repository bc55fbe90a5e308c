-- What the scan of a number text means, said without scanning: which texts it accepts and as what, and that the place at which it is stuck is
-- the first at which no reading could go on.
-- Assumes nothing.
use Rattle.std.specs.Prelude.{ℕ, zero, suc, ◌+◌, ◌-◌, ◌*◌, ◌^◌, ◌≤◌, ◌<◌, List, [], ◌∷◌, Bool, true, false, cond, ◌&&◌, ◌≡◌, refl, leb, eqb, length, take}
use Rattle.std.proofs.lemmas.Bool.{false≢true}
use Rattle.std.proofs.Common.{ap, ◌∙◌, sym, subst, arith, add-one, zero-add, add_assoc, add-mul, mul_assoc, mul_comm, zero-mul, pow-suc, le-mul_of_pos_right, le-leb, leb-true, eqb-true, take-take}
use Rattle.std.proofs.Math.Nat.{one-le-pow}
use Rattle.theory.specs.Bools.{both}
use Rattle.theory.specs.Answer.{answer}
use Rattle.leaves_text.specs.NumberText.{is_digit, stuck, digits, some_digits, number_text}

-- every byte is a digit
unfoldable pub all_digits : List ℕ → Bool
all_digits [] = true
all_digits (b ∷ s) = is_digit b && all_digits s

-- the number that decimal digits say: each counts as often as ten to the power of the digits after it
unfoldable pub decimal : List ℕ → ℕ
decimal [] = 0
decimal (b ∷ s) = (b - 48) * 10 ^ length s + decimal s

-- one or more digits that say n, at most 4294967295
pub record Digits (s : List ℕ) (n : ℕ) : Type 0 where
  pub some : 0 < length s
  pub each : all_digits s ≡ true
  pub value : decimal s ≡ n
  pub fits : n ≤ 4294967295

-- such digits, or a `+` and then such digits
pub data Says : List ℕ → ℕ → Type 0 where
  bare : {s : List ℕ} {n : ℕ} → Digits s n → Says s n
  plus : {s : List ℕ} {n : ℕ} → Digits s n → Says (43 ∷ s) n

-- ---- one digit more

more : ℕ → ℕ → Bool
more v b = is_digit b && leb (v * 10 + (b - 48)) 4294967295

digits_cons : (p v b : ℕ) (s : List ℕ) → digits p v (b ∷ s) ≡ cond (more v b) (digits (p + 1) (v * 10 + (b - 48)) s) (stuck p)
unfolding digits more
digits_cons p v b s = refl

digits_none : (p v : ℕ) → digits p v [] ≡ answer 0 (v ∷ [])
unfolding digits
digits_none p v = refl

-- ten to the power of the digits that follow
shift : (v d n r : ℕ) → (v * 10 + d) * 10 ^ n + r ≡ v * 10 ^ suc n + (d * 10 ^ n + r)
shift v d n r =
    ap (λ (x : ℕ). x + r) (add-mul (v * 10) d (10 ^ n))
    ∙ add_assoc (v * 10 * 10 ^ n) (d * 10 ^ n) r
    ∙ ap (λ (x : ℕ). x + (d * 10 ^ n + r)) (mul_assoc v 10 (10 ^ n) ∙ ap (λ (x : ℕ). v * x) (mul_comm 10 (10 ^ n) ∙ sym (pow-suc 10 n)))

-- ---- the accepted texts

-- the value of v and then digits
total : ℕ → List ℕ → ℕ
total v s = v * 10 ^ length s + decimal s

total_none : (v : ℕ) → total v [] ≡ v
unfolding total decimal
total_none v = omega arith

total_more : (v b : ℕ) (s : List ℕ) → total (v * 10 + (b - 48)) s ≡ total v (b ∷ s)
unfolding total decimal
total_more v b s = shift v (b - 48) (length s) (decimal s)

total_up : (v : ℕ) (s : List ℕ) → v ≤ total v s
unfolding total
total_up v s = let l : v ≤ v * 10 ^ length s = le-mul_of_pos_right v (one-le-pow (length s) 10 (omega arith)) in omega arith

accepts_on : (s : List ℕ) (p v n b : ℕ) (t : Bool) → more v b ≡ t → cond t (digits (p + 1) (v * 10 + (b - 48)) s) (stuck p) ≡ answer 0 (n ∷ [])
    → (digits (p + 1) (v * 10 + (b - 48)) s ≡ answer 0 (n ∷ []) → v * 10 + (b - 48) ≤ 4294967295 → (all_digits s ≡ true) × (total (v * 10 + (b - 48)) s ≡ n) × (n ≤ 4294967295))
    → (all_digits (b ∷ s) ≡ true) × (total v (b ∷ s) ≡ n) × (n ≤ 4294967295)
unfolding more all_digits
accepts_on s p v n b true m e on =
    let d = both (is_digit b) (leb (v * 10 + (b - 48)) 4294967295) m in
    let r = on e (leb-true _ _ d.1) in
    (rw d.0 r.0, sym (total_more v b s) ∙ r.1, r.2)
accepts_on s p v n b false m e on = let z : ◌≡◌ {A = ℕ} 8 0 = cc in absurd (omega arith)

accepts : (s : List ℕ) (p v n : ℕ) → digits p v s ≡ answer 0 (n ∷ []) → v ≤ 4294967295 → (all_digits s ≡ true) × (total v s ≡ n) × (n ≤ 4294967295)
unfolding all_digits
accepts [] p v n e h =
    let q : v ≡ n = cc (digits_none p v) in
    (refl, total_none v ∙ q, omega arith)
accepts (b ∷ s) p v n e h =
    accepts_on s p v n b (more v b) refl (sym (digits_cons p v b s) ∙ e) (λ f l. accepts s (p + 1) (v * 10 + (b - 48)) n f l)

accepted : (s : List ℕ) (p v : ℕ) → all_digits s ≡ true → total v s ≤ 4294967295 → digits p v s ≡ answer 0 (total v s ∷ [])
unfolding more all_digits
accepted [] p v a h = digits_none p v ∙ ap (λ (n : ℕ). answer 0 (n ∷ [])) (sym (total_none v))
accepted (b ∷ s) p v a h =
    let d = both (is_digit b) (all_digits s) a in
    let k : total (v * 10 + (b - 48)) s ≤ 4294967295 = rw (total_more v b s) h in
    let l : v * 10 + (b - 48) ≤ 4294967295 = omega (arith, total_up (v * 10 + (b - 48)) s) in
    digits_cons p v b s
    ∙ rw (d.0, le-leb (v * 10 + (b - 48)) 4294967295 l)
    (accepted s (p + 1) (v * 10 + (b - 48)) d.1 k ∙ ap (λ (n : ℕ). answer 0 (n ∷ [])) (total_more v b s))

total_zero : (s : List ℕ) → total 0 s ≡ decimal s
unfolding total
total_zero s = ap (λ (n : ℕ). n + decimal s) (zero-mul (10 ^ length s)) ∙ zero-add (decimal s)

some_accepts : (s : List ℕ) (p n : ℕ) → some_digits p s ≡ answer 0 (n ∷ []) → Digits s n
unfolding some_digits
some_accepts [] p n e = let z : ◌≡◌ {A = ℕ} 8 0 = cc in absurd (omega arith)
some_accepts (b ∷ s) p n e =
    let a = accepts (b ∷ s) p 0 n e (omega arith) in
    record { some = omega arith; each = a.0; value = sym (total_zero (b ∷ s)) ∙ a.1; fits = a.2 }

some_accepted : (s : List ℕ) (p n : ℕ) → Digits s n → some_digits p s ≡ answer 0 (n ∷ [])
unfolding some_digits
some_accepted [] p n d = let l : 0 < 0 = d.some in absurd (omega arith)
some_accepted (b ∷ s) p n d =
    let v = d.value in
    let f = d.fits in
    accepted (b ∷ s) p 0 d.each (omega (arith, total_zero (b ∷ s))) ∙ ap (λ (m : ℕ). answer 0 (m ∷ [])) (total_zero (b ∷ s) ∙ v)

accepts_head : (b : ℕ) (s : List ℕ) (n : ℕ) (t : Bool) → eqb b 43 ≡ t → cond t (some_digits 1 s) (some_digits 0 (b ∷ s)) ≡ answer 0 (n ∷ []) → Says (b ∷ s) n
accepts_head b s n true q e = subst (λ (x : ℕ). Says (x ∷ s) n) (sym (eqb-true b 43 q)) (plus (some_accepts s 1 n e))
accepts_head b s n false q e = bare (some_accepts (b ∷ s) 0 n e)

plus_no_digit : (s : List ℕ) → all_digits (43 ∷ s) ≡ false
unfolding all_digits is_digit
plus_no_digit s = refl

accepted_head : (b : ℕ) (s : List ℕ) (n : ℕ) (t : Bool) → eqb b 43 ≡ t → Digits (b ∷ s) n → cond t (some_digits 1 s) (some_digits 0 (b ∷ s)) ≡ answer 0 (n ∷ [])
accepted_head b s n true q d =
    absurd (false≢true (sym (ap (λ (x : ℕ). all_digits (x ∷ s)) (eqb-true b 43 q) ∙ plus_no_digit s) ∙ d.each))
accepted_head b s n false q d = some_accepted (b ∷ s) 0 n d

-- a text is read as n exactly where it is an optional `+` and digits that say n
pub reads : (s : List ℕ) (n : ℕ) → number_text s ≡ answer 0 (n ∷ []) → Says s n
unfolding number_text
reads [] n e = let z : ◌≡◌ {A = ℕ} 8 0 = cc in absurd (omega arith)
reads (b ∷ s) n e = accepts_head b s n (eqb b 43) refl e

read_bare : (s : List ℕ) (n : ℕ) → Digits s n → number_text s ≡ answer 0 (n ∷ [])
unfolding number_text
read_bare [] n d = let l : 0 < 0 = d.some in absurd (omega arith)
read_bare (b ∷ s) n d = accepted_head b s n (eqb b 43) refl d

pub read : {s : List ℕ} {n : ℕ} → Says s n → number_text s ≡ answer 0 (n ∷ [])
unfolding number_text
read (bare {s} {n} d) = read_bare s n d
read (plus {s} {n} d) = some_accepted s 1 n d

-- ---- the place of a stuck reading

answers_differ : {n p : ℕ} → answer 0 (n ∷ []) ≡ stuck p → ⊥
answers_differ e = let z : ◌≡◌ {A = ℕ} 0 8 = cc in omega arith

same_place : {p q : ℕ} → stuck p ≡ stuck q → p ≡ q
same_place e = cc

stuck_after_on : (s : List ℕ) (p v q b : ℕ) (t : Bool) → cond t (digits (p + 1) (v * 10 + (b - 48)) s) (stuck p) ≡ stuck q
    → (digits (p + 1) (v * 10 + (b - 48)) s ≡ stuck q → p + 1 ≤ q) → p ≤ q
stuck_after_on s p v q b true e on = let l = on e in omega arith
stuck_after_on s p v q b false e on = let l : p ≡ q = same_place e in omega arith

stuck_after : (s : List ℕ) (p v q : ℕ) → digits p v s ≡ stuck q → p ≤ q
stuck_after [] p v q e = absurd (answers_differ (sym (digits_none p v) ∙ e))
stuck_after (b ∷ s) p v q e = stuck_after_on s p v q b (more v b) (sym (digits_cons p v b s) ∙ e) (stuck_after s (p + 1) (v * 10 + (b - 48)) q)

head_is : {a b : ℕ} {s t : List ℕ} → a ∷ s ≡ b ∷ t → a ≡ b
head_is e = cc

tail_is : {a b : ℕ} {s t : List ℕ} → a ∷ s ≡ b ∷ t → s ≡ t
tail_is e = cc

no_cons : {a : ℕ} {s : List ℕ} → [] ≡ a ∷ s → ⊥
no_cons e = let z : ◌≡◌ {A = ℕ} 0 1 = ap length' e in omega arith
  where
    length' : List ℕ → ℕ
    length' [] = 0
    length' (a ∷ s) = 1

-- texts that agree up to and including the byte at which the one is stuck are both stuck there
same_stuck : (s t : List ℕ) (p v i : ℕ) → digits p v s ≡ stuck (p + i) → take (suc i) t ≡ take (suc i) s → digits p v t ≡ stuck (p + i)
same_stuck [] t p v i e a = absurd (answers_differ (sym (digits_none p v) ∙ e))
same_stuck (b ∷ s) [] p v i e a = absurd (no_cons a)
same_stuck (b ∷ s) (c ∷ t) p v i e a = go i (more v b) refl (sym (digits_cons p v b s) ∙ e) (tail_is a) (λ j. same_stuck s t (p + 1) (v * 10 + (b - 48)) j)
  where
    same_byte : digits p v (b ∷ t) ≡ digits p v (c ∷ t)
    same_byte = ap (λ (x : ℕ). digits p v (x ∷ t)) (sym (head_is a))

    go : (k : ℕ) (u : Bool) → more v b ≡ u → cond u (digits (p + 1) (v * 10 + (b - 48)) s) (stuck p) ≡ stuck (p + k) → take k t ≡ take k s
        → ((j : ℕ) → digits (p + 1) (v * 10 + (b - 48)) s ≡ stuck (p + 1 + j) → take (suc j) t ≡ take (suc j) s → digits (p + 1) (v * 10 + (b - 48)) t ≡ stuck (p + 1 + j))
        → digits p v (c ∷ t) ≡ stuck (p + k)
    go k false m f g on = sym same_byte ∙ digits_cons p v b t ∙ rw m f
    go zero true m f g on = let l = stuck_after s (p + 1) (v * 10 + (b - 48)) (p + 0) f in absurd (omega arith)
    go (suc j) true m f g on =
        let q : p + suc j ≡ p + 1 + j = omega arith in
        sym same_byte ∙ digits_cons p v b t ∙ rw (m, q) (on j (f ∙ ap stuck q) g)

-- the bytes before it are read
prefix : (s : List ℕ) (p v i : ℕ) → digits p v s ≡ stuck (p + i) → (n : ℕ) × (digits p v (take i s) ≡ answer 0 (n ∷ []))
prefix s p v zero e = (v, digits_none p v)
prefix [] p v (suc i) e = absurd (answers_differ (sym (digits_none p v) ∙ e))
prefix (b ∷ s) p v (suc i) e = go (more v b) refl (sym (digits_cons p v b s) ∙ e) (prefix s (p + 1) (v * 10 + (b - 48)) i)
  where
    go : (u : Bool) → more v b ≡ u → cond u (digits (p + 1) (v * 10 + (b - 48)) s) (stuck p) ≡ stuck (p + suc i)
        → (digits (p + 1) (v * 10 + (b - 48)) s ≡ stuck (p + 1 + i) → (n : ℕ) × (digits (p + 1) (v * 10 + (b - 48)) (take i s) ≡ answer 0 (n ∷ [])))
        → (n : ℕ) × (digits p v (b ∷ take i s) ≡ answer 0 (n ∷ []))
    go false m f on = let l : p ≡ p + suc i = same_place f in absurd (omega arith)
    go true m f on =
        let q : p + suc i ≡ p + 1 + i = omega arith in
        let r = on (f ∙ ap stuck q) in
        (r.0, digits_cons p v b (take i s) ∙ rw m r.1)

-- ---- one or more digits

some_cons : (p b : ℕ) (s : List ℕ) → some_digits p (b ∷ s) ≡ digits p 0 (b ∷ s)
unfolding some_digits
some_cons p b s = refl

some_none : (p : ℕ) → some_digits p [] ≡ stuck p
unfolding some_digits
some_none p = refl

some_after : (s : List ℕ) (p q : ℕ) → some_digits p s ≡ stuck q → p ≤ q
some_after [] p q e = let l : p ≡ q = same_place (sym (some_none p) ∙ e) in omega arith
some_after (b ∷ s) p q e = stuck_after (b ∷ s) p 0 q (sym (some_cons p b s) ∙ e)

some_same : (s t : List ℕ) (p i : ℕ) → some_digits p s ≡ stuck (p + i) → take (suc i) t ≡ take (suc i) s → some_digits p t ≡ stuck (p + i)
some_same [] [] p i e a = e
some_same [] (c ∷ t) p i e a = absurd (no_cons (sym a))
some_same (b ∷ s) [] p i e a = absurd (no_cons a)
some_same (b ∷ s) (c ∷ t) p i e a = some_cons p c t ∙ same_stuck (b ∷ s) (c ∷ t) p 0 i (sym (some_cons p b s) ∙ e) a

zero_reads : (p : ℕ) → some_digits p (48 ∷ []) ≡ answer 0 (0 ∷ [])
unfolding some_digits digits is_digit
zero_reads p = refl

-- a text that begins with the bytes before the place, and what it is read as
pub record Goes (s : List ℕ) (p : ℕ) : Type 0 where
  pub text : List ℕ
  pub number : ℕ
  pub agrees : take p text ≡ take p s
  pub is : number_text text ≡ answer 0 (number ∷ [])

some_prefix : (s : List ℕ) (p i : ℕ) → some_digits p s ≡ stuck (p + i) → (t : List ℕ) × (n : ℕ) × (take i t ≡ take i s) × (some_digits p t ≡ answer 0 (n ∷ []))
some_prefix s p zero e = (48 ∷ [], 0, refl, zero_reads p)
some_prefix [] p (suc i) e = let l : p ≡ p + suc i = same_place (sym (some_none p) ∙ e) in absurd (omega arith)
some_prefix (b ∷ s) p (suc i) e =
    let r = prefix (b ∷ s) p 0 (suc i) (sym (some_cons p b s) ∙ e) in
    (b ∷ take i s, r.0, ap (λ (l : List ℕ). b ∷ l) (take-take i i s (omega arith)), some_cons p b (take i s) ∙ r.1)

-- ---- the text

number_none : number_text [] ≡ stuck 0
unfolding number_text
number_none = refl

number_cons : (b : ℕ) (s : List ℕ) → number_text (b ∷ s) ≡ cond (eqb b 43) (some_digits 1 s) (some_digits 0 (b ∷ s))
unfolding number_text
number_cons b s = refl

there : (s t : List ℕ) (p : ℕ) → number_text s ≡ stuck p → take (suc p) t ≡ take (suc p) s → number_text t ≡ stuck p
there [] [] p e a = e
there [] (c ∷ t) p e a = absurd (no_cons (sym a))
there (b ∷ s) [] p e a = absurd (no_cons a)
there (b ∷ s) (c ∷ t) p e a = go (eqb b 43) refl (sym (number_cons b s) ∙ e)
  where
    same_byte : number_text (c ∷ t) ≡ number_text (b ∷ t)
    same_byte = ap (λ (x : ℕ). number_text (x ∷ t)) (head_is a)

    go : (u : Bool) → eqb b 43 ≡ u → cond u (some_digits 1 s) (some_digits 0 (b ∷ s)) ≡ stuck p → number_text (c ∷ t) ≡ stuck p
    go true m f =
        let l = some_after s 1 p f in
        let q : p ≡ 1 + (p - 1) = omega arith in
        let k : p ≡ suc (p - 1) = omega arith in
        let g : take (suc (p - 1)) t ≡ take (suc (p - 1)) s = subst (λ (n : ℕ). take n t ≡ take n s) k (tail_is a) in
        same_byte ∙ number_cons b t ∙ rw m (some_same s t 1 (p - 1) (f ∙ ap stuck q) g ∙ ap stuck (sym q))
    go false m f =
        let q : p ≡ 0 + p = omega arith in
        same_byte ∙ number_cons b t ∙ rw m (some_same (b ∷ s) (b ∷ t) 0 p (f ∙ ap stuck q) (ap (λ (l : List ℕ). b ∷ l) (tail_is a)) ∙ ap stuck (sym q))

-- no text that agrees with this one up to and including the place where this one is stuck, its end counting as a byte, is accepted: each is
-- stuck there
pub stuck_there : (s t : List ℕ) (p : ℕ) → number_text s ≡ stuck p → take (p + 1) t ≡ take (p + 1) s → number_text t ≡ stuck p
stuck_there s t p e a = there s t p e (rw add-one at a)

-- and some text that agrees with it before that place is accepted
pub goes_before : (s : List ℕ) (p : ℕ) → number_text s ≡ stuck p → Goes s p
goes_before [] p e =
    let q : 0 ≡ p = same_place (sym number_none ∙ e) in
    subst (Goes []) q record { text = 48 ∷ []; number = 0; agrees = refl; is = number_cons 48 [] ∙ zero_reads 0 }
goes_before (b ∷ s) p e = go (eqb b 43) refl (sym (number_cons b s) ∙ e)
  where
    go : (u : Bool) → eqb b 43 ≡ u → cond u (some_digits 1 s) (some_digits 0 (b ∷ s)) ≡ stuck p → Goes (b ∷ s) p
    go true m f =
        let l = some_after s 1 p f in
        let q : p ≡ 1 + (p - 1) = omega arith in
        let k : suc (p - 1) ≡ p = omega arith in
        let r = some_prefix s 1 (p - 1) (f ∙ ap stuck q) in
        subst (Goes (b ∷ s)) k
        record {
          text = b ∷ r.0;
          number = r.1;
          agrees = ap (λ (x : List ℕ). b ∷ x) r.2;
          is = number_cons b r.0 ∙ rw m r.3;
        }
    go false m f =
        let q : p ≡ 0 + p = omega arith in
        let r = some_prefix (b ∷ s) 0 p (f ∙ ap stuck q) in
        record { text = r.0; number = r.1; agrees = r.2; is = read_bare r.0 r.1 (some_accepts r.0 0 r.1 r.3) }
