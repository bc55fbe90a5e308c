-- The code's way through a number text: where the digits begin, and what one more digit makes of the value. What is left to read from a
-- place on is what there was to read at the start.
-- Assumes nothing.
use Rattle.std.specs.Prelude.{ℕ, ◌+◌, ◌-◌, ◌*◌, ◌≤◌, ◌<◌, List, [], ◌∷◌, Bool, true, false, cond, ◌&&◌, ◌≡◌, refl, leb, length, get_or, drop, take, Option, Some, None, SomeIff, Err, ok_or}
use Rattle.std.proofs.Common.{ap, ◌∙◌, sym, arith, le-leb, eq-eqb, ne_eqb}
use Rattle.std.proofs.lemmas.Bool.{lt-leb}
use Rattle.std.proofs.lemmas.List.{drop_more, drop_all, take_rest}
use Rattle.std.proofs.lemmas.Option.{none-some}
use Rattle.theory.specs.Bools.{and_false}
use Rattle.theory.specs.Answer.{answer}
use Rattle.leaves_text.specs.NumberText.{is_digit, stuck, digits, some_digits, number_text, appended, Begun}

-- a text's digits from place from on, of which i were read as a value: what is left to read is what there was
pub record Left (s digits' : List ℕ) (from i value : ℕ) : Type 0 where
  pub left : number_text s ≡ digits (from + i) value (drop i digits')

-- ---- where the digits begin

pub begin_nothing : (s : List ℕ) → length s ≡ 0 → Begun s 0
unfolding number_text some_digits
begin_nothing [] h = record { inside = omega arith; left = refl }
begin_nothing (b ∷ s) h = absurd (omega arith)

pub begin_plus : (s : List ℕ) → 0 < length s → get_or s 0 0 ≡ 43 → Begun s 1
unfolding number_text
begin_plus [] h e = absurd (omega arith)
begin_plus (b ∷ s) h e = record { inside = omega arith; left = rw (eq-eqb b 43 e) }

pub begin_bare : (s : List ℕ) → 0 < length s → (get_or s 0 0 ≡ 43 → ⊥) → Begun s 0
unfolding number_text
begin_bare [] h e = absurd (omega arith)
begin_bare (b ∷ s) h e = record { inside = omega arith; left = rw (ne_eqb b 43 e) }

-- ---- the digits

missing : (p : ℕ) → some_digits p [] ≡ stuck p
unfolding some_digits
missing p = refl

first : (s : List ℕ) (p : ℕ) → (length s ≡ 0 → ⊥) → some_digits p s ≡ digits p 0 s
unfolding some_digits
first [] p h = absurd (h refl)
first (b ∷ s) p h = refl

done : (p v : ℕ) → digits p v [] ≡ answer 0 (v ∷ [])
unfolding digits
done p v = refl

goes : (p v b : ℕ) (s : List ℕ) {n : ℕ} → Some n ≡ appended v b → digits p v (b ∷ s) ≡ digits (p + 1) n s
unfolding digits appended
goes p v b s {n} e = go (is_digit b && leb (v * 10 + (b - 48)) 4294967295) e
  where
    go : (t : Bool) → Some n ≡ cond t (Some (v * 10 + (b - 48))) None → cond t (digits (p + 1) (v * 10 + (b - 48)) s) (stuck p) ≡ digits (p + 1) n s
    go true f = let z : v * 10 + (b - 48) ≡ n = cc in ap (λ (m : ℕ). digits (p + 1) m s) z
    go false f = absurd (none-some n (sym f))

stops : (p v b : ℕ) (s : List ℕ) → None ≡ appended v b → digits p v (b ∷ s) ≡ stuck p
unfolding digits appended
stops p v b s e = go (is_digit b && leb (v * 10 + (b - 48)) 4294967295) e
  where
    go : (t : Bool) → None ≡ cond t (Some (v * 10 + (b - 48))) None → cond t (digits (p + 1) (v * 10 + (b - 48)) s) (stuck p) ≡ stuck p
    go true f = absurd (none-some (v * 10 + (b - 48)) f)
    go false f = refl

-- the digits, as the code has them in hand
pub begun_rest : {s : List ℕ} {from : ℕ} → Begun s from → number_text s ≡ some_digits from (take (length s - from) (drop from s))
begun_rest {s} {from} b = b.left ∙ ap (some_digits from) (sym (take_rest s from))

pub left_missing : (s t : List ℕ) (from : ℕ) → number_text s ≡ some_digits from t → length t ≡ 0 → stuck from ≡ number_text s
left_missing s [] from b e = sym (b ∙ missing from)
left_missing s (x ∷ t) from b e = absurd (omega arith)

pub left_first : (s t : List ℕ) (from : ℕ) → number_text s ≡ some_digits from t → (length t ≡ 0 → ⊥) → Left s t from 0 0
left_first s t from b h = record { left = b ∙ first t from h ∙ ap (λ (n : ℕ). digits n 0 t) (omega arith) }

module _ {s t : List ℕ} {from i v : ℕ} (l : Left s t from i v) (h : i < length t) where
  pub left_turn : {n : ℕ} → Some n ≡ appended v (get_or t i 0) → Left s t from (i + 1) n
  left_turn {n} e =
      record {
        left =
            l.left
            ∙ ap (digits (from + i) v) (drop_more t i 0 h)
            ∙ goes (from + i) v (get_or t i 0) (drop (i + 1) t) e
            ∙ ap (λ (m : ℕ). digits m n (drop (i + 1) t)) (omega arith);
      }

  pub left_stop : {p : ℕ} → None ≡ appended v (get_or t i 0) → p ≡ from + i → stuck p ≡ number_text s
  left_stop e q = ap stuck q ∙ sym (l.left ∙ ap (digits (from + i) v) (drop_more t i 0 h) ∙ stops (from + i) v (get_or t i 0) (drop (i + 1) t) e)

pub left_done : {s t : List ℕ} {from i v : ℕ} → Left s t from i v → length t ≤ i → answer 0 (v ∷ []) ≡ number_text s
left_done {s} {t} {from} {i} {v} l h = sym (l.left ∙ ap (digits (from + i) v) (drop_all i t h) ∙ done (from + i) v)

-- the place in an `Err`, where the byte could not be appended
pub err_place : (r : Option ℕ) (p q : ℕ) → Err p ≡ ok_or r q → (None ≡ r) × (p ≡ q)
err_place None p q e = (refl, cc)
err_place (Some x) p q e = let z : ◌≡◌ {A = ℕ} 0 1 = cc in absurd (omega arith)

-- ---- one digit more

pub no_digit : (v b : ℕ) → is_digit b ≡ false → None ≡ appended v b
unfolding appended
no_digit v b e = rw e

pub too_large : (v b : ℕ) → (v * 10 + (b - 48) ≤ 4294967295 → ⊥) → None ≡ appended v b
unfolding appended
too_large v b h = rw (lt-leb (v * 10 + (b - 48)) 4294967295 (omega arith), and_false (is_digit b))

pub one_more : (v b : ℕ) → is_digit b ≡ true → v * 10 + (b - 48) ≤ 4294967295 → Some (v * 10 + (b - 48)) ≡ appended v b
unfolding appended
one_more v b e h = rw (e, le-leb _ _ h)

-- what the checked product and sum say
pub checked_is : (v b p : ℕ) (r : Option ℕ) → is_digit b ≡ true → p ≡ v * 10 → SomeIff r (p + (b - 48) < 4294967296) (p + (b - 48)) → r ≡ appended v b
checked_is v b p None d e h = too_large v b (λ l. h (omega arith))
checked_is v b p (Some x) d e h =
    let q : x ≡ v * 10 + (b - 48) = omega (arith, e, h.1) in
    ap Some q ∙ one_more v b d (omega (arith, e, h.0))
