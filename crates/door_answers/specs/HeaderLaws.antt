-- A header's words within their bounds, the header that they are, and that a refusal leaves them. Assumes nothing.
use Rattle.std.specs.Prelude.{ℕ, zero, suc, ◌≤◌, ◌<◌, ◌≡◌, refl, ◌≢◌, Bool, true, false, ◌&&◌, cond, List, [], ◌∷◌, leb, length, get_or, Some, None}
use Rattle.std.specs.List.{list_all, zip}
use Rattle.std.proofs.Common.{arith, ap, leb-true}
use Rattle.theory.specs.Bools.{and_left, and_right}
use Rattle.theory.specs.Answer.{Answer}
use Rattle.leaves.specs.Refusal.{refused}
use Rattle.leaves.specs.RefusalLaws.{refused_all}
use Rattle.leaves.specs.declared.refusal.Refusal.{Refusal}
use Rattle.metadata_form.specs.declared.header.Header.{Header}
use Rattle.door_answers.specs.Header.{widths, within, header_fits, header_of, header_read, words_in}

-- ---- words within their bounds

pub within_unequal : (xs bs : List ℕ) → length xs ≢ length bs → false ≡ within xs bs
unfolding within
within_unequal [] [] h = absurd (h refl)
within_unequal [] (b ∷ bs) h = refl
within_unequal (x ∷ xs) [] h = refl
within_unequal (x ∷ xs) (b ∷ bs) h = go (leb x b) (within_unequal xs bs (λ e. h (ap suc e)))
  where
    go : (t : Bool) → false ≡ within xs bs → false ≡ (t && within xs bs)
    go true e = e
    go false e = refl

-- pair by pair, where the lengths are one
pub within_pairs : (xs bs : List ℕ) → length xs ≡ length bs → within xs bs ≡ list_all (λ (p : ℕ × ℕ). leb p.0 p.1) (zip xs bs)
unfolding within
within_pairs [] [] e = refl
within_pairs [] (b ∷ bs) e = absurd (omega (arith, e))
within_pairs (x ∷ xs) [] e = absurd (omega (arith, e))
within_pairs (x ∷ xs) (b ∷ bs) e = ap (λ (t : Bool). leb x b && t) (within_pairs xs bs (omega (arith, e)))

never : {A : Type 0} → false ≡ true → A
never e = let z : ◌≡◌ {A = ℕ} 1 0 = ap (λ (b : Bool). cond b 0 1) e in absurd (omega arith)

pub within_length : (xs bs : List ℕ) → within xs bs ≡ true → length xs ≡ length bs
unfolding within
within_length [] [] e = refl
within_length [] (b ∷ bs) e = never e
within_length (x ∷ xs) [] e = never e
within_length (x ∷ xs) (b ∷ bs) e = ap suc (within_length xs bs (and_right (leb x b) _ e))

pub within_word : (xs bs : List ℕ) → within xs bs ≡ true → (i : ℕ) → i < length bs → get_or xs i 0 ≤ get_or bs i 0
unfolding within
within_word [] [] e i h = omega arith
within_word [] (b ∷ bs) e i h = never e
within_word (x ∷ xs) [] e i h = never e
within_word (x ∷ xs) (b ∷ bs) e zero h = leb-true x b (and_left (leb x b) _ e)
within_word (x ∷ xs) (b ∷ bs) e (suc i) h = within_word xs bs (and_right (leb x b) _ e) i (omega arith)

-- a header has fourteen words
pub header_length : (w : List ℕ) → header_fits w ≡ true → length w ≡ 14
unfolding header_fits
header_length w e = within_length w widths e

-- words that are a header, and words that are none
pub header_some : (w : List ℕ) (h : Header) → Some h ≡ header_read w → (header_fits w ≡ true) × (h ≡ header_of w)
header_some w h = go (header_fits w) refl
  where
    go : (t : Bool) → header_fits w ≡ t → Some h ≡ cond t (Some (header_of w)) None → (header_fits w ≡ true) × (h ≡ header_of w)
    go true f e = (f, cc)
    go false f e = cc

pub header_none : (w : List ℕ) → None ≡ header_read w → header_fits w ≡ false
header_none w = go (header_fits w) refl
  where
    go : (t : Bool) → header_fits w ≡ t → None ≡ cond t (Some (header_of w)) None → header_fits w ≡ false
    go true f e = cc
    go false f e = f

-- ---- a refusal

-- the header stays
pub refused_words : (r : Refusal) (held : List ℕ) → words_in held (refused r) ≡ held
unfolding words_in
refused_words r held = refused_all (λ (a : Answer). words_in held a ≡ held) (λ n values. refl) r
