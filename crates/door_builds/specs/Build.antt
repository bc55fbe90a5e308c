-- Both builds at the C door: what a call returns, and what the table and the number in use then hold, one law a way. Assumes nothing.
use Rattle.std.specs.Prelude.{ℕ, ◌≡◌, true, cond, List, [], ◌∷◌, replicate, Option, Some, None, Result}
use Rattle.std.proofs.Math.Path.{refl, sym}
use Rattle.std.proofs.Common.{ap, ◌∙◌}
use Rattle.std.proofs.Math.Bool.{false}
use Rattle.theory.specs.Answer.{Answer, answer, one_value}
use Rattle.leaves.specs.Refusal.{number_of, refused, answer_with}
use Rattle.leaves.specs.declared.refusal.Refusal.{Refusal}
use Rattle.metadata_form.specs.declared.header.Header.{Header}
use Rattle.door_answers.specs.Answers.{number_in, value_in}
use Rattle.door_answers.specs.AnswersLaws.{refused_value}
use Rattle.door_answers.specs.Header.{header_fits, header_of, header_read}
use Rattle.door_answers.specs.HeaderLaws.{header_some, header_none}

-- the answer of a build over these words, and the table of so many bytes after it: words that are no header get 15 and empty it too
unfoldable pub building_answer : List ℕ → (Header → Answer) → Answer
building_answer w says = cond (header_fits w) (says (header_of w)) (answer 15 [])

unfoldable pub building_memory : ℕ → List ℕ → (Header → List ℕ) → List ℕ
building_memory size w leaves = cond (header_fits w) (leaves (header_of w)) (replicate size 0)

-- the number returned; the number in use, 0 on a refusal; the table
pub record Building (size : ℕ) (w : List ℕ) (says : Header → Answer) (leaves : Header → List ℕ) (r used : ℕ) (t' : List ℕ) : Type 0 where
  pub returns : r ≡ number_in (building_answer w says)
  pub counts : used ≡ value_in 0 0 (building_answer w says)
  pub holds : t' ≡ building_memory size w leaves

-- ---- laws

-- what a build came to, told in numbers
pub told_done : (u : ℕ) → (0 ≡ number_in (answer 0 (u ∷ []))) × (u ≡ value_in 0 0 (answer 0 (u ∷ [])))
unfolding number_in value_in
told_done u = (refl, refl)

pub told_refused : (r : Refusal) → (number_of r ≡ number_in (refused r)) × (0 ≡ value_in 0 0 (refused r))
unfolding number_in
told_refused r = (refl, sym (refused_value r 0 0))

module _ (size : ℕ) (w : List ℕ) (says : Header → Answer) (leaves : Header → List ℕ) where
  -- words that are no header
  pub build_unfit : (o : Option Header) {t' : List ℕ} → o ≡ header_read w → ((h : Header) → o ≡ Some h → ⊥) → t' ≡ replicate size 0 → Building size w says leaves 15 0 t'
  unfolding building_answer building_memory number_in value_in
  build_unfit (Some h) e n z = absurd (n h refl)
  build_unfit None e n h =
      let g : header_fits w ≡ false = header_none w e in
      record { returns = rw g refl; counts = rw g refl; holds = rw g h }

  -- a build that was called with the header of the words: its number, and the number in use
  pub build_told : (r : Result ℕ Refusal) {t' : List ℕ} (h : Header) → Some h ≡ header_read w → answer_with one_value r ≡ says h → t' ≡ leaves h
      → {n used : ℕ} → n ≡ number_in (answer_with one_value r) → used ≡ value_in 0 0 (answer_with one_value r) → Building size w says leaves n used t'
  unfolding building_answer building_memory
  build_told r h e a m p q =
      let f = header_some w h e in
      let g : header_fits w ≡ true = f.0 in
      let k : h ≡ header_of w = f.1 in
      let b : answer_with one_value r ≡ building_answer w says = rw g (a ∙ ap says k) in
      record {
        returns = p ∙ ap number_in b;
        counts = q ∙ ap (value_in 0 0) b;
        holds = rw g (m ∙ ap leaves k);
      }
