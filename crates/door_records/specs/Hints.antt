-- A stream's hint at the C door (dbn's `Decoder::new`), and each way that the call goes, one law a way. Assumes nothing.
use Rattle.std.specs.Prelude.{ℕ, ◌≡◌, Bool, true, false, cond, List, [], ◌∷◌}
use Rattle.std.proofs.Math.Path.{refl, ap}
use Rattle.std.proofs.Common.{sym, ◌∙◌}
use Rattle.theory.specs.Answer.{Answer, answer}
use Rattle.metadata_form.specs.declared.header.Header.{Header}
use Rattle.metadata_form.specs.Header.{header_fields}
use Rattle.records.specs.Hints.{hint_of}
use Rattle.door_answers.specs.Header.{header_fits, header_of}

-- done with the hint of the header that the words are; words that are no header get 15
unfoldable pub hint_answer : List ℕ → Answer
hint_answer w = cond (header_fits w) (answer 0 (hint_of (header_fields (header_of w)) ∷ [])) (answer 15 [])

-- ---- laws

module _ (w : List ℕ) (b : Bool) (e : b ≡ header_fits w) where
  pub hint_unfit : b ≡ false → answer 15 [] ≡ hint_answer w
  unfolding hint_answer
  hint_unfit f = rw (sym e ∙ f) refl

  pub hint_fit : b ≡ true → (h : Header) → h ≡ header_of w → (n : ℕ) → n ≡ hint_of (header_fields h) → answer 0 (n ∷ []) ≡ hint_answer w
  unfolding hint_answer
  hint_fit f h k n q = rw (sym e ∙ f) (ap (λ (m : ℕ). answer 0 (m ∷ [])) (q ∙ ap (λ (g : Header). hint_of (header_fields g)) k))
