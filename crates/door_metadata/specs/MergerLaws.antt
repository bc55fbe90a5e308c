-- A header's words, and each way that a call of the metadata merge goes at the door, one law a way. Assumes nothing.
use Rattle.std.specs.Prelude.{ℕ, ◌≡◌, true, false, ◌&&◌, List, Result, Ok, Err}
use Rattle.std.proofs.Common.{◌∙◌, subst}
use Rattle.std.proofs.Math.Path.{refl, sym, ap}
use Rattle.leaves.specs.Refusal.{number_of, refused, answer_with}
use Rattle.leaves.specs.declared.refusal.Refusal.{Refusal}
use Rattle.metadata_form.specs.declared.header.Header.{Header}
use Rattle.metadata_form.specs.Header.{Lists, numbers_of}
use Rattle.metadata_open.specs.Opening.{finish_answer, Open}
use Rattle.metadata_merge.specs.Merger.{Merge}
use Rattle.door_answers.specs.Answers.{number_in}
use Rattle.door_answers.specs.HeaderLaws.{refused_words}
use Rattle.door_answers.specs.Header.{header_fits, header_of, words_in}
use Rattle.door_metadata.specs.Merger.{field_in, opening_answer, opening_lists, Opening, merging_answer, merging_lists, Merging, finishing_answer}

-- ---- open

module _ (w : List ℕ) (l : Lists) where
  pub open_unfit : header_fits w ≡ false → Opening w l 15 w l
  unfolding opening_answer opening_lists number_in words_in
  open_unfit f = record { returns = rw f refl; header = rw f refl; holds = rw f refl }

  module _ (f : header_fits w ≡ true) (h : Header) (q : h ≡ header_of w) (o : Result Header Refusal) (l' l'' : Lists) (z : l'' ≡ l') (c : Open h l o l') where
    fit : Open (header_of w) l o l'
    fit = subst (λ (x : Header). Open x l o l') q c

    pub open_done : (g : Header) → o ≡ Ok g → (w' : List ℕ) → w' ≡ numbers_of g → Opening w l 0 w' l''
    unfolding opening_answer opening_lists number_in words_in
    open_done g p w' v =
        let a = sym (ap (answer_with numbers_of) p) ∙ fit.answers in
        record { returns = rw f (ap number_in a); header = rw f (v ∙ ap (words_in w) a); holds = rw f (z ∙ fit.holds) }

    pub open_refused : (r : Refusal) → o ≡ Err r → (n : ℕ) → n ≡ number_of r → Opening w l n w l''
    unfolding opening_answer opening_lists number_in
    open_refused r p n v =
        let a = sym (ap (answer_with numbers_of) p) ∙ fit.answers in
        record { returns = rw f (v ∙ ap number_in a); header = rw f (sym (refused_words r w) ∙ ap (words_in w) a); holds = rw f (z ∙ fit.holds) }

-- ---- merge

module _ (names : ℕ) (w : List ℕ) (l : Lists) (v : List ℕ) (a : Lists) (field : ℕ) where
  pub merge_unfit : (header_fits w && header_fits v) ≡ false → Merging names w l v a field 15 w l field
  unfolding merging_answer merging_lists number_in words_in field_in
  merge_unfit f = record { returns = rw f refl; header = rw f refl; holds = rw f refl; differs = rw f refl }

  module _ (f : (header_fits w && header_fits v) ≡ true) (h : Header) (q : h ≡ header_of w) (g : Header) (s : g ≡ header_of v)
      (o : Result Header Refusal) (l' l'' : Lists) (z : l'' ≡ l') (c : Merge names h l g a o l') where
    both : Merge names (header_of w) l (header_of v) a o l'
    both = subst (λ (x : Header). Merge names (header_of w) l x a o l') s (subst (λ (x : Header). Merge names x l g a o l') q c)

    pub merge_done : (k : Header) → o ≡ Ok k → (w' : List ℕ) → w' ≡ numbers_of k → Merging names w l v a field 0 w' l'' field
    unfolding merging_answer merging_lists number_in words_in field_in
    merge_done k p w' u =
        let x = sym (ap (answer_with numbers_of) p) ∙ both.answers in
        record { returns = rw f (ap number_in x); header = rw f (u ∙ ap (words_in w) x); holds = rw f (z ∙ both.holds); differs = rw f (ap (field_in field) x) }

    pub merge_refused : (r : Refusal) → o ≡ Err r → (n : ℕ) → n ≡ number_of r → (field' : ℕ) → field' ≡ field_in field (refused r)
        → Merging names w l v a field n w l'' field'
    unfolding merging_answer merging_lists number_in
    merge_refused r p n u field' y =
        let x = sym (ap (answer_with numbers_of) p) ∙ both.answers in
        record { returns = rw f (u ∙ ap number_in x); header = rw f (sym (refused_words r w) ∙ ap (words_in w) x); holds = rw f (z ∙ both.holds); differs = rw f (y ∙ ap (field_in field) x) }

-- ---- finish

module _ (w : List ℕ) (l : Lists) where
  pub finish_unfit : header_fits w ≡ false → 15 ≡ number_in (finishing_answer w l)
  unfolding finishing_answer number_in
  finish_unfit f = rw f refl

  module _ (f : header_fits w ≡ true) (h : Header) (q : h ≡ header_of w) (o : Result Header Refusal) (c : answer_with numbers_of o ≡ finish_answer h l) where
    answered : answer_with numbers_of o ≡ finishing_answer w l
    unfolding finishing_answer
    answered = rw f (c ∙ ap (λ (x : Header). finish_answer x l) q)

    pub finish_done : (g : Header) → o ≡ Ok g → 0 ≡ number_in (finishing_answer w l)
    unfolding number_in
    finish_done g p = ap number_in (sym (ap (answer_with numbers_of) p) ∙ answered)

    pub finish_refused : (r : Refusal) → o ≡ Err r → (n : ℕ) → n ≡ number_of r → n ≡ number_in (finishing_answer w l)
    unfolding number_in
    finish_refused r p n v = v ∙ ap number_in (sym (ap (answer_with numbers_of) p) ∙ answered)
