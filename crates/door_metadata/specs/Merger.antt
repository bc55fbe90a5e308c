-- The metadata merge at the C door: the header as words, what each call answers, and what the lent words then hold.
use Rattle.std.specs.Prelude.{ℕ, ◌≡◌, ◌&&◌, cond, List, [], eqb, get_or}
use Rattle.theory.specs.Answer.{Answer, answer}
use Rattle.metadata_form.specs.Header.{Lists}
use Rattle.metadata_open.specs.Opening.{open_answer, open_lists, finish_answer}
use Rattle.metadata_merge.specs.Merger.{merge_answer, merge_lists}
use Rattle.door_answers.specs.Answers.{number_in}
use Rattle.door_answers.specs.Header.{header_fits, header_of, words_in}

-- what a lent number holds that takes the field of 6: every other answer leaves it
unfoldable pub field_in : ℕ → Answer → ℕ
field_in held (answer number values) = cond (eqb number 6) (get_or values 0 0) held

-- ---- open

unfoldable pub opening_answer : List ℕ → Lists → Answer
opening_answer w l = cond (header_fits w) (open_answer (header_of w) l) (answer 15 [])

unfoldable pub opening_lists : List ℕ → Lists → Lists
opening_lists w l = cond (header_fits w) (open_lists (header_of w) l) l

pub record Opening (w : List ℕ) (l : Lists) (r : ℕ) (w' : List ℕ) (l' : Lists) : Type 0 where
  pub returns : r ≡ number_in (opening_answer w l)
  pub header : w' ≡ words_in w (opening_answer w l)
  pub holds : l' ≡ opening_lists w l

-- ---- merge

unfoldable pub merging_answer : ℕ → List ℕ → Lists → List ℕ → Lists → Answer
merging_answer names w l v a = cond (header_fits w && header_fits v) (merge_answer names (header_of w) l (header_of v) a) (answer 15 [])

unfoldable pub merging_lists : ℕ → List ℕ → Lists → List ℕ → Lists → Lists
merging_lists names w l v a = cond (header_fits w && header_fits v) (merge_lists names (header_of w) l (header_of v) a) l

pub record Merging (names : ℕ) (w : List ℕ) (l : Lists) (v : List ℕ) (a : Lists) (field r : ℕ) (w' : List ℕ) (l' : Lists) (field' : ℕ) : Type 0 where
  pub returns : r ≡ number_in (merging_answer names w l v a)
  pub header : w' ≡ words_in w (merging_answer names w l v a)
  pub holds : l' ≡ merging_lists names w l v a
  pub differs : field' ≡ field_in field (merging_answer names w l v a)

-- ---- finish

unfoldable pub finishing_answer : List ℕ → Lists → Answer
finishing_answer w l = cond (header_fits w) (finish_answer (header_of w) l) (answer 15 [])
