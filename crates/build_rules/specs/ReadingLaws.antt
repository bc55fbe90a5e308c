-- What each reading comes to, by what its leaf answered. Assumes nothing.
use Rattle.std.specs.Prelude.{◌≡◌, ◌≢◌, ℕ, zero, suc, ◌+◌, ◌-◌, ◌*◌, ◌/◌, ◌≤◌, ◌<◌, List, [], ◌∷◌, length, get_or, take, drop, slice_get, option_copied, ok_or, Option, Some, None, Result, Ok, Err, MatchResult}
use Rattle.std.specs.Result.{IsErrAnd}
use Rattle.std.specs.Borrow.{Bor}
use Rattle.std.proofs.Math.Path.{refl, sym, ap}
use Rattle.std.proofs.Common.{◌∙◌, arith, get_or-take, get_or-drop, length-take, length-drop}
use Rattle.std.proofs.lemmas.Option.{slice_get_past, slice_get-get_or, get_or_from_slice_get}
use borrow.Author.Tests.{lt-ltb, le-ltb, ne_eqb}
use Rattle.theory.specs.Answer.{answer, one_value}
use Rattle.theory.specs.RunsTools.{ltb_case}
use Rattle.leaves.specs.Refusal.{number_of, values_of, refused, answer_with}
use Rattle.leaves.specs.declared.refusal.Refusal.{Refusal}
use Rattle.leaves.specs.declared.refusal.Refusal.TheVariants.{UnknownSymbol, NotNumber}
use Rattle.leaves_text.specs.NumberText.{reading_of, number_text}
use Rattle.leaves.specs.RefusalLaws.{refused_not_done}
use Rattle.leaves_days.specs.Days.{day_of, day_start}
use Rattle.leaves_days.specs.DaysLaws.{day_limit, start_good}
use Rattle.leaves_names.specs.Names.{names_of}
use Rattle.leaves_names.specs.NamesList.{names_length}
use Rattle.metadata_rules.specs.Words.{interval_at, stretch}
use Rattle.build_rules.specs.Reading.{Read, fault, value, and_then, read_of, text_of, number_in, day_in, day_length, moment_in, read_by, text_by, intervals_in}

-- ---- answers

-- a refusal is read as its number
pub refused_read : (r : Refusal) → read_of (refused r) ≡ fault (number_of r)
unfolding read_of
refused_read r = go (number_of r) (values_of r) (refused_not_done r)
  where
    go : (c : ℕ) (vs : List ℕ) → c ≢ 0 → read_of (answer c vs) ≡ fault c
    go c [] h = refl
    go c (v ∷ vs) h = rw (ne_eqb c 0 h) refl

-- and an answer of one value as what it says
pub answer_read : (r : Result ℕ Refusal) → read_of (answer_with one_value r) ≡ read_by r
unfolding read_of
answer_read (Ok v) = refl
answer_read (Err r) = refused_read r

-- ---- dates

pub day_read : (date : ℕ) (r : Result ℕ Refusal) → answer_with one_value r ≡ day_of date → read_by r ≡ day_in date
unfolding day_in
day_read date r e = sym (answer_read r) ∙ ap read_of e

pub day_value : (date : ℕ) {d : ℕ} → answer 0 (d ∷ []) ≡ day_of date → value d ≡ day_in date
day_value date {d} e = day_read date (Ok d) e

pub day_fault : (date : ℕ) (r : Refusal) → refused r ≡ day_of date → fault (number_of r) ≡ day_in date
day_fault date r e = day_read date (Err r) e

module _ (date : ℕ) where
  pub moment_fault : (r : Refusal) → refused r ≡ day_of date → fault (number_of r) ≡ moment_in date
  unfolding moment_in and_then
  moment_fault r e = ap (λ (x : Read ℕ). and_then x (λ day. value (day * day_length))) (day_fault date r e)

  pub moment_value : {d : ℕ} (r : Result ℕ Refusal) → answer 0 (d ∷ []) ≡ day_of date → answer_with one_value r ≡ day_start d → read_by r ≡ moment_in date
  unfolding moment_in and_then read_of
  moment_value {d} r e f =
      sym (answer_read r) ∙ ap read_of (f ∙ start_good d (day_limit date d (sym e)))
      ∙ ap (λ (x : Read ℕ). and_then x (λ day. value (day * day_length))) (day_value date e)

-- what a date's moment comes to
pub ruleset moments = (moment_fault, moment_value)

-- ---- numbers

-- a text that says no number is refused by 8
pub number_read : (text : List ℕ) (r : Result ℕ ℕ) (q : Result ℕ Refusal) {Q : ℕ → Refusal → Type 0} → reading_of r ≡ number_text text
    → MatchResult r (λ x. q ≡ Ok x) (λ e. IsErrAnd q (Q e)) → ((e : ℕ) (why : Refusal) → Q e why → why ≡ NotNumber) → read_by q ≡ number_in text
unfolding number_in read_of
number_read text (Ok x) q w h k = rw h (ap read_of w)
number_read text (Err e) (Ok x) w h k = absurd h
number_read text (Err e) (Err why) w h k = rw (k e why h) (ap read_of w)

-- ---- names

module _ (bytes ends : List ℕ) (names n : ℕ) where
  pub text_unknown : names ≤ n → text_of (names_of bytes ends names) n ≡ fault 3
  unfolding text_of
  text_unknown h = rw (names_length bytes ends names, le-ltb n names h) refl

  pub text_known : n < names → text_of (names_of bytes ends names) n ≡ value (get_or (names_of bytes ends names) n [])
  unfolding text_of
  text_known h = rw (names_length bytes ends names, lt-ltb n names h) refl

-- the text that stands under a name's number, or 3
pub text_got : (texts : List (List ℕ)) (n : ℕ) (o : Option (Bor (List ℕ))) → option_copied o ≡ slice_get texts n → text_by (ok_or o UnknownSymbol) ≡ text_of texts n
unfolding text_of
text_got texts n None e =
    ltb_case (λ (r : Read (List ℕ)). fault 3 ≡ r) n (length texts) _ _
    (λ h. let z : None ≡ Some (get_or texts n []) = e ∙ slice_get-get_or texts n [] h in cc)
    (λ h. refl)
text_got texts n (Some text) e =
    ltb_case (λ (r : Read (List ℕ)). value text.now ≡ r) n (length texts) _ _
    (λ h. sym (ap value (get_or_from_slice_get texts n text.now [] (sym e))))
    (λ h. let z : Some text.now ≡ None = e ∙ slice_get_past texts n h in cc)

-- ---- intervals

module _ (v : List ℕ) (o n : ℕ) (fits : 3 * (o + n) ≤ length v) where
  -- n intervals from the place o on, as words that stand alone
  abbrev words : List ℕ
  words = take (3 * (o + n) - 3 * o) (drop (3 * o) v)

  word : (i : ℕ) → i < 3 * n → get_or words i 0 ≡ get_or v (3 * o + i) 0
  word i h = let k : i < 3 * (o + n) - 3 * o = omega arith in rw (get_or-take, get_or-drop) refl

  same_interval : (i : ℕ) → i < n → interval_at words i ≡ interval_at v (o + i)
  unfolding interval_at
  same_interval i h =
      let a : 3 * o + 3 * i ≡ 3 * (o + i) = omega arith in
      let b : 3 * o + (3 * i + 1) ≡ 3 * (o + i) + 1 = omega arith in
      let c : 3 * o + (3 * i + 2) ≡ 3 * (o + i) + 2 = omega arith in
      let s : get_or words (3 * i) 0 ≡ get_or v (3 * (o + i)) 0 = word (3 * i) (omega arith) ∙ ap (λ (k : ℕ). get_or v k 0) a in
      let e : get_or words (3 * i + 1) 0 ≡ get_or v (3 * (o + i) + 1) 0 = word (3 * i + 1) (omega arith) ∙ ap (λ (k : ℕ). get_or v k 0) b in
      let x : get_or words (3 * i + 2) 0 ≡ get_or v (3 * (o + i) + 2) 0 = word (3 * i + 2) (omega arith) ∙ ap (λ (k : ℕ). get_or v k 0) c in
      λ j. record { start = s j; end = e j; symbol = x j }

  same_stretch : (m i : ℕ) → i + m ≤ n → stretch words i m ≡ stretch v (o + i) m
  unfolding stretch
  same_stretch zero i h = refl
  same_stretch (suc m) i h =
      let a : o + (i + 1) ≡ o + i + 1 = omega arith in
      let e : interval_at words i ≡ interval_at v (o + i) = same_interval i (omega arith) in
      let f : stretch words (i + 1) m ≡ stretch v (o + i + 1) m = same_stretch m (i + 1) (omega arith) ∙ ap (λ (k : ℕ). stretch v k m) a in
      λ j. e j ∷ f j

  pub intervals_of : intervals_in (take (3 * (o + n) - 3 * o) (drop (3 * o) v)) ≡ stretch v o n
  intervals_of =
      let l : length words ≡ 3 * n = simp (length-take, length-drop) (omega arith) in
      let q : length words / 3 ≡ n = omega arith in
      let z : o + 0 ≡ o = omega arith in
      ap (stretch words 0) q ∙ same_stretch n 0 (omega arith) ∙ ap (λ (k : ℕ). stretch v k n) z
