-- What crates above go by: 11 exactly where there is no date in range, both round trips, the order of dates and days, and the start of a day.
-- Assumes nothing.
use Rattle.std.specs.Prelude.{ℕ, ◌*◌, ◌^◌, ◌≤◌, ◌<◌, ◌≡◌, refl, ◌↔◌, Bool, true, false, not, cond, [], ◌∷◌, T, leb}
use Rattle.std.proofs.Common.{arith, sym, ap, ◌∙◌, subst}
use Rattle.std.proofs.Math.Facts.{and_yes, yes_and, not_T, T_not, leb_yes, leb_no, yes_leb, no_leb}
use Rattle.theory.specs.Answer.{Answer, answer}
use Rattle.leaves.specs.Refusal.{refused}
use Rattle.leaves.specs.declared.refusal.Refusal.TheVariants.{NoDate}
use Rattle.leaves_days.specs.Calendar.{is_leap, month_days, year_in, is_date, day_number, date_number}
use Rattle.theory.specs.RunsTools.{Order, less, equal, more, order}
use Rattle.leaves_days.specs.CalendarDates.{Dated, dated_one, number_rises, number_one, date_yes, in_month, date_number_dated, number_of_last}
use Rattle.leaves_days.specs.Days.{in_range, last_day, known_date, day_of, date_of, day_start}

-- there is such a date, from 1970-01-01 to 2554-07-21
pub record Good (date : ℕ) : Type 0 where
  pub is : T (is_date date)
  pub from : 19700101 ≤ date
  pub to : date ≤ 25540721

good_yes : (date : ℕ) → T (known_date date) → Good date
good_yes date t =
    let p = and_yes (is_date date) (in_range date) t in
    let q = and_yes (leb 19700101 date) (leb date 25540721) p.1 in
    record { is = p.0; from = leb_yes q.0; to = leb_yes q.1 }

yes_good : (date : ℕ) → Good date → T (known_date date)
yes_good date g = yes_and (is_date date) (in_range date) g.is (yes_and (leb 19700101 date) (leb date 25540721) (yes_leb g.from) (yes_leb g.to))

-- the test says so, either way
pub known_good : (date : ℕ) → known_date date ≡ true → Good date
known_good date e = good_yes date (subst T (sym e) tt)

pub good_known : (date : ℕ) → Good date → true ≡ known_date date
good_known date g = go (known_date date) (yes_good date g)
  where
    go : (b : Bool) → T b → true ≡ b
    go true t = refl
    go false t = absurd t

pub not_known : (date : ℕ) → (Good date → ⊥) → false ≡ known_date date
not_known date h = go (known_date date) (λ t. h (good_yes date t))
  where
    go : (b : Bool) → (T b → ⊥) → false ≡ b
    go true f = absurd (f tt)
    go false f = refl

-- ---- an answer of one value where a test passes, else 11

abbrev judged : Bool → ℕ → Answer
judged t x = cond t (answer 0 (x ∷ [])) (refused NoDate)

passed : (t : Bool) (x : ℕ) → T t → judged t x ≡ answer 0 (x ∷ [])
passed true x h = refl
passed false x h = absurd h

failed : (t : Bool) (x : ℕ) → T (not t) → judged t x ≡ refused NoDate
failed true x h = absurd h
failed false x h = refl

was_passed : (t : Bool) (x n : ℕ) → judged t x ≡ answer 0 (n ∷ []) → T t × (x ≡ n)
was_passed true x n e = (tt, cc)
was_passed false x n e = let z : ◌≡◌ {A = ℕ} 0 11 = cc in absurd (omega arith)

was_failed : (t : Bool) (x : ℕ) → judged t x ≡ refused NoDate → T (not t)
was_failed true x e = let z : ◌≡◌ {A = ℕ} 0 11 = cc in absurd (omega arith)
was_failed false x e = tt

-- ---- a date's day

pub day_good : (date : ℕ) → Good date → day_of date ≡ answer 0 (day_number date ∷ [])
unfolding day_of
day_good date g = passed (known_date date) (day_number date) (yes_good date g)

pub day_answered : (date n : ℕ) → day_of date ≡ answer 0 (n ∷ []) → Good date × (day_number date ≡ n)
unfolding day_of
day_answered date n e =
    let p = was_passed (known_date date) (day_number date) n e in
    (good_yes date p.0, p.1)

-- 11 exactly where there is no such date, or it lies outside 1970-01-01 to 2554-07-21
pub day_refused : (date : ℕ) → (day_of date ≡ refused NoDate) ↔ (Good date → ⊥)
unfolding day_of
day_refused date = (
  λ e g. T_not (known_date date) (yes_good date g) (was_failed (known_date date) (day_number date) e),
  λ h. failed (known_date date) (day_number date) (not_T (known_date date) (λ t. h (good_yes date t))),
)

good_year : (date : ℕ) → 19700101 ≤ date → 1970 ≤ year_in date
good_year date h = omega arith

last_is : T (is_date 25540721)
unfolding is_date month_days is_leap
last_is = tt

-- for a date from 1970 on, in range is the same as at most the last day
pub range_number : (date : ℕ) → T (is_date date) → 1970 ≤ year_in date → (date ≤ 25540721) ↔ (day_number date ≤ last_day)
range_number date t f = (there (order date 25540721), back (order date 25540721))
  where
    there : Order date 25540721 → date ≤ 25540721 → day_number date ≤ 213503
    there (less l) h = omega (arith, number_rises date 25540721 t last_is f l, number_of_last)
    there (equal l) h = omega (arith, ap day_number l, number_of_last)
    there (more l) h = absurd (omega arith)

    back : Order date 25540721 → day_number date ≤ 213503 → date ≤ 25540721
    back (less l) h = omega arith
    back (equal l) h = omega arith
    back (more l) h = absurd (omega (arith, number_rises 25540721 date last_is t (omega arith) l, number_of_last))

pub number_limit : (date : ℕ) → Good date → day_number date ≤ last_day
number_limit date g = (range_number date g.is (good_year date g.from)).0 g.to

pub day_limit : (date n : ℕ) → day_of date ≡ answer 0 (n ∷ []) → n ≤ last_day
day_limit date n e =
    let p = day_answered date n e in
    omega (arith, number_limit date p.0, p.1)

-- ---- a day's date

dated_good : (day date : ℕ) → day ≤ last_day → Dated day date → Good date
dated_good day date h p =
    let m = in_month _ _ _ (date_yes date p.is) in
    record {
      is = p.is;
      from = omega (arith, m.from, (date_yes date p.is).from, p.from);
      to = (range_number date p.is p.from).1 (omega (arith, p.number));
    }

pub date_good : (day : ℕ) → day ≤ last_day → date_of day ≡ answer 0 (date_number day ∷ [])
unfolding date_of
date_good day h = passed (leb day last_day) (date_number day) (yes_leb h)

pub date_answered : (day n : ℕ) → date_of day ≡ answer 0 (n ∷ []) → (day ≤ last_day) × (date_number day ≡ n)
unfolding date_of
date_answered day n e =
    let p = was_passed (leb day last_day) (date_number day) n e in
    (leb_yes p.0, p.1)

pub date_refused : (day : ℕ) → (date_of day ≡ refused NoDate) ↔ (last_day < day)
unfolding date_of
date_refused day = (λ e. leb_no (was_failed (leb day last_day) (date_number day) e), λ h. failed (leb day last_day) (date_number day) (no_leb h))

-- ---- both round trips

pub date_number_lem : (day : ℕ) → day ≤ last_day → Good (date_number day) × (day_number (date_number day) ≡ day)
date_number_lem day h =
    let p = date_number_dated day h in
    (dated_good day (date_number day) h p, p.number)

pub number_date : (date : ℕ) → Good date → date_number (day_number date) ≡ date
number_date date g =
    dated_one (day_number date) (date_number (day_number date)) date (date_number_dated (day_number date) (number_limit date g))
    (record { is = g.is; from = good_year date g.from; number = refl })

pub there_and_back : (date day : ℕ) → day_of date ≡ answer 0 (day ∷ []) → date_of day ≡ answer 0 (date ∷ [])
there_and_back date day e =
    let p = day_answered date day e in
    date_good day (day_limit date day e) ∙ ap (λ (n : ℕ). answer 0 (n ∷ [])) (ap date_number (sym p.1) ∙ number_date date p.0)

pub back_and_there : (day date : ℕ) → date_of day ≡ answer 0 (date ∷ []) → day_of date ≡ answer 0 (day ∷ [])
back_and_there day date e =
    let p = date_answered day date e in
    let q = date_number_lem day p.0 in
    let g : Good date = subst Good p.1 q.0 in
    day_good date g ∙ ap (λ (n : ℕ). answer 0 (n ∷ [])) (ap day_number (sym p.1) ∙ q.1)

-- ---- the order of dates in range is that of their days

pub days_rise : (a b : ℕ) → Good a → Good b → (a < b) ↔ (day_number a < day_number b)
days_rise a b g h = (λ l. number_rises a b g.is h.is (good_year a g.from) l, back (order a b))
  where
    back : Order a b → day_number a < day_number b → a < b
    back (less l) k = l
    back (equal l) k = absurd (omega (arith, ap day_number l))
    back (more l) k = absurd (omega (arith, number_rises b a h.is g.is (good_year b h.from) l))

pub days_one : (a b : ℕ) → Good a → Good b → (a ≡ b) ↔ (day_number a ≡ day_number b)
days_one a b g h = (λ e. ap day_number e, λ e. number_one a b g.is h.is (good_year a g.from) (good_year b h.from) e)

-- the same of the answers
pub answers_rise : (a b m n : ℕ) → day_of a ≡ answer 0 (m ∷ []) → day_of b ≡ answer 0 (n ∷ []) → (a < b) ↔ (m < n)
answers_rise a b m n e f =
    let p = day_answered a m e in
    let q = day_answered b n f in
    let r = days_rise a b p.0 q.0 in
    (λ l. omega (arith, r.0 l, p.1, q.1), λ l. r.1 (omega (arith, p.1, q.1)))

pub answers_one : (a b m n : ℕ) → day_of a ≡ answer 0 (m ∷ []) → day_of b ≡ answer 0 (n ∷ []) → (a ≡ b) ↔ (m ≡ n)
answers_one a b m n e f =
    let p = day_answered a m e in
    let q = day_answered b n f in
    let r = days_one a b p.0 q.0 in
    (λ l. omega (arith, r.0 l, p.1, q.1), λ l. r.1 (omega (arith, p.1, q.1)))

-- ---- a day's start

pub start_good : (day : ℕ) → day ≤ last_day → day_start day ≡ answer 0 (day * 86400000000000 ∷ [])
unfolding day_start
start_good day h = passed (leb day last_day) (day * 86400000000000) (yes_leb h)

pub start_answered : (day n : ℕ) → day_start day ≡ answer 0 (n ∷ []) → (day ≤ last_day) × (day * 86400000000000 ≡ n)
unfolding day_start
start_answered day n e =
    let p = was_passed (leb day last_day) (day * 86400000000000) n e in
    (leb_yes p.0, p.1)

pub start_refused : (day : ℕ) → (day_start day ≡ refused NoDate) ↔ (last_day < day)
unfolding day_start
start_refused day = (λ e. leb_no (was_failed (leb day last_day) (day * 86400000000000) e), λ h. failed (leb day last_day) (day * 86400000000000) (no_leb h))

-- the last day is the last whose start fits 64 bits
pub start_fits : (day : ℕ) → (day ≤ last_day) ↔ (day * 86400000000000 < 2 ^ 64)
start_fits day = (λ h. omega arith, λ h. omega arith)
