-- Laws of the calendar: the days of whole years as a sum of quotients, the months within a year, and what a count of days taken apart gives.
-- Assumes nothing.
use Rattle.std.specs.Prelude.{ℕ, zero, suc, ◌+◌, ◌-◌, ◌*◌, ◌/◌, ◌%◌, ◌≤◌, ◌<◌, ◌≡◌, refl, ◌≢◌, Bool, true, false, not, ◌&&◌, ◌||◌, cond, T, leb, ltb, eqb, get_or}
use Rattle.std.proofs.Common.{suc-le-suc, eq-or-lt_of_le, le_refl, le_trans, arith, sym, ap, subst, ⊎_elim, eqb-true, eq-eqb}
use Rattle.std.proofs.Math.Decide.{dec_le}
use Rattle.std.proofs.lemmas.Bool.{eqb-false}
use Rattle.std.proofs.Math.ListN.{get_or-eq_default}
use Rattle.std.proofs.Math.Facts.{and_yes, ltb_yes, ltb_no, leb_yes}
use Rattle.leaves_days.specs.Calendar.{is_leap, year_days, month_lengths, month_days, days_of_years, days_before, leap_day}

-- ---- tools

-- a choice, by what its test says
pub ltb_case : (P : ℕ → Type 0) (a b x y : ℕ) → (a < b → P x) → (b ≤ a → P y) → P (cond (ltb a b) x y)
ltb_case P a b x y f g = go (ltb a b) (λ t. f (ltb_yes t)) (λ t. g (ltb_no t))
  where
    go : (t : Bool) → (T t → P x) → (T (not t) → P y) → P (cond t x y)
    go true f g = f tt
    go false f g = g tt

-- what grows step by step grows
rising : (f : ℕ → ℕ) → ((n : ℕ) → f n ≤ f (suc n)) → (m n : ℕ) → m ≤ n → f m ≤ f n
rising f up m zero h = subst (λ (k : ℕ). f k ≤ f zero) (omega arith) (le_refl (f zero))
rising f up m (suc n) h =
    ⊎_elim (λ e. subst (λ (k : ℕ). f k ≤ f (suc n)) (sym e) (le_refl (f (suc n)))) (λ l. le_trans (rising f up m n (omega arith)) (up n)) (eq-or-lt_of_le h)

-- a test that passes at every number below n
abbrev pub all_below : (ℕ → Bool) → ℕ → Bool
all_below f zero = true
all_below f (suc n) = f n && all_below f n

pub below : (f : ℕ → Bool) (n : ℕ) → T (all_below f n) → (k : ℕ) → k < n → T (f k)
below f zero t k h = absurd (omega arith)
below f (suc n) t k h =
    let p = and_yes (f n) (all_below f n) t in
    ⊎_elim (λ (e : suc k ≡ suc n). subst (λ (m : ℕ). T (f m)) (omega arith) p.0) (λ l. below f n p.1 k (omega arith)) (eq-or-lt_of_le h)

-- ---- years

-- the leap years from year 1 to year n
unfoldable pub leaps_to : ℕ → ℕ
leaps_to n = n / 4 - n / 100 + n / 400

-- a quotient grows by one where the divisor divides
grown : (p q m : ℕ) → (m ≡ 0 → q ≡ p + 1) → (m ≢ 0 → q ≡ p) → q ≡ p + cond (eqb m 0) 1 0
grown p q m f g = go (eqb m 0) refl
  where
    go : (t : Bool) → eqb m 0 ≡ t → q ≡ p + cond t 1 0
    go true e = f (eqb-true m 0 e)
    go false e = let h : q ≡ p = g (eqb-false m 0 e) in omega arith

-- the three rules together: what 400 divides 100 divides, and what 100 divides 4 divides
leap_count : (a b c : Bool) (p q r p' q' r' : ℕ) → (b ≡ true → a ≡ true) → (c ≡ true → b ≡ true) → q ≤ p →
    p' ≡ p + cond a 1 0 → q' ≡ q + cond b 1 0 → r' ≡ r + cond c 1 0 →
    p' - q' + r' ≡ p - q + r + cond (a && (not b || c)) 1 0
leap_count true true true p q r p' q' r' f g h i j k = omega arith
leap_count true true false p q r p' q' r' f g h i j k = omega arith
leap_count true false true p q r p' q' r' f g h i j k = let z : ◌≡◌ {A = Bool} false true = g refl in absurd (subst T (sym z) tt)
leap_count true false false p q r p' q' r' f g h i j k = omega arith
leap_count false true true p q r p' q' r' f g h i j k = absurd (subst T (sym (f refl)) tt)
leap_count false true false p q r p' q' r' f g h i j k = absurd (subst T (sym (f refl)) tt)
leap_count false false true p q r p' q' r' f g h i j k = absurd (subst T (sym (g refl)) tt)
leap_count false false false p q r p' q' r' f g h i j k = omega arith

leap_step : (n y : ℕ) → n + 1 ≡ y → leaps_to y ≡ leaps_to n + leap_day (is_leap y)
unfolding is_leap leaps_to
leap_step n y h =
    leap_count (eqb (y % 4) 0) (eqb (y % 100) 0) (eqb (y % 400) 0) (n / 4) (n / 100) (n / 400) (y / 4) (y / 100) (y / 400)
    (λ e. let f : y % 100 ≡ 0 = eqb-true _ _ e in eq-eqb (y % 4) 0 (omega arith))
    (λ e. let f : y % 400 ≡ 0 = eqb-true _ _ e in eq-eqb (y % 100) 0 (omega arith))
    (omega arith)
    (grown (n / 4) (y / 4) (y % 4) (λ e. omega arith) (λ e. omega arith))
    (grown (n / 100) (y / 100) (y % 100) (λ e. omega arith) (λ e. omega arith))
    (grown (n / 400) (y / 400) (y % 400) (λ e. omega arith) (λ e. omega arith))

pub year_days_lem : (leap : Bool) → year_days leap ≡ 365 + leap_day leap
year_days_lem true = refl
year_days_lem false = refl

pub leaps_rise : (m n : ℕ) → m ≤ n → leaps_to m ≤ leaps_to n
leaps_rise = rising leaps_to (λ n. omega (arith, leap_step n (suc n) (omega arith)))

pub leaps_1969 : 477 ≡ leaps_to 1969
unfolding leaps_to
leaps_1969 = refl

-- the days of n years from 1970 on: 365 each, and the leap years of 1 to 1969 + n but for the 477 of 1 to 1969
pub years_sum : (n : ℕ) → days_of_years n + 477 ≡ 365 * n + leaps_to (1969 + n)
unfolding days_of_years
years_sum zero = omega (arith, leaps_1969)
years_sum (suc n) =
    let e : 1969 + suc n ≡ 1970 + n = omega arith in
    omega (arith, years_sum n, year_days_lem (is_leap (1970 + n)), leap_step (1969 + n) (1970 + n) (omega arith), ap leaps_to e)

pub years_none : days_of_years 0 ≡ 0
unfolding days_of_years
years_none = refl

pub years_suc : (n : ℕ) → days_of_years (suc n) ≡ days_of_years n + year_days (is_leap (1970 + n))
unfolding days_of_years
years_suc n = refl

pub years_rise : (m n : ℕ) → m ≤ n → days_of_years m ≤ days_of_years n
years_rise = rising days_of_years (λ n. omega (arith, years_suc n))

-- ---- months

pub before_suc : (leap : Bool) (month : ℕ) → days_before leap (suc month) ≡ days_before leap month + month_days leap month
unfolding days_before
before_suc leap month = refl

pub before_rises : (leap : Bool) (m n : ℕ) → m ≤ n → days_before leap m ≤ days_before leap n
before_rises leap = rising (days_before leap) (λ n. omega (arith, before_suc leap n))

-- January is the first month, and the twelve are the year
pub before_first : (leap : Bool) → days_before leap 1 ≡ 0
unfolding days_before month_days
before_first leap = refl

pub before_end : (leap : Bool) → days_before leap 13 ≡ year_days leap
unfolding days_before month_days
before_end true = refl
before_end false = refl

-- a month that has a day is one of the twelve, and has at most 31
pub record Month (month days : ℕ) : Type 0 where
  pub from : 1 ≤ month
  pub to : month ≤ 12
  pub short : days ≤ 31

pub month_known : (leap : Bool) (month : ℕ) → 1 ≤ month_days leap month → Month month (month_days leap month)
unfolding month_days
month_known leap zero h = absurd (omega arith)
month_known leap (suc m) h = go (dec_le 12 m)
  where
    short : (leap : Bool) → m < 12 → get_or (month_lengths leap) (suc m) 0 ≤ 31
    short true l = leb_yes (below (λ n. leb (get_or (month_lengths true) (suc n) 0) 31) 12 tt m l)
    short false l = leb_yes (below (λ n. leb (get_or (month_lengths false) (suc n) 0) 31) 12 tt m l)

    go : Dec (12 ≤ m) → Month (suc m) (get_or (month_lengths leap) (suc m) 0)
    go (yes l) = absurd (omega (arith, get_or-eq_default (month_lengths leap) 0 {n = suc m} (suc-le-suc l)))
    go (no l) = record { from = omega arith; to = omega arith; short = short leap (omega arith) }

-- each of the twelve has at least 28
pub month_long : (leap : Bool) (month : ℕ) → 1 ≤ month → month ≤ 12 → 28 ≤ month_days leap month
unfolding month_days
month_long leap zero h k = absurd (omega arith)
month_long true (suc m) h k = leb_yes (below (λ n. leb 28 (get_or (month_lengths true) (suc n) 0)) 12 tt m (omega arith))
month_long false (suc m) h k = leb_yes (below (λ n. leb 28 (get_or (month_lengths false) (suc n) 0)) 12 tt m (omega arith))
