-- Whether an interval covers a day, and the search for the one that counts. Assumes nothing.
use Rattle.std.specs.Prelude.{◌≡◌, refl, Bool, true, false, ◌&&◌, cond, List, [], ◌∷◌, leb, ltb, length, Option, Some, None, Result, Ok, Err}
use Rattle.std.proofs.Math.Path.{sym, ap}
use Rattle.std.proofs.Common.{◌∙◌, le-leb}
use Rattle.std.proofs.lemmas.Bool.{lt-leb}
use Prim.Native.Nat.{ℕ, suc, ◌+◌, ◌-◌, ◌/◌, ◌≤◌, ◌<◌}
use native.Mathlib.Omega.{arith}
use Rattle.theory.specs.Answer.{answer}
use Rattle.leaves.specs.Refusal.{number_of, refused}
use Rattle.leaves.specs.declared.refusal.Refusal.{Refusal}
use Rattle.leaves_days.specs.Days.{day_of}
use Rattle.metadata_rules.specs.declared.Interval.{Interval}
use Rattle.metadata_rules.specs.Words.{interval_at, stretch}
use Rattle.build_rules.specs.Reading.{Read, fault, value, and_then, day_in, intervals_in}
use Rattle.build_rules.specs.ReadingLaws.{day_value, day_fault}
use Rattle.build_rules.specs.PointInTime.{Counted, undated, none, counts, counts_from, counting}

-- whether an interval covers a day, by what the reading of its dates came to
unfoldable pub covered : ℕ → Read ℕ → Read ℕ → Read Bool
unfolding and_then
covered day s e = and_then s (λ a. and_then e (λ b. value (leb a day && ltb day b)))

-- what the search finds: a date that is none (11), nothing, or an interval; with the interval's number
abbrev pub counted_of : Result (Option (ℕ × Interval)) ℕ → Counted
counted_of (Err k) = undated k
counted_of (Ok None) = none
counted_of (Ok (Some p)) = counts p.0 p.1

-- ---- one interval, by what the reading of its dates answered

module _ (day s e : ℕ) where
  pub covered_bad_start : (r : Refusal) → refused r ≡ day_of s → fault (number_of r) ≡ covered day (day_in s) (day_in e)
  unfolding covered and_then
  covered_bad_start r p = ap (λ (d : Read ℕ). covered day d (day_in e)) (day_fault s r p)

  module _ (a : ℕ) (p : answer 0 (a ∷ []) ≡ day_of s) where
    pub covered_bad_end : (r : Refusal) → refused r ≡ day_of e → fault (number_of r) ≡ covered day (day_in s) (day_in e)
    unfolding covered and_then
    covered_bad_end r q = λ i. covered day (day_value s p i) (day_fault e r q i)

    covered_dated : (b : ℕ) → answer 0 (b ∷ []) ≡ day_of e → value (leb a day && ltb day b) ≡ covered day (day_in s) (day_in e)
    unfolding covered and_then
    covered_dated b q = λ i. covered day (day_value s p i) (day_value e q i)

    module _ (b : ℕ) (q : answer 0 (b ∷ []) ≡ day_of e) where
      pub covered_early : day < a → value (leb a day) ≡ covered day (day_in s) (day_in e)
      covered_early l = rw (lt-leb a day l) (rw (lt-leb a day l) at (covered_dated b q))

      pub covered_from : a ≤ day → value (ltb day b) ≡ covered day (day_in s) (day_in e)
      covered_from l = sym (ap (λ (t : Bool). value (t && ltb day b)) (le-leb a day l)) ∙ covered_dated b q

-- ---- the search

-- what a cover makes of the interval of number k, where the later ones come to this
abbrev pub by_cover : ℕ → Interval → Read Bool → Counted → Counted
by_cover k x (fault c) later = undated k
by_cover k x (value true) later = counts k x
by_cover k x (value false) later = later

-- one interval's cover decides, or the later ones do
counting_cover : (day k : ℕ) (x : Interval) (xs : List Interval)
    → counting day k (x ∷ xs) ≡ by_cover k x (covered day (day_in x.start) (day_in x.end)) (counting day (k + 1) xs)
unfolding counting counts_from covered and_then
counting_cover day k x xs = go (day_in x.start) (day_in x.end)
  where
    later : Counted
    later = counting day (k + 1) xs

    dated : (b : Bool) → cond b (counts k x) later ≡ by_cover k x (value b) later
    dated true = refl
    dated false = refl

    go : (a b : Read ℕ) → counts_from day k x a b later ≡ by_cover k x (covered day a b) later
    go (fault c) b = refl
    go (value a) (fault c) = refl
    go (value a) (value b) = dated (leb a day && ltb day b)

-- the search from the interval k on finds what the whole search does
pub record Passed (v : List ℕ) (day k : ℕ) : Type 0 where
  pub within : k ≤ length v / 3
  pub same : counting day k (stretch v k (length v / 3 - k)) ≡ counting day 0 (intervals_in v)

module _ (v : List ℕ) (day : ℕ) where
  pub passed_none : Passed v day 0
  passed_none =
      let b : length v / 3 - 0 ≡ length v / 3 = omega arith in
      record { within = omega arith; same = rw b refl }

  module _ (k : ℕ) (w : Passed v day k) where
    pub passed_all : length v / 3 ≤ k → none ≡ counting day 0 (intervals_in v)
    unfolding stretch counting
    passed_all h =
        let e : length v / 3 - k ≡ 0 = omega arith in
        sym (ap (λ (n : ℕ). counting day k (stretch v k n)) e) ∙ w.same

    module _ (h : k < length v / 3) (x : Interval) (r : x ≡ interval_at v k) (c : Read Bool) (q : c ≡ covered day (day_in x.start) (day_in x.end)) where
      abbrev rest : List Interval
      rest = stretch v (k + 1) (length v / 3 - (k + 1))

      here : by_cover k x c (counting day (k + 1) rest) ≡ counting day 0 (intervals_in v)
      unfolding stretch counting
      here =
          let n : length v / 3 - k ≡ suc (length v / 3 - (k + 1)) = omega arith in
          ap (λ (c : Read Bool). by_cover k x c (counting day (k + 1) rest)) q
          ∙ sym (counting_cover day k x rest)
          ∙ ap (λ (y : Interval). counting day k (y ∷ rest)) r
          ∙ sym (ap (λ (j : ℕ). counting day k (stretch v k j)) n)
          ∙ w.same

      pub passed_found : c ≡ value true → counts k x ≡ counting day 0 (intervals_in v)
      passed_found e = sym (ap (λ (c : Read Bool). by_cover k x c (counting day (k + 1) rest)) e) ∙ here

      pub passed_one : c ≡ value false → Passed v day (k + 1)
      passed_one e = record {
        within = omega arith;
        same = sym (ap (λ (c : Read Bool). by_cover k x c (counting day (k + 1) rest)) e) ∙ here;
      }

    pub passed_bad : k < length v / 3 → (x : Interval) → x ≡ interval_at v k → (n : ℕ) → fault n ≡ covered day (day_in x.start) (day_in x.end)
        → undated k ≡ counting day 0 (intervals_in v)
    passed_bad h x r n q = here h x r (fault n) q

-- what a cover and a turn of the search come to
pub ruleset covering = (covered_bad_start, covered_bad_end, covered_early)

pub ruleset searching = (passed_none, passed_all, passed_found, passed_one)
