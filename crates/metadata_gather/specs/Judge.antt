-- The tests of a merge, and a loop's turn over what is left to test. Assumes nothing.
use Rattle.std.specs.Prelude.{◌≡◌, ℕ, zero, suc, ◌+◌, ◌-◌, ◌*◌, ◌≤◌, ◌<◌, Bool, ◌&&◌, cond, List, [], ◌∷◌, length, get_or, take, leb, ltb, Result, Ok, Err}
use Rattle.std.proofs.Math.Path.{refl, sym, ap}
use Rattle.std.proofs.Common.{◌∙◌}
use native.Mathlib.Omega.{arith}
use Rattle.std.proofs.Math.Bool.{true, false}
pub use Rattle.leaves_days.specs.Days.{known_date}
use Rattle.leaves.specs.declared.refusal.Refusal.{Refusal}
use Rattle.leaves.specs.declared.refusal.Refusal.TheVariants.{NoDate, UnknownSymbol, Reversed}
use Rattle.metadata_rules.specs.declared.Interval.{Interval}
use Rattle.metadata_rules.specs.Metadata.{every}
use Rattle.metadata_rules.specs.Words.{interval_at, stretch, name_at, names_from}
use Rattle.metadata_words.specs.Words.{rest, rest_cons, rest_nil}

-- 11: an interval's start and end are dates
unfoldable pub dated : Interval → Bool
dated x = known_date x.start && known_date x.end

-- 3: a name number was handed out; an interval's symbol was
unfoldable pub below : ℕ → ℕ → Bool
below names n = ltb n names

unfoldable pub known : ℕ → Interval → Bool
unfolding below
known names x = below names x.symbol

-- 1: an interval's start comes not after its end
unfoldable pub forward : Interval → Bool
forward x = leb x.start x.end

-- n words of m, from the place at on, each so many further on than the one before
unfoldable pub spaced : List ℕ → ℕ → ℕ → ℕ → List ℕ
spaced m stride at zero = []
spaced m stride at (suc n) = get_or m at 0 ∷ spaced m stride (at + stride) n

-- 11 before 3, 3 before 1
unfoldable pub judged_of : Bool → Bool → Bool → Result (Unit {0}) Refusal
judged_of dates names forwards = cond dates (cond names (cond forwards (Ok tt) (Err Reversed)) (Err UnknownSymbol)) (Err NoDate)

-- of intervals, where k says 3 of what else there is, and f says 1
unfoldable pub judged_by : ℕ → Bool → Bool → List Interval → Result (Unit {0}) Refusal
unfolding judged_of every
judged_by names k f xs = judged_of (every dated xs) (k && every (known names) xs) (f && every forward xs)

-- ---- laws

pub and_assoc : (a b c : Bool) → ((a && b) && c) ≡ (a && (b && c))
and_assoc true b c = refl
and_assoc false b c = refl

pub and_true : (a : Bool) → (a && true) ≡ a
and_true true = refl
and_true false = refl

-- one turn over the intervals from the place i up to the place n
module _ (names : ℕ) (v : List ℕ) (i n : ℕ) (k f : Bool) where
  pub judge_turn : {x : Interval} {b : Bool} → x ≡ interval_at v i → b ≡ dated x → b ≡ true → i < n
      → judged_by names (k && known names x) (f && forward x) (rest v (i + 1) n) ≡ judged_by names k f (rest v i n)
  unfolding judged_by every
  judge_turn {x} {b} e g t h =
      let d : dated (interval_at v i) ≡ true = ap dated (sym e) ∙ sym g ∙ t in
      rw (rest_cons v i n h, d, e) (rw (
        and_assoc k (known names (interval_at v i)) (every (known names) (rest v (i + 1) n)),
        and_assoc f (forward (interval_at v i)) (every forward (rest v (i + 1) n)),
      ) refl)

  pub judge_stop : {x : Interval} {b : Bool} → x ≡ interval_at v i → b ≡ dated x → b ≡ false → i < n → Err NoDate ≡ judged_by names k f (rest v i n)
  unfolding judged_by judged_of every
  judge_stop {x} {b} e g t h =
      let d : dated (interval_at v i) ≡ false = ap dated (sym e) ∙ sym g ∙ t in rw (rest_cons v i n h, d) refl

  pub judge_end : n ≤ i → judged_of true k f ≡ judged_by names k f (rest v i n)
  unfolding judged_by every
  judge_end h = rw (rest_nil v i n h, and_true k, and_true f) refl

-- one turn over numbers
module _ (p : ℕ → Bool) (m : List ℕ) (stride at i n : ℕ) where
  left : i < n → n - i ≡ suc (n - (i + 1))
  left h = omega arith

  pub spaced_turn : {b : Bool} → b ≡ p (get_or m at 0) → b ≡ true → i < n → every p (spaced m stride (at + stride) (n - (i + 1))) ≡ every p (spaced m stride at (n - i))
  unfolding every spaced
  spaced_turn {b} f g h = rw (left h, sym f ∙ g) refl

  pub spaced_stop : {b : Bool} → b ≡ p (get_or m at 0) → b ≡ false → i < n → false ≡ every p (spaced m stride at (n - i))
  unfolding every spaced
  spaced_stop {b} f g h = rw (left h, sym f ∙ g) refl

  pub spaced_end : n ≤ i → true ≡ every p (spaced m stride at (n - i))
  unfolding every spaced
  spaced_end h = let z : n - i ≡ 0 = omega arith in rw z refl

-- one after the other: the front of a list
further : (x : ℕ) (m : List ℕ) (t n : ℕ) → spaced (x ∷ m) 1 (suc t) n ≡ spaced m 1 t n
unfolding spaced
further x m t zero = refl
further x m t (suc n) =
    let z : suc t + 1 ≡ suc (t + 1) = omega arith in
    ap (λ (l : List ℕ). get_or m t 0 ∷ l) (ap (λ (u : ℕ). spaced (x ∷ m) 1 u n) z ∙ further x m (t + 1) n)

pub spaced_front : (m : List ℕ) (n : ℕ) → n ≤ length m → spaced m 1 0 n ≡ take n m
unfolding spaced
spaced_front [] zero h = refl
spaced_front [] (suc n) h = absurd (omega arith)
spaced_front (x ∷ m) zero h = refl
spaced_front (x ∷ m) (suc n) h = ap (λ (l : List ℕ). x ∷ l) (further x m 0 n ∙ spaced_front m n (omega arith))

-- every second: the names of mappings
pub spaced_names : (m : List ℕ) (n : ℕ) → spaced m 2 0 n ≡ names_from m 0 n
unfolding spaced names_from name_at
spaced_names m n = go n 0
  where
    go : (j t : ℕ) → spaced m 2 (2 * t) j ≡ names_from m t j
    go zero t = refl
    go (suc j) t = let z : 2 * t + 2 ≡ 2 * (t + 1) = omega arith in ap (λ (l : List ℕ). get_or m (2 * t) 0 ∷ l) (ap (λ (u : ℕ). spaced m 2 u j) z ∙ go j (t + 1))

-- the whole list of words
pub rest_all : (v : List ℕ) (n : ℕ) → rest v 0 n ≡ stretch v 0 n
unfolding rest
rest_all v n = let z : n - 0 ≡ n = omega arith in ap (stretch v 0) z
