-- What the steps of a build over time come to: by what stands under an interval's symbol, one interval or mapping after the other, and
-- in memory. Assumes nothing.
use Rattle.std.proofs.Math.Path.{◌≡◌, refl, ap}
use Rattle.std.proofs.Common.{sym, ◌∙◌, length-append}
use Rattle.std.specs.Prelude.{◌≢◌, ◌&&◌, drop, replicate, ltb, eqb, leb}
use Prim.Native.Nat.{ℕ, zero, suc, ◌+◌, ◌-◌, ◌*◌, ◌≤◌, ◌<◌, max}
use native.Mathlib.Omega.{arith}
use mathlib.Core.List.{List, [], ◌∷◌, ◌++◌}
use Rattle.std.proofs.Math.ListN.{length, get_or}
use Rattle.std.proofs.lemmas.List.{replicate-append-replicate}
use Rattle.std.proofs.Math.Seq.{drop-nil, drop-append-add}
use Rattle.theory.specs.Answer.{Answer, answer}
use Rattle.theory.specs.RunsTools.{cond_case}
use Rattle.leaves_text.specs.NumberText.{number_text, some_digits, digits, is_digit, stuck}
use Rattle.leaves_days.specs.Days.{day_of, in_range}
use Rattle.leaves_days.specs.Calendar.{is_date, day_number}
use Rattle.map_rules.specs.Table.{Row, refused_by, stored}
use Rattle.map_rules.specs.Memory.{rows_bytes, row_bytes, rows_written}
use Rattle.map_rules.specs.MemoryLaws.{length_row}
use Rattle.metadata_rules.specs.declared.Interval.{Interval}
use Rattle.metadata_rules.specs.Metadata.{Mapping, mapping}
use Rattle.metadata_rules.specs.Words.{name_at, count_at, interval_at, stretch, mappings_from}
use Rattle.build_rules.specs.Reading.{Read, fault, value, and_then, read_of, text_of, number_in, day_in, day_length, moment_in, is_empty, direction_by}
use Rattle.build_rules.specs.declared.reading.Direction.{Direction}
use Rattle.build_rules.specs.declared.reading.Direction.TheVariants.{Forward, Inverse}
use Rattle.build_rules.specs.OverTime.{Step, stop, skip, give, reading, unless_empty, dated, forward_step, inverse_step, taken, stopped, built, onward, further, lay_intervals, lay_mapping, lay_mappings}

-- ---- what stands under an interval's symbol, once it is read

module _ {X : Type 0} (f : List ℕ → Step X) where
  -- a refusal
  pub text_stops : {r : Read (List ℕ)} {c : ℕ} → fault c ≡ r → stop c ≡ reading r f
  unfolding reading
  text_stops e = ap (λ (r : Read (List ℕ)). reading r f) e

  -- the skip
  pub text_skips : {r : Read (List ℕ)} {text : List ℕ} → value text ≡ r → length text ≡ 0 → skip ≡ reading r (λ text. unless_empty text (f text))
  unfolding reading unless_empty is_empty
  text_skips {text = []} e h = ap (λ (r : Read (List ℕ)). reading r (λ text. unless_empty text (f text))) e
  text_skips {text = b ∷ s} e h = absurd (omega arith)

  -- and else on with its text
  pub text_reads : {r : Read (List ℕ)} {text : List ℕ} → value text ≡ r → length text ≢ 0 → f text ≡ reading r (λ text. unless_empty text (f text))
  unfolding reading unless_empty is_empty
  text_reads {text = []} e h = absurd (h refl)
  text_reads {text = b ∷ s} e h = ap (λ (r : Read (List ℕ)). reading r (λ text. unless_empty text (f text))) e

-- ---- the dates

module _ (instrument symbol : ℕ) (x : Interval) where
  -- 11 for the start
  pub dated_start : {c : ℕ} → fault c ≡ moment_in x.start → stop c ≡ dated instrument symbol x
  unfolding dated reading
  dated_start e = rw (← e) refl

  -- then for the end
  pub dated_end : {a c : ℕ} → value a ≡ moment_in x.start → fault c ≡ moment_in x.end → stop c ≡ dated instrument symbol x
  unfolding dated reading
  dated_end e d = rw (← e, ← d) refl

  -- and else the row
  pub dated_row : {a b : ℕ} → value a ≡ moment_in x.start → value b ≡ moment_in x.end
      → give (record { instrument = instrument; start = a; end = b; value = symbol }) ≡ dated instrument symbol x
  unfolding dated reading
  dated_row e d = rw (← e, ← d) refl

-- what an interval's insert comes to
pub ruleset dating = (dated_start, dated_end, dated_row)

-- ---- a fault's number

-- a refusal that comes with no values: neither 6 nor 13
pub record Plain (c : ℕ) : Type 0 where
  pub no_field : c ≢ 6
  pub no_damage : c ≢ 13

abbrev pub PlainRead : {X : Type 0} → Read X → Type 0
PlainRead r = (c : ℕ) → r ≡ fault c → Plain c

abbrev pub PlainStep : {X : Type 0} → Step X → Type 0
PlainStep s = (c : ℕ) → s ≡ stop c → Plain c

numbered : (k c : ℕ) → k ≢ 6 → k ≢ 13 → k ≡ c → Plain c
numbered k c h i e = record { no_field = λ d. h (e ∙ d); no_damage = λ d. i (e ∙ d) }

fault_number : {X : Type 0} (k : ℕ) → k ≢ 6 → k ≢ 13 → PlainRead {X = X} (fault k)
fault_number k h i c e = numbered k c h i (cc)

value_plain : {X : Type 0} (x : X) → PlainRead (value x)
value_plain x c e = absurd (let z : ◌≡◌ {A = ℕ} 0 1 = cc in omega arith)

pub text_plain : (texts : List (List ℕ)) (n : ℕ) → PlainRead (text_of texts n)
unfolding text_of
text_plain texts n = cond_case (λ (r : Read (List ℕ)). PlainRead r) (ltb n (length texts)) _ _ (λ t. value_plain (get_or texts n [])) (λ t. fault_number 3 (omega arith) (omega arith))

-- an answer whose number is 0 or plain
PlainAnswer : Answer → Type 0
PlainAnswer a = PlainRead (read_of a)

done_plain : (v : ℕ) → PlainAnswer (answer 0 (v ∷ []))
unfolding PlainAnswer read_of
done_plain v = value_plain v

stuck_plain : (p : ℕ) → PlainAnswer (stuck p)
unfolding PlainAnswer read_of
stuck_plain p = fault_number 8 (omega arith) (omega arith)

digits_plain : (p v : ℕ) (s : List ℕ) → PlainAnswer (digits p v s)
unfolding digits
digits_plain p v [] = done_plain v
digits_plain p v (b ∷ s) =
    cond_case PlainAnswer (is_digit b && leb (v * 10 + (b - 48)) 4294967295) _ _ (λ t. digits_plain (p + 1) (v * 10 + (b - 48)) s) (λ t. stuck_plain p)

some_plain : (p : ℕ) (s : List ℕ) → PlainAnswer (some_digits p s)
unfolding some_digits
some_plain p [] = stuck_plain p
some_plain p (b ∷ s) = digits_plain p 0 (b ∷ s)

text_number_plain : (s : List ℕ) → PlainAnswer (number_text s)
unfolding number_text
text_number_plain [] = stuck_plain 0
text_number_plain (b ∷ s) = cond_case PlainAnswer (eqb b 43) _ _ (λ t. some_plain 1 s) (λ t. some_plain 0 (b ∷ s))

pub number_plain : (text : List ℕ) → PlainRead (number_in text)
unfolding number_in PlainAnswer
number_plain text = text_number_plain text

day_plain : (date : ℕ) → PlainAnswer (day_of date)
unfolding day_of PlainAnswer read_of
day_plain date = cond_case PlainAnswer (is_date date && in_range date) (answer 0 (day_number date ∷ [])) (answer 11 []) (λ t. done_plain (day_number date)) (λ t. fault_number 11 (omega arith) (omega arith))

pub and_then_plain : {X Y : Type 0} (r : Read X) (f : X → Read Y) → PlainRead r → ((x : X) → PlainRead (f x)) → PlainRead (and_then r f)
unfolding and_then
and_then_plain (fault k) f h g c e = h c (ap fault (let d : k ≡ c = cc in d))
and_then_plain (value x) f h g c e = g x c e

pub moment_plain : (date : ℕ) → PlainRead (moment_in date)
unfolding moment_in day_in PlainAnswer
moment_plain date = and_then_plain (read_of (day_of date)) (λ day. value (day * day_length)) (day_plain date) (λ day. value_plain (day * day_length))

pub direction_plain : (i o : ℕ) → PlainRead (direction_by i o)
unfolding direction_by
direction_plain i o =
    cond_case (λ (r : Read Direction). PlainRead r) (eqb o 0) _ _ (λ t. value_plain Forward)
    (λ t. cond_case (λ (r : Read Direction). PlainRead r) (eqb i 0) _ _ (λ u. value_plain Inverse) (λ u. fault_number 9 (omega arith) (omega arith)))

reading_plain : {X Y : Type 0} (r : Read X) (f : X → Step Y) → PlainRead r → ((x : X) → PlainStep (f x)) → PlainStep (reading r f)
unfolding reading
reading_plain (fault k) f h g c e = h c (ap fault (let d : k ≡ c = cc in d))
reading_plain (value x) f h g c e = g x c e

unless_plain : {X : Type 0} (text : List ℕ) (s : Step X) → PlainStep s → PlainStep (unless_empty text s)
unfolding unless_empty
unless_plain text s h = cond_case (λ (s : Step _). PlainStep s) (is_empty text) skip s (λ t c e. absurd (let z : ◌≡◌ {A = ℕ} 0 1 = cc in omega arith)) (λ t. h)

dated_plain : (instrument symbol : ℕ) (x : Interval) → PlainStep (dated instrument symbol x)
unfolding dated
dated_plain instrument symbol x =
    reading_plain (moment_in x.start) _ (moment_plain x.start) (λ a.
    reading_plain (moment_in x.end) _ (moment_plain x.end) (λ b c e. absurd (let z : ◌≡◌ {A = ℕ} 0 1 = cc in omega arith)))

pub forward_plain : (texts : List (List ℕ)) (name : ℕ) (x : Interval) → PlainStep (forward_step texts name x)
unfolding forward_step
forward_plain texts name x =
    reading_plain (text_of texts x.symbol) _ (text_plain texts x.symbol) (λ text.
    unless_plain text _ (reading_plain (number_in text) _ (number_plain text) (λ i. dated_plain i name x)))

pub inverse_plain : (texts : List (List ℕ)) (instrument : ℕ) (x : Interval) → PlainStep (inverse_step texts instrument x)
unfolding inverse_step
inverse_plain texts instrument x =
    reading_plain (text_of texts x.symbol) _ (text_plain texts x.symbol) (λ text. unless_plain text _ (dated_plain instrument x.symbol x))

-- ---- one interval, one mapping after the other, over words

module _ (names room : ℕ) (step : Interval → Step (Row ℕ)) (t : ℕ) (v : List ℕ) where
  -- n intervals from the place o on, of number k and up, with none left
  pub intervals_end : (k o n : ℕ) (rows : List (Row ℕ)) → n ≡ 0 → lay_intervals names room step t k (stretch v o n) rows ≡ built rows
  unfolding lay_intervals stretch
  intervals_end k o n rows e = rw e refl

  intervals_first : (k o n : ℕ) (rows : List (Row ℕ)) → 0 < n
      → lay_intervals names room step t k (stretch v o n) rows
      ≡ onward t k (lay_intervals names room step t (k + 1) (stretch v (o + 1) (n - 1))) (taken names room (step (interval_at v o)) rows)
  unfolding lay_intervals stretch
  intervals_first k o zero rows h = absurd (omega arith)
  intervals_first k o (suc n) rows h = let e : suc n - 1 ≡ n = omega arith in rw e refl

  -- the first is taken
  pub intervals_turn : (k o n : ℕ) (rows ys : List (Row ℕ)) → 0 < n → taken names room (step (interval_at v o)) rows ≡ stored ys
      → lay_intervals names room step t k (stretch v o n) rows ≡ lay_intervals names room step t (k + 1) (stretch v (o + 1) (n - 1)) ys
  unfolding onward
  intervals_turn k o n rows ys h e = intervals_first k o n rows h ∙ ap (onward t k (lay_intervals names room step t (k + 1) (stretch v (o + 1) (n - 1)))) e

  -- or stops the build
  pub intervals_stop : (k o n : ℕ) (rows : List (Row ℕ)) (c : ℕ) → 0 < n → taken names room (step (interval_at v o)) rows ≡ refused_by c
      → lay_intervals names room step t k (stretch v o n) rows ≡ stopped c t k
  unfolding onward
  intervals_stop k o n rows c h e = intervals_first k o n rows h ∙ ap (onward t k (lay_intervals names room step t (k + 1) (stretch v (o + 1) (n - 1)))) e

module _ (room : ℕ) (texts : List (List ℕ)) (d : Direction) (m v : List ℕ) where
  -- n mappings from the place t on, whose intervals begin at the place o
  pub mappings_end : (t o n : ℕ) (rows : List (Row ℕ)) → n ≡ 0 → lay_mappings room texts d t (mappings_from m v t o n) rows ≡ built rows
  unfolding lay_mappings mappings_from
  mappings_end t o n rows e = rw e refl

  abbrev here : ℕ → ℕ → Mapping
  here t o = mapping (name_at m t) (stretch v o (count_at m t))

  mappings_first : (t o n : ℕ) (rows : List (Row ℕ)) → 0 < n
      → lay_mappings room texts d t (mappings_from m v t o n) rows
      ≡ further (lay_mappings room texts d (t + 1) (mappings_from m v (t + 1) (o + count_at m t) (n - 1))) (lay_mapping room texts d t (here t o) rows)
  unfolding lay_mappings mappings_from
  mappings_first t o zero rows h = absurd (omega arith)
  mappings_first t o (suc n) rows h = let e : suc n - 1 ≡ n = omega arith in rw e refl

  pub mappings_turn : (t o n : ℕ) (rows ys : List (Row ℕ)) → 0 < n
      → lay_mapping room texts d t (mapping (name_at m t) (stretch v o (count_at m t))) rows ≡ built ys
      → lay_mappings room texts d t (mappings_from m v t o n) rows ≡ lay_mappings room texts d (t + 1) (mappings_from m v (t + 1) (o + count_at m t) (n - 1)) ys
  unfolding further
  mappings_turn t o n rows ys h e =
      mappings_first t o n rows h ∙ ap (further (lay_mappings room texts d (t + 1) (mappings_from m v (t + 1) (o + count_at m t) (n - 1)))) e

  pub mappings_stop : (t o n : ℕ) (rows : List (Row ℕ)) (c s k : ℕ) → 0 < n
      → lay_mapping room texts d t (mapping (name_at m t) (stretch v o (count_at m t))) rows ≡ stopped c s k
      → lay_mappings room texts d t (mappings_from m v t o n) rows ≡ stopped c s k
  unfolding further
  mappings_stop t o n rows c s k h e =
      mappings_first t o n rows h ∙ ap (further (lay_mappings room texts d (t + 1) (mappings_from m v (t + 1) (o + count_at m t) (n - 1)))) e

-- ---- the memory

length_bytes : (xs : List (Row ℕ)) → length (rows_bytes xs) ≡ length xs * 24
unfolding rows_bytes
length_bytes [] = refl
length_bytes (x ∷ xs) = omega (arith, length-append (row_bytes x) (rows_bytes xs), length_row x, length_bytes xs)

-- places of 0, with the first few gone
drop_blank : (n k : ℕ) → drop {A = ℕ} k (replicate n 0) ≡ replicate (n - k) 0
drop_blank zero k = let e : 0 - k ≡ 0 = omega arith in rw e (drop-nil k)
drop_blank (suc n) zero = let e : suc n - 0 ≡ suc n = omega arith in rw e refl
drop_blank (suc n) (suc k) = let e : suc n - suc k ≡ n - k = omega arith in rw e (drop_blank n k)

-- rows in memory that held 0: the rows, and 0 in every other place
pub laid_blank : (long : ℕ) (xs : List (Row ℕ)) → rows_written (replicate long 0) 0 xs ≡ rows_bytes xs ++ replicate (long - length xs * 24) 0
unfolding rows_written
laid_blank long xs =
    let a : (0 - length xs) * 24 ≡ 0 = omega arith in
    let b : max 0 (length xs) * 24 ≡ length xs * 24 = omega arith in
    rw (a, b) (ap (λ (bs : List ℕ). rows_bytes xs ++ bs) (drop_blank long (length xs * 24)))

drop_rows : (k : ℕ) (xs : List (Row ℕ)) (bs : List ℕ) → length xs * 24 ≤ k → drop k (rows_bytes xs ++ bs) ≡ drop (k - length xs * 24) bs
drop_rows k xs bs h =
    let e : length (rows_bytes xs) + (k - length xs * 24) ≡ k = omega (arith, length_bytes xs) in
    ap (λ (n : ℕ). drop n (rows_bytes xs ++ bs)) (sym e) ∙ drop-append-add (rows_bytes xs) bs (k - length xs * 24)

over_blank : (long : ℕ) (xs ys : List (Row ℕ)) → length xs * 24 ≤ long → length ys * 24 ≤ long
    → rows_written (rows_bytes xs ++ replicate (long - length xs * 24) 0) (length xs) ys ≡ rows_bytes ys ++ replicate (long - length ys * 24) 0
unfolding rows_written
over_blank long xs ys h k =
    let x : ℕ = max (length xs) (length ys) in
    let d : drop (x * 24) (rows_bytes xs ++ replicate (long - length xs * 24) 0) ≡ replicate (long - x * 24) 0 =
    (let e : long - length xs * 24 - (x * 24 - length xs * 24) ≡ long - x * 24 = omega arith in
    drop_rows (x * 24) xs (replicate (long - length xs * 24) 0) (omega arith)
    ∙ drop_blank (long - length xs * 24) (x * 24 - length xs * 24) ∙ ap (λ (n : ℕ). replicate n 0) e) in
    let e : (length xs - length ys) * 24 + (long - x * 24) ≡ long - length ys * 24 = omega arith in
    ap (λ (bs : List ℕ). rows_bytes ys ++ (replicate ((length xs - length ys) * 24) 0 ++ bs)) d
    ∙ ap (λ (bs : List ℕ). rows_bytes ys ++ bs) (replicate-append-replicate ((length xs - length ys) * 24) (long - x * 24) 0 ∙ ap (λ (n : ℕ). replicate n 0) e)

-- so rows written over others are as if they had been written first
pub written_again : (long : ℕ) (xs ys : List (Row ℕ)) → length xs * 24 ≤ long → length ys * 24 ≤ long
    → rows_written (rows_written (replicate long 0) 0 xs) (length xs) ys ≡ rows_written (replicate long 0) 0 ys
written_again long xs ys h k = ap (λ (t : List ℕ). rows_written t (length xs) ys) (laid_blank long xs) ∙ over_blank long xs ys h k ∙ sym (laid_blank long ys)
