-- The map over time (RULES, The map over time) as a list of rows: each is an interval of an instrument. The value type stays a
-- parameter: here it is a symbol number.
use Rattle.std.specs.Prelude.{◌≡◌, ℕ, ◌≤◌, ◌<◌, Bool, ◌&&◌, length, leb, ltb, eqb}
use Rattle.std.proofs.Math.Bool.{true, false, cond}
use Rattle.std.proofs.Math.Option.{Option}
use mathlib.Core.List.{List, [], ◌∷◌, ◌++◌, map}
use Rattle.theory.specs.Runs.{Interval, interval, answer_at, Ahead, overwrite, apart}
use Rattle.leaves_limits.specs.Limits.{most_names, most_room}

-- an instrument's value from start to the moment before end
pub record Row (A : Type 0) : Type 0 where
  pub instrument : ℕ
  pub start : ℕ
  pub end : ℕ
  pub value : A

module _ {A : Type 0} where
  -- a row without its instrument
  abbrev pub interval_of : Row A → Interval A
  interval_of x = interval x.start x.end x.value

  -- an interval of an instrument
  abbrev pub row_of : ℕ → Interval A → Row A
  row_of i x = record { instrument = i; start = x.start; end = x.end; value = x.value }

  -- x, if it is of the instrument i, in front of others
  unfoldable pub picked : ℕ → Row A → List (Interval A) → List (Interval A)
  picked i x rs = cond (eqb x.instrument i) (interval_of x ∷ rs) rs

  -- the intervals of an instrument
  unfoldable pub group : ℕ → List (Row A) → List (Interval A)
  unfolding picked
  group i [] = []
  group i (x ∷ xs) = picked i x (group i xs)

  -- the rows of lower instruments
  unfoldable pub below : ℕ → List (Row A) → List (Row A)
  below i [] = []
  below i (x ∷ xs) = let r = below i xs in cond (ltb x.instrument i) (x ∷ r) r

  -- the rows of higher instruments
  unfoldable pub above : ℕ → List (Row A) → List (Row A)
  above i [] = []
  above i (x ∷ xs) = let r = above i xs in cond (ltb i x.instrument) (x ∷ r) r

  -- intervals as rows of an instrument
  unfoldable pub tagged : ℕ → List (Interval A) → List (Row A)
  tagged i rs = map (λ r. row_of i r) rs

  -- the answer for an instrument at a moment: the value of its first interval with start <= moment < end, else nothing
  unfoldable pub answer_for : List (Row A) → ℕ → ℕ → Option A
  unfolding group answer_at
  answer_for xs i m = answer_at (group i xs) m

  -- x may stand before these: the next is of a higher instrument, or of the same one and well apart
  abbrev pub AheadRow : Row A → List (Row A) → Type 0
  AheadRow x [] = Unit {0}
  AheadRow x (y ∷ ys) = (x.instrument ≤ y.instrument) × (x.instrument ≡ y.instrument → Ahead x.end x.value (interval_of y ∷ []))

  -- the order part of well-formed: sorted by instrument; for each instrument the intervals are non-empty, sorted by start,
  -- disjoint, and two that touch have different values (RULES, The map over time)
  abbrev pub Ordered : List (Row A) → Type 0
  Ordered [] = Unit {0}
  Ordered (x ∷ xs) = (x.start < x.end) × AheadRow x xs × Ordered xs

  -- the other part: every value is known
  unfoldable pub all_known : (A → Bool) → List (Row A) → Bool
  all_known known [] = true
  all_known known (x ∷ xs) = known x.value && all_known known xs

-- the outcome of an insert: refused by the rules' number, or done with these rows
pub data Outcome (X : Type 0) : Type 0 where
  refused_by : ℕ → Outcome X
  stored : List X → Outcome X

-- what is stored after an outcome: a refused insert changes nothing
unfoldable pub now_stored : {X : Type 0} → List X → Outcome X → List X
now_stored xs (refused_by c) = xs
now_stored xs (stored ys) = ys

-- 2: the outcome would not fit the room
unfoldable pub if_room : {X : Type 0} → ℕ → List X → Outcome X
if_room room ys = cond (ltb room (length ys)) (refused_by 2) (stored ys)

-- a table's room is 0 to 65,536, and the number in use is within it; 15 where not (RULES, Numbers the desk lives by)
unfoldable pub room_fits : ℕ → ℕ → Bool
room_fits room used = leb room most_room && leb used room

-- at most 4,096 names; 15 where there are more
unfoldable pub names_fit : ℕ → Bool
names_fit names = leb names most_names

module _ {A : Type 0} (same : A → A → Bool) where
  -- the test for AheadRow
  unfoldable pub apart_row : Row A → List (Row A) → Bool
  unfolding apart
  apart_row x [] = true
  apart_row x (y ∷ ys) =
      cond (ltb x.instrument y.instrument) true
      (cond (ltb y.instrument x.instrument) false (apart same (interval_of x) (interval_of y ∷ [])))

  -- the test for Ordered
  unfoldable pub ordered : List (Row A) → Bool
  unfolding apart_row
  ordered [] = true
  ordered (x ∷ xs) = (ltb x.start x.end && apart_row x xs) && ordered xs

  -- an insert: its stretch overwritten among the intervals of its instrument, the other rows as they are
  unfoldable pub insert_rows : Row A → List (Row A) → List (Row A)
  unfolding below above tagged overwrite group
  insert_rows n xs =
      let i = n.instrument in
      below i xs ++ (tagged i (overwrite same (interval_of n) (group i xs)) ++ above i xs)

module _ {A : Type 0} (same : A → A → Bool) (known : ℕ → A → Bool) where
  -- well-formed, where so many names are known
  unfoldable pub well_formed : ℕ → List (Row A) → Bool
  unfolding ordered all_known
  well_formed names xs = ordered same xs && all_known (known names) xs

  -- an insert into a well-formed table, in order: 1; start = end is done and changes nothing; 3; 2
  unfoldable pub entered : ℕ → ℕ → Row A → List (Row A) → Outcome (Row A)
  unfolding if_room insert_rows
  entered names room n xs =
      cond (ltb n.end n.start) (refused_by 1)
      (cond (eqb n.start n.end) (stored xs)
      (cond (known names n.value) (if_room room (insert_rows same n xs)) (refused_by 3)))

  -- an insert: 15, 14, then as above
  unfoldable pub inserted : ℕ → ℕ → Row A → List (Row A) → Outcome (Row A)
  unfolding room_fits names_fit well_formed entered
  inserted names room n xs =
      cond (room_fits room (length xs) && names_fit names)
      (cond (well_formed names xs) (entered names room n xs) (refused_by 14))
      (refused_by 15)
