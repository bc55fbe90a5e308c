-- Why an instrument has a symbol at a moment, or none (RULES, Requests, No. 4): in an interval; the instrument is unknown; before its
-- first interval; after its last; in the gap between two neighbours. Over any type of value.
use Rattle.std.specs.Prelude.{◌≡◌, ℕ, suc, ◌≤◌, ◌<◌, ltb}
use Rattle.std.proofs.Math.Bool.{cond}
use Rattle.std.proofs.Math.Option.{Option, none, some}
use mathlib.Core.List.{List, [], ◌∷◌}
use Rattle.std.proofs.Math.ListN.{get_elem?}
use Rattle.theory.specs.Runs.{Interval}
use Rattle.map_rules.specs.Table.{Row, group}
use Rattle.map_rules.specs.Lookup.{Finding}

-- a reason with the intervals that it names, numbered from 0 within the instrument: in number k; unknown; before number 0; after number
-- k, the last; between numbers k and k + 1
pub data Reason (A : Type 0) : Type 0 where
  in_one : ℕ → Interval A → Reason A
  unknown : Reason A
  before : Interval A → Reason A
  after : ℕ → Interval A → Reason A
  between : ℕ → Interval A → Interval A → Reason A

module _ {A : Type 0} where
  -- the reason among an instrument's intervals from x on, which is number k and has started
  unfoldable pub reason_from : ℕ → Interval A → List (Interval A) → ℕ → Reason A
  reason_from k x [] m = cond (ltb m x.end) (in_one k x) (after k x)
  reason_from k x (y ∷ ys) m =
      let r = reason_from (suc k) y ys m in
      cond (ltb m x.end) (in_one k x) (cond (ltb m y.start) (between k x y) r)

  -- the reason among an instrument's intervals
  unfoldable pub reason : List (Interval A) → ℕ → Reason A
  unfolding reason_from
  reason [] m = unknown
  reason (x ∷ xs) m = cond (ltb m x.start) (before x) (reason_from 0 x xs m)

  -- the reason in a table: instrument, moment
  unfoldable pub explained_rows : List (Row A) → ℕ → ℕ → Reason A
  unfolding reason group
  explained_rows xs i m = reason (group i xs) m

  -- when a reason holds: the intervals that it names are those of these numbers, and the moment lies there
  abbrev pub Holds : List (Interval A) → ℕ → Reason A → Type 0
  Holds g m (in_one k x) = (get_elem? g k ≡ some x) × (x.start ≤ m) × (m < x.end)
  Holds g m unknown = g ≡ []
  Holds g m (before x) = (get_elem? g 0 ≡ some x) × (m < x.start)
  Holds g m (after k x) = (get_elem? g k ≡ some x) × (get_elem? g (suc k) ≡ none) × (x.end ≤ m)
  Holds g m (between k x y) = (get_elem? g k ≡ some x) × (get_elem? g (suc k) ≡ some y) × (x.end ≤ m) × (m < y.start)

  -- the intervals that a reason names
  unfoldable pub named_by : Reason A → List (Interval A)
  named_by (in_one k x) = x ∷ []
  named_by unknown = []
  named_by (before x) = x ∷ []
  named_by (after k x) = x ∷ []
  named_by (between k x y) = x ∷ y ∷ []

  -- the value that a reason tells of
  unfoldable pub said_by : Reason A → Option A
  said_by (in_one k x) = some x.value
  said_by unknown = none
  said_by (before x) = none
  said_by (after k x) = none
  said_by (between k x y) = none

  -- the hint that a lookup leaves: the last interval that has started; where none has, the hint stays
  unfoldable pub hint_by : Reason A → ℕ → ℕ
  hint_by (in_one k x) h = k
  hint_by unknown h = h
  hint_by (before x) h = h
  hint_by (after k x) h = k
  hint_by (between k x y) h = k

  -- what a lookup finds where this is the reason
  abbrev pub finding_by : Reason A → ℕ → Finding A
  finding_by r h = record { said = said_by r; hint = hint_by r h }
