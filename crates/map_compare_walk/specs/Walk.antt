-- The walk over two tables side by side: what two heads give, what is still to come from two positions, and what a turn promises.
use Rattle.std.specs.Prelude as std
use Rattle.std.specs.Prelude.{◌≡◌, ℕ, zero, suc, ◌+◌, ◌-◌, ◌*◌, ◌≤◌, ◌<◌, max, Bool, true, false, not, ◌&&◌, ◌||◌, cond, ◌⊎◌, List, [], ◌∷◌, length, leb, ltb, eqb}
use Rattle.std.specs.Bool.{then_some}
use Rattle.std.proofs.Math.Option.{Option, none, some}
use Rattle.theory.specs.Answer.{bit}
use Rattle.map_rules.specs.Table.{Row, Ordered}
use Rattle.map_rules.specs.Memory.{same_value, width, row_at, rows_from, rows}
use Rattle.map_table.specs.declared.interval.Interval.{Interval}
use Rattle.map_compare_rules.specs.Compare.{Difference, Stretches, stretch, over, since, compared}
use Rattle.map_compare_rules.specs.Memory.{Value}
use Rattle.map_compare_walk.specs.declared.walk.Position.{Position}
use Rattle.map_compare_walk.specs.declared.walk.Onward.{Onward}
use Rattle.map_compare_walk.specs.declared.walk.Onward.TheVariants.{On, Stays}
use Rattle.map_compare_walk.specs.declared.walk.Turn.{Turn}
use Rattle.map_compare_walk.specs.declared.walk.Stretch.{Stretch}
use Rattle.map_compare_walk.specs.declared.walk.Step.{Step}

-- ---- one turn

-- the head goes on; it stays, and counts from a moment
abbrev pub goes_on : Onward
goes_on = On

abbrev pub cut_to : ℕ → Onward
cut_to m = Stays m

-- by how many places it goes on, and the moment from which the head then counts
abbrev pub step_of : Onward → ℕ
step_of On = 1
step_of (Stays m) = 0

abbrev pub moment_of : Onward → ℕ
moment_of On = 0
moment_of (Stays m) = m

abbrev pub turn_by : Bool → Bool → ℕ → ℕ → Onward → Onward → Turn
turn_by l r a b x y = record { left = l; right = r; start = a; end = b; x = x; y = y }

module _ {A : Type 0} (same : A → A → Bool) where
  -- what two heads give that overlap and start at the same moment: both up to where the first of them ends
  unfoldable pub both_of : Row A → Row A → Turn
  both_of x y =
      let d : Bool = not (same x.value y.value) in
      cond (ltb x.end y.end) (turn_by d d x.start x.end goes_on (cut_to x.end))
      (cond (ltb y.end x.end) (turn_by d d x.start y.end (cut_to y.end) goes_on) (turn_by d d x.start x.end goes_on goes_on))

  -- what two heads give: one that is over before the other starts, whole; else the part of the earlier one before the later one starts;
  -- else both
  unfoldable pub turn_of : Row A → Row A → Turn
  turn_of x y =
      cond (over x y) (turn_by true false x.start x.end goes_on (cut_to y.start))
      (cond (over y x) (turn_by false true y.start y.end (cut_to x.start) goes_on)
      (cond (ltb x.start y.start) (turn_by true false x.start y.start (cut_to y.start) (cut_to y.start))
      (cond (ltb y.start x.start) (turn_by false true y.start x.start (cut_to x.start) (cut_to x.start)) (both_of x y))))

-- the instrument of a turn's stretch
unfoldable pub instrument_of : Bool → ℕ → ℕ → ℕ
instrument_of true i j = i
instrument_of false i j = j

module _ {A : Type 0} where
  -- a side that says something, or nothing
  unfoldable pub saying : Bool → A → Option A
  saying true v = some v
  saying false v = none

  -- the stretch of a turn
  unfoldable pub part_of : Turn → Row A → Row A → Row (Difference A)
  unfolding saying instrument_of
  part_of t x y = stretch (instrument_of t.left x.instrument y.instrument) t.start t.end (saying t.left x.value) (saying t.right y.value)

-- in front of others, where a side says something
unfoldable pub told : {X : Type 0} → Bool → Bool → X → List X → List X
told l r d ds = cond (l || r) (d ∷ ds) ds

-- what is left of a head, which goes on or counts from a moment, and the rows behind it
unfoldable pub remains : {A : Type 0} → ℕ → ℕ → Row A → List (Row A) → List (Row A)
remains zero m x xs = since m x ∷ xs
remains (suc n) m x xs = xs

-- ---- positions

-- the head of a table at a position
unfoldable pub head_at : List ℕ → Position → Row Value
head_at t p = since (max p.from (row_at t p.place).start) (row_at t p.place)

-- rows of which the first counts from a moment
unfoldable pub headed : {A : Type 0} → ℕ → List (Row A) → List (Row A)
headed m [] = []
headed m (x ∷ xs) = since (max m x.start) x ∷ xs

-- what is left of a table with n in use
unfoldable pub from : List ℕ → ℕ → Position → List (Row Value)
unfolding headed
from t n p = headed p.from (rows_from t p.place (n - p.place))

-- the stretches still to come
unfoldable pub ahead : List ℕ → ℕ → List ℕ → ℕ → Position → Position → Stretches Value
ahead left n right m l r = compared same_value (from left n l) (from right m r)

-- the turns that there can still be: two an interval, one less where both heads start at the same moment
unfoldable pub turns_left : List ℕ → ℕ → List ℕ → ℕ → Position → Position → ℕ
turns_left left n right m l r = 2 * (n - l.place) + 2 * (m - r.place) - bit (eqb (head_at left l).start (head_at right r).start)

-- ---- contracts

-- two tables in order, of at most 65,536 intervals
pub record InOrder (left : List ℕ) (n : ℕ) (right : List ℕ) (m : ℕ) : Type 0 where
  pub left_fits : n * width ≤ length left
  pub right_fits : m * width ≤ length right
  pub left_few : n ≤ 65536
  pub right_few : m ≤ 65536
  pub left_order : Ordered (rows left n)
  pub right_order : Ordered (rows right m)

-- a position in a table: its head is not over
pub record Sound (t : List ℕ) (n : ℕ) (p : Position) : Type 0 where
  pub within : p.place ≤ n
  pub not_over : p.place < n → p.from < (row_at t p.place).end

-- the test for it
unfoldable pub sound : List ℕ → ℕ → Position → Bool
sound t n p = leb p.place n && (leb n p.place || ltb p.from (row_at t p.place).end)

pub record Ready (left : List ℕ) (n : ℕ) (right : List ℕ) (m : ℕ) (l r : Position) : Type 0 where
  pub tables : InOrder left n right m
  pub at_left : Sound left n l
  pub at_right : Sound right m r

-- one of the tables is not used up
pub record More (n m : ℕ) (l r : Position) : Type 0 where
  pub some_left : n ≤ l.place → r.place < m

-- the position of a table after a turn
abbrev pub moved : Position → Onward → Position
moved p o = record { place = p.place + step_of o; from = moment_of o }

-- a side of the code that says something, or nothing
abbrev pub said : std.Option ℕ → Option Value
said std.None = none
said (std.Some v) = some v

-- the stretch of a turn, if one of the heads says something
unfoldable pub spoken : Interval → Interval → Turn → std.Option Stretch
unfolding instrument_of
spoken x y t = then_some (t.left || t.right) (record {
  instrument = instrument_of t.left x.instrument y.instrument;
  start = t.start;
  end = t.end;
  left = then_some t.left x.symbol;
  right = then_some t.right y.symbol;
})

-- a step of the code: the stretch of a turn, and the new positions
unfoldable pub taken_of : Interval → Interval → Turn → Position → Position → Step
unfolding spoken
taken_of x y t l r = record { stretch = spoken x y t; left = moved l t.x; right = moved r t.y }

-- a stretch of the code as a row
abbrev pub stretch_of : Stretch → Row (Difference Value)
stretch_of s = stretch s.instrument s.start s.end (said s.left) (said s.right)

-- in front of others, if it is one
abbrev pub told_of : std.Option Stretch → Stretches Value → Stretches Value
told_of std.None ds = ds
told_of (std.Some s) ds = stretch_of s ∷ ds

-- a step: its stretch, then what is to come from the new positions, is what was to come; and it comes nearer to the end
pub record Stepped (left : List ℕ) (n : ℕ) (right : List ℕ) (m : ℕ) (l r : Position) (s : Step) : Type 0 where
  pub comes : told_of s.stretch (ahead left n right m s.left s.right) ≡ ahead left n right m l r
  pub ready : Ready left n right m s.left s.right
  pub nearer : turns_left left n right m s.left s.right < turns_left left n right m l r
