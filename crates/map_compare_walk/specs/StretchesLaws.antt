-- What a walk over two tables in order keeps: where it starts, goes on and ends. Assumes nothing.
use Rattle.std.specs.Prelude.{◌≡◌, ℕ, ◌-◌, ◌≤◌, ◌<◌, Bool, true, false, T, ◌||◌, List, [], ◌∷◌, length, leb, ltb, Option, Some, None}
use Rattle.std.proofs.Math.Path.{refl, sym, ap}
use Rattle.std.proofs.Common.{◌∙◌, arith}
use Rattle.std.proofs.Math.Decide.{dec_lt}
use borrow.Author.Tests.{leb-true, le-leb, lt-leb, ltb-true, lt-ltb}
use Rattle.theory.specs.Bools.{both}
use Rattle.map_rules.specs.Table.{Ordered, ordered}
use Rattle.map_rules.specs.Tests.{ordered_iff}
use Rattle.map_rules.specs.Pieces.{symbols}
use Rattle.map_rules.specs.Memory.{same_value, row_at, rows_from, rows}
use Rattle.map_rules.specs.MemoryLaws.{length_rows}
use Rattle.map_compare_rules.specs.Compare.{compared}
use Rattle.map_compare_rules.specs.Laws.{compared_length}
use Rattle.map_compare_rules.specs.Memory.{stretches_of}
use Rattle.map_compare_walk.specs.declared.walk.Position.{Position}
use Rattle.map_compare_walk.specs.declared.walk.Stretch.{Stretch}
use Rattle.map_compare_walk.specs.declared.walk.Step.{Step}
use Rattle.map_compare_walk.specs.declared.tables.Tables.{Tables}
use Rattle.map_compare_walk.specs.declared.stretches.Walk.{Walk}
use Rattle.map_compare_walk.specs.Walk.{headed, from, ahead, InOrder, Sound, sound, Ready, More, Stepped, stretch_of, told_of}
use Rattle.map_compare_walk.specs.WalkLaws.{from_end, headed_zero, row_not_empty}

-- ---- two tables in order

pub ordered_test : (t : List ℕ) (n : ℕ) → Ordered (rows t n) → ordered same_value (rows t n) ≡ true
ordered_test t n w = go (ordered same_value (rows t n)) ((ordered_iff same_value symbols (rows t n)).1 w)
  where
    go : (b : Bool) → T b → b ≡ true
    go true t = refl
    go false t = absurd t

pub in_order : (w : Tables) → InOrder w.left.now w.left_used w.right.now w.right_used
in_order w = record {
  left_fits = w.left_fits;
  right_fits = w.right_fits;
  left_few = w.left_few;
  right_few = w.right_few;
  left_order = (ordered_iff same_value symbols (rows w.left.now w.left_used)).0 (rw w.left_order tt);
  right_order = (ordered_iff same_value symbols (rows w.right.now w.right_used)).0 (rw w.right_order tt);
}

-- at most two stretches an interval
pub few_stretches : (left : List ℕ) (n : ℕ) (right : List ℕ) (m : ℕ) → InOrder left n right m → length (stretches_of left n right m) ≤ 262144
few_stretches left n right m w =
    omega (arith, compared_length same_value (rows left n) (rows right m), length_rows left 0 n, length_rows right 0 m, w.left_few, w.right_few)

-- ---- the start of the walk, and its end

abbrev pub start : Position
start = record { place = 0; from = 0 }

from_start : (t : List ℕ) (n : ℕ) → from t n start ≡ rows t n
unfolding from
from_start t n = let e : n - 0 ≡ n = omega arith in ap (λ (k : ℕ). headed 0 (rows_from t 0 k)) e ∙ headed_zero (rows t n)

pub ahead_start : (left : List ℕ) (n : ℕ) (right : List ℕ) (m : ℕ) → ahead left n right m start start ≡ stretches_of left n right m
unfolding ahead
ahead_start left n right m = λ i. compared same_value (from_start left n i) (from_start right m i)

pub sound_start : (t : List ℕ) (n : ℕ) → Ordered (rows t n) → Sound t n start
sound_start t n w = record { within = omega arith; not_over = λ h. omega (arith, row_not_empty t n 0 w h) }

pub ready_start : (left : List ℕ) (n : ℕ) (right : List ℕ) (m : ℕ) → InOrder left n right m → Ready left n right m start start
ready_start left n right m w = record {
  tables = w;
  at_left = sound_start left n w.left_order;
  at_right = sound_start right m w.right_order;
}

pub ahead_end : (left : List ℕ) (n : ℕ) (right : List ℕ) (m : ℕ) (l r : Position) → n ≤ l.place → m ≤ r.place → ahead left n right m l r ≡ []
unfolding ahead compared
ahead_end left n right m l r h k = λ i. compared same_value (from_end left n l h i) (from_end right m r k i)

-- ---- a position's test

pub sound_test : (t : List ℕ) (n : ℕ) (p : Position) → Sound t n p → sound t n p ≡ true
unfolding sound
sound_test t n p w = rw (le-leb p.place n w.within) (go (dec_lt p.place n))
  where
    go : Dec (p.place < n) → leb n p.place || ltb p.from (row_at t p.place).end ≡ true
    go (yes h) = rw (lt-leb n p.place h, lt-ltb p.from (row_at t p.place).end (w.not_over h)) refl
    go (no h) = rw (le-leb n p.place (omega arith)) refl

pub sound_yes : (t : List ℕ) (n : ℕ) (p : Position) → sound t n p ≡ true → Sound t n p
unfolding sound
sound_yes t n p e =
    let w = both (leb p.place n) (leb n p.place || ltb p.from (row_at t p.place).end) e in
    record { within = leb-true p.place n w.0; not_over = λ h. go h w.1 }
  where
    go : p.place < n → leb n p.place || ltb p.from (row_at t p.place).end ≡ true → p.from < (row_at t p.place).end
    go h f = ltb-true p.from (row_at t p.place).end (rw (lt-leb n p.place h) at f)

pub ready : (w : Walk) → Ready w.tables.left.now w.tables.left_used w.tables.right.now w.tables.right_used w.left w.right
ready w = record {
  tables = in_order w.tables;
  at_left = sound_yes w.tables.left.now w.tables.left_used w.left w.left_sound;
  at_right = sound_yes w.tables.right.now w.tables.right_used w.right w.right_sound;
}

-- one of the tables is not used up
pub more_left : {n m : ℕ} {l r : Position} → l.place < n → More n m l r
more_left h = record { some_left = λ k. absurd (omega arith) }

pub more_right : {n m : ℕ} {l r : Position} → r.place < m → More n m l r
more_right h = record { some_left = λ k. h }

-- ---- a step in front of what is still to come

module _ {left : List ℕ} {n : ℕ} {right : List ℕ} {m : ℕ} {l r : Position} {s : Step} (g : Stepped left n right m l r s) where
  pub told_first : {x : Stretch} → s.stretch ≡ Some x → ahead left n right m l r ≡ stretch_of x ∷ ahead left n right m s.left s.right
  told_first e = sym g.comes ∙ ap (λ (o : Option Stretch). told_of o (ahead left n right m s.left s.right)) e

  pub told_none : s.stretch ≡ None → ahead left n right m s.left s.right ≡ ahead left n right m l r
  told_none e = sym (ap (λ (o : Option Stretch). told_of o (ahead left n right m s.left s.right)) e) ∙ g.comes
