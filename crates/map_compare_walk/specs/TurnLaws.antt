-- Each way through the tests of a turn is one law. Assumes nothing.
use Rattle.std.specs.Prelude.{◌≡◌, ◌≢◌, ℕ, ◌≤◌, ◌<◌, Bool, not, ◌&&◌, ◌||◌, ltb, eqb}
use Rattle.std.proofs.Math.Path.{sym, ap}
use Rattle.std.proofs.Common.{◌∙◌, arith, lt→ltb}
use Rattle.std.proofs.Math.Bool.{true, false}
use Rattle.std.proofs.Math.Dec.{leb, eqb_refl, not_T}
use Rattle.std.proofs.Math.Arith.{le→nltb}
use Rattle.std.proofs.Math.Facts.{eqb_yes}
use Rattle.theory.specs.Bools.{T_true, T_false}
use Rattle.theory.specs.RunsTools.{cond_yes, cond_no, cond_lt, cond_ge}
use Rattle.map_rules.specs.Table.{Row}
use Rattle.map_rules.specs.Memory.{same_value}
use Rattle.map_compare_rules.specs.Compare.{over}
use Rattle.map_compare_rules.specs.Memory.{Value}
use Rattle.map_compare_walk.specs.declared.walk.Turn.{Turn}
use Rattle.map_compare_walk.specs.Walk.{goes_on, cut_to, turn_by, both_of, turn_of, instrument_of}

module _ (x y : Row Value) where
  -- one is over before the other starts
  pub over_lower : x.instrument < y.instrument → true ≡ over x y
  unfolding over
  over_lower h =
      sym (ap (λ (b : Bool). b || (eqb x.instrument y.instrument && leb x.end y.start))
      (T_true (ltb x.instrument y.instrument) (lt→ltb x.instrument y.instrument h)))

  past : y.instrument ≤ x.instrument → over x y ≡ eqb x.instrument y.instrument && leb x.end y.start
  unfolding over
  past h =
      ap (λ (b : Bool). b || (eqb x.instrument y.instrument && leb x.end y.start))
      (T_false (ltb x.instrument y.instrument) (le→nltb x.instrument y.instrument h))

  pub over_own : {b : Bool} → x.instrument ≡ y.instrument → b ≡ leb x.end y.start → b ≡ over x y
  over_own e f =
      f ∙ sym (past (omega arith)
      ∙ ap (λ (b : Bool). b && leb x.end y.start) (T_true (eqb x.instrument y.instrument) (rw e (eqb_refl y.instrument))))

  pub over_higher : y.instrument ≤ x.instrument → x.instrument ≢ y.instrument → false ≡ over x y
  over_higher h d =
      sym (past h
      ∙ ap (λ (b : Bool). b && leb x.end y.start)
      (T_false (eqb x.instrument y.instrument) (not_T (eqb x.instrument y.instrument) (λ t. d (eqb_yes t)))))

  -- two heads that start at the same moment
  module _ {s : Bool} {t : Turn} (e : s ≡ same_value x.value y.value) where
    pub both_left : x.end < y.end → t ≡ turn_by (not s) (not s) x.start x.end goes_on (cut_to x.end) → t ≡ both_of same_value x y
    unfolding both_of
    both_left h w = w ∙ (λ i. turn_by (not (e i)) (not (e i)) x.start x.end goes_on (cut_to x.end)) ∙ sym (cond_lt x.end y.end _ _ h)

    pub both_right : y.end < x.end → t ≡ turn_by (not s) (not s) x.start y.end (cut_to y.end) goes_on → t ≡ both_of same_value x y
    unfolding both_of
    both_right h w =
        w ∙ (λ i. turn_by (not (e i)) (not (e i)) x.start y.end (cut_to y.end) goes_on)
        ∙ sym (cond_ge x.end y.end _ _ (omega arith) ∙ cond_lt y.end x.end _ _ h)

    pub both_whole : y.end ≤ x.end → x.end ≤ y.end → t ≡ turn_by (not s) (not s) x.start x.end goes_on goes_on
        → t ≡ both_of same_value x y
    unfolding both_of
    both_whole h k w =
        w ∙ (λ i. turn_by (not (e i)) (not (e i)) x.start x.end goes_on goes_on)
        ∙ sym (cond_ge x.end y.end _ _ h ∙ cond_ge y.end x.end _ _ k)

  -- two heads
  pub turn_left : {a : Bool} {t : Turn} → a ≡ over x y → a ≡ true → t ≡ turn_by true false x.start x.end goes_on (cut_to y.start)
      → t ≡ turn_of same_value x y
  unfolding turn_of
  turn_left e h w = w ∙ sym (cond_yes (over x y) _ _ (rw (sym e ∙ h) tt))

  module _ {a b : Bool} {t : Turn} (e : a ≡ over x y) (h : a ≡ false) (f : b ≡ over y x) where
    pub turn_right : b ≡ true → t ≡ turn_by false true y.start y.end (cut_to x.start) goes_on → t ≡ turn_of same_value x y
    unfolding turn_of
    turn_right k w = w ∙ sym (cond_no (over x y) _ _ (rw (sym e ∙ h) tt) ∙ cond_yes (over y x) _ _ (rw (sym f ∙ k) tt))

    pub turn_left_part : b ≡ false → x.start < y.start → t ≡ turn_by true false x.start y.start (cut_to y.start) (cut_to y.start)
        → t ≡ turn_of same_value x y
    unfolding turn_of
    turn_left_part k l w =
        w ∙ sym (cond_no (over x y) _ _ (rw (sym e ∙ h) tt) ∙ cond_no (over y x) _ _ (rw (sym f ∙ k) tt) ∙ cond_lt x.start y.start _ _ l)

    pub turn_right_part : b ≡ false → y.start < x.start → t ≡ turn_by false true y.start x.start (cut_to x.start) (cut_to x.start)
        → t ≡ turn_of same_value x y
    unfolding turn_of
    turn_right_part k l w =
        w ∙ sym (cond_no (over x y) _ _ (rw (sym e ∙ h) tt) ∙ cond_no (over y x) _ _ (rw (sym f ∙ k) tt)
        ∙ cond_ge x.start y.start _ _ (omega arith) ∙ cond_lt y.start x.start _ _ l)

    pub turn_both : b ≡ false → y.start ≤ x.start → x.start ≤ y.start → t ≡ both_of same_value x y → t ≡ turn_of same_value x y
    unfolding turn_of
    turn_both k l m w =
        w ∙ sym (cond_no (over x y) _ _ (rw (sym e ∙ h) tt) ∙ cond_no (over y x) _ _ (rw (sym f ∙ k) tt)
        ∙ cond_ge x.start y.start _ _ l ∙ cond_ge y.start x.start _ _ m)

-- the instrument of a turn's stretch
pub instrument_left : (s : Bool) (i j : ℕ) → s ≡ true → i ≡ instrument_of s i j
unfolding instrument_of
instrument_left s i j e = ap (λ (b : Bool). instrument_of b i j) (sym e)

pub instrument_right : (s : Bool) (i j : ℕ) → s ≡ false → j ≡ instrument_of s i j
unfolding instrument_of
instrument_right s i j e = ap (λ (b : Bool). instrument_of b i j) (sym e)
