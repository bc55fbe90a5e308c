-- A turn of the walk is right: its stretch in front of what the cut heads and the rows behind them give is what the heads and those
-- rows give (turn-right), and so a step of the code (step-both, step-left, step-right). Assumes nothing.
use Rattle.std.specs.Prelude.{◌≡◌, ◌≢◌, List, [], ◌∷◌, ltb, eqb}
use Rattle.std.proofs.Math.Path.{refl, sym, ap}
use Rattle.std.proofs.Common.{◌∙◌, subst, add-zero}
use Prim.Native.Nat.{ℕ, zero, suc, ◌+◌, ◌-◌, ◌≤◌, ◌<◌, min, max}
use native.Mathlib.Omega.{arith}
use Rattle.std.proofs.Math.Bool.{Bool, true, false, not, cond}
use Rattle.std.proofs.Math.Option.{none, some}
use Rattle.std.proofs.Math.Dec.{T, eqb_refl}
use Rattle.std.proofs.Math.Facts.{eqb_yes}
use Rattle.theory.specs.Answer.{bit}
use Rattle.theory.specs.RunsTools.{cond_case, ltb_case, cond_yes, cond_no, cond_lt, cond_ge}
use Rattle.map_rules.specs.Table.{Row, Ordered}
use Rattle.map_rules.specs.Memory.{row_at, rows_from, rows}
use Rattle.map_compare_rules.specs.Compare.{Difference, Stretches, stretch, over, since, lead, common, against, compared}
use Rattle.map_compare_rules.specs.Laws.{Overlap, overlap_of, not_past, over_no}
use Rattle.map_compare_rules.specs.Memory.{Value}
use Rattle.map_compare_walk.specs.declared.walk.Position.{Position}
use Rattle.map_compare_walk.specs.declared.walk.Onward.{Onward}
use Rattle.map_compare_walk.specs.declared.walk.Turn.{Turn}
use Rattle.map_compare_walk.specs.Walk.{goes_on, cut_to, step_of, moment_of, moved, turn_by, both_of, turn_of, saying, instrument_of, part_of, told, remains, head_at, headed, from}
use Rattle.map_compare_walk.specs.Walk.{Sound}

-- what becomes of a head: it goes on, or counts from a moment of its own
pub record Kept {A : Type 0} (o : Onward) (x : Row A) : Type 0 where
  pub few : (step_of o) ≤ 1
  pub goes : 1 ≤ (step_of o) → (moment_of o) ≡ 0
  pub stays : (step_of o) ≡ 0 → x.start ≤ (moment_of o)
  pub in_time : (step_of o) ≡ 0 → (moment_of o) < x.end

pub kept_on : {A : Type 0} (x : Row A) → Kept goes_on x
kept_on x = record { few = omega arith; goes = λ h. refl; stays = λ h. absurd (omega arith); in_time = λ h. absurd (omega arith) }

pub kept_cut : {A : Type 0} (m : ℕ) (x : Row A) → x.start ≤ m → m < x.end → Kept (cut_to m) x
kept_cut m x h k = record { few = omega arith; goes = λ l. absurd (omega arith); stays = λ l. h; in_time = λ l. k }

module _ {A : Type 0} (same : A → A → Bool) where
  -- what follows the common part of two heads
  unfoldable behind : Row A → List (Row A) → Row A → List (Row A) → Stretches A
  behind x xs y ys =
      cond (ltb x.end y.end) (compared same xs (since x.end y ∷ ys))
      (cond (ltb y.end x.end) (compared same (since y.end x ∷ xs) ys) (compared same xs ys))

  overlapping : (x : Row A) (xs : List (Row A)) (y : Row A) (ys : List (Row A)) → T (not (over x y)) → T (not (over y x))
      → compared same (x ∷ xs) (y ∷ ys) ≡ lead x y (common same x y (behind x xs y ys))
  unfolding compared against behind
  overlapping x xs y ys n o = cond_no (over x y) _ _ n ∙ cond_no (over y x) _ _ o

  lead_none : (x y : Row A) (ds : Stretches A) → x.start ≡ y.start → lead x y ds ≡ ds
  unfolding lead
  lead_none x y ds e = cond_ge x.start y.start _ _ (omega arith) ∙ cond_ge y.start x.start _ _ (omega arith)

  lead_left : (x y : Row A) (ds : Stretches A) → x.start < y.start
      → lead x y ds ≡ stretch x.instrument x.start y.start (some x.value) none ∷ ds
  unfolding lead
  lead_left x y ds h = cond_lt x.start y.start _ _ h

  lead_right : (x y : Row A) (ds : Stretches A) → y.start < x.start
      → lead x y ds ≡ stretch x.instrument y.start x.start none (some y.value) ∷ ds
  unfolding lead
  lead_right x y ds h = cond_ge x.start y.start _ _ (omega arith) ∙ cond_lt y.start x.start _ _ h

  common_at : (x y : Row A) (ds : Stretches A) (a b : ℕ) → max x.start y.start ≡ a → min x.end y.end ≡ b
      → common same x y ds ≡ cond (same x.value y.value) ds (stretch x.instrument a b (some x.value) (some y.value) ∷ ds)
  unfolding common
  common_at x y ds a b p q =
      λ i. cond (same x.value y.value) ds (stretch x.instrument (p i) (q i) (some x.value) (some y.value) ∷ ds)

  -- a turn of two heads is right
  pub record TurnRight (x : Row A) (xs : List (Row A)) (y : Row A) (ys : List (Row A)) (t : Turn) : Type 0 where
    pub comes : compared same (x ∷ xs) (y ∷ ys)
        ≡ told t.left t.right (part_of t x y) (compared same (remains (step_of t.x) (moment_of t.x) x xs) (remains (step_of t.y) (moment_of t.y) y ys))
    pub left_kept : Kept t.x x
    pub right_kept : Kept t.y y
    pub starts : (step_of t.x) ≡ 0 → (step_of t.y) ≡ 0 → x.start ≢ y.start
    pub level : (step_of t.x) ≡ 0 → (step_of t.y) ≡ 0 → (moment_of t.x) ≡ (moment_of t.y)

  module _ (x : Row A) (xs : List (Row A)) (y : Row A) (ys : List (Row A)) (w : x.start < x.end) (v : y.start < y.end) where
    abbrev Holds : Turn → Type 0
    Holds t = TurnRight x xs y ys t

    left_whole : T (over x y) → Holds (turn_by true false x.start x.end goes_on (cut_to y.start))
    unfolding compared against told part_of remains saying instrument_of
    left_whole t = record {
      comes = cond_yes (over x y) _ _ t;
      left_kept = kept_on x;
      right_kept = kept_cut y.start y (omega arith) v;
      starts = λ p. absurd (omega arith);
      level = λ p. absurd (omega arith);
    }

    right_whole : T (not (over x y)) → T (over y x) → Holds (turn_by false true y.start y.end (cut_to x.start) goes_on)
    unfolding compared against told part_of remains saying instrument_of
    right_whole n t = record {
      comes = cond_no (over x y) _ _ n ∙ cond_yes (over y x) _ _ t;
      left_kept = kept_cut x.start x (omega arith) w;
      right_kept = kept_on y;
      starts = λ p q. absurd (omega arith);
      level = λ p q. absurd (omega arith);
    }

    module _ (n : T (not (over x y))) (o : T (not (over y x))) where
      together : Overlap same x y
      together = overlap_of same x y (not_past same x y n) (not_past same y x o)

      left_part : x.start < y.start → Holds (turn_by true false x.start y.start (cut_to y.start) (cut_to y.start))
      unfolding told part_of remains saying instrument_of behind over
      left_part h =
          let z : Row A = since y.start x in
          let u : Overlap same x y = together in
          let k : T (not (over y z)) = over_no same y z (λ p. let e : y.end ≤ y.start = p.ends (sym u.one) in omega arith) in
          let d : Row (Difference A) = stretch x.instrument x.start y.start (some x.value) none in
          let ds : Stretches A = behind x xs y ys in
          let m : max x.start y.start ≡ y.start = omega arith in
          let m' : max y.start y.start ≡ y.start = omega arith in
          record {
            comes =
                overlapping x xs y ys n o ∙ lead_left x y (common same x y ds) h
                ∙ ap (λ (es : Stretches A). d ∷ es)
                (common_at x y ds y.start (min x.end y.end) m refl ∙ sym (common_at z y ds y.start (min x.end y.end) m' refl)
                ∙ sym (overlapping z xs y ys n k ∙ lead_none z y (common same z y ds) refl));
            left_kept = kept_cut y.start x (omega arith) u.later;
            right_kept = kept_cut y.start y (omega arith) v;
            starts = λ p q e. omega arith;
            level = λ p q. refl;
          }

      right_part : y.start < x.start → Holds (turn_by false true y.start x.start (cut_to x.start) (cut_to x.start))
      unfolding told part_of remains saying instrument_of behind over
      right_part h =
          let z : Row A = since x.start y in
          let u : Overlap same x y = together in
          let k : T (not (over x z)) = over_no same x z (λ p. let e : x.end ≤ x.start = p.ends u.one in omega arith) in
          let ds : Stretches A = behind x xs y ys in
          let m : max x.start y.start ≡ x.start = omega arith in
          let m' : max x.start x.start ≡ x.start = omega arith in
          record {
            comes =
                overlapping x xs y ys n o ∙ lead_right x y (common same x y ds) h
                ∙ (λ i. stretch (u.one i) y.start x.start none (some y.value)
                ∷ (common_at x y ds x.start (min x.end y.end) m refl ∙ sym (common_at x z ds x.start (min x.end y.end) m' refl)
                ∙ sym (overlapping x xs z ys k o ∙ lead_none x z (common same x z ds) refl)) i);
            left_kept = kept_cut x.start x (omega arith) w;
            right_kept = kept_cut x.start y (omega arith) u.sooner;
            starts = λ p q e. omega arith;
            level = λ p q. refl;
          }

      -- both from a to b, told where they differ
      common_told : (b : ℕ) (ds : Stretches A)
          → let d : Bool = not (same x.value y.value) in
          cond (same x.value y.value) ds (stretch x.instrument x.start b (some x.value) (some y.value) ∷ ds)
          ≡ told d d (stretch (instrument_of d x.instrument y.instrument) x.start b (saying d x.value) (saying d y.value)) ds
      unfolding told saying instrument_of
      common_told b ds = go (same x.value y.value)
        where
          go : (s : Bool) → cond s ds (stretch x.instrument x.start b (some x.value) (some y.value) ∷ ds)
              ≡ told (not s) (not s) (stretch (instrument_of (not s) x.instrument y.instrument) x.start b (saying (not s) x.value) (saying (not s) y.value)) ds
          go true = refl
          go false = refl

      both_right : x.start ≡ y.start → Holds (both_of same x y)
      unfolding both_of part_of remains behind
      both_right e =
          ltb_case Holds x.end y.end _ _
          (λ h. record {
            comes = upto x.end (omega arith) ∙ ap (λ (es : Stretches A). told d d (part x.end) es) (cond_lt x.end y.end _ _ h);
            left_kept = kept_on x;
            right_kept = kept_cut x.end y (omega arith) h;
            starts = λ p. absurd (omega arith);
            level = λ p. absurd (omega arith);
          })
          (λ h. ltb_case Holds y.end x.end _ _
          (λ k. record {
            comes = upto y.end (omega arith)
                ∙ ap (λ (es : Stretches A). told d d (part y.end) es) (cond_ge x.end y.end _ _ h ∙ cond_lt y.end x.end _ _ k);
            left_kept = kept_cut y.end x (omega arith) k;
            right_kept = kept_on y;
            starts = λ p q. absurd (omega arith);
            level = λ p q. absurd (omega arith);
          })
          (λ k. record {
            comes = upto x.end (omega arith)
                ∙ ap (λ (es : Stretches A). told d d (part x.end) es) (cond_ge x.end y.end _ _ h ∙ cond_ge y.end x.end _ _ k);
            left_kept = kept_on x;
            right_kept = kept_on y;
            starts = λ p. absurd (omega arith);
            level = λ p. absurd (omega arith);
          }))
        where
          d : Bool
          d = not (same x.value y.value)

          part : ℕ → Row (Difference A)
          part b = stretch (instrument_of d x.instrument y.instrument) x.start b (saying d x.value) (saying d y.value)

          upto : (b : ℕ) → min x.end y.end ≡ b → compared same (x ∷ xs) (y ∷ ys) ≡ told d d (part b) (behind x xs y ys)
          upto b q =
              overlapping x xs y ys n o ∙ lead_none x y (common same x y (behind x xs y ys)) e
              ∙ common_at x y (behind x xs y ys) x.start b (omega arith) q ∙ common_told b (behind x xs y ys)

    pub turn_right : Holds (turn_of same x y)
    unfolding turn_of
    turn_right =
        cond_case Holds (over x y) _ _ (λ t. left_whole t)
        (λ n. cond_case Holds (over y x) _ _ (λ t. right_whole n t)
        (λ o. ltb_case Holds x.start y.start _ _ (λ h. left_part n o h)
        (λ h. ltb_case Holds y.start x.start _ _ (λ k. right_part n o k) (λ k. both_right n o (omega arith)))))

-- ---- positions

-- a row of a table in order is not empty
row_some : (t : List ℕ) (j n k : ℕ) → Ordered (rows_from t j n) → k < n → (row_at t (j + k)).start < (row_at t (j + k)).end
unfolding rows_from
row_some t j zero k w h = absurd (omega arith)
row_some t j (suc n) zero w h = rw (add-zero j) w.0
row_some t j (suc n) (suc k) w h =
    let e : suc j + k ≡ j + suc k = omega arith in
    subst (λ (i : ℕ). (row_at t i).start < (row_at t i).end) e (row_some t (suc j) n k w.2 (omega arith))

pub row_not_empty : (t : List ℕ) (n k : ℕ) → Ordered (rows t n) → k < n → (row_at t k).start < (row_at t k).end
row_not_empty t n k w h =
    let e : 0 + k ≡ k = omega arith in
    subst (λ (i : ℕ). (row_at t i).start < (row_at t i).end) e (row_some t 0 n k w h)

since_itself : {A : Type 0} (m : ℕ) (x : Row A) → m ≡ x.start → since m x ≡ x
since_itself m x e = λ i. record { instrument = x.instrument; start = e i; end = x.end; value = x.value }

-- rows that count from the first moment are those rows
pub headed_zero : {A : Type 0} (xs : List (Row A)) → headed 0 xs ≡ xs
unfolding headed
headed_zero [] = refl
headed_zero {A = A} (x ∷ xs) = ap (λ (z : Row A). z ∷ xs) (since_itself (max 0 x.start) x (omega arith))

-- the rows behind the head
abbrev pub tail : List ℕ → ℕ → Position → List (Row Value)
tail t n p = rows_from t (suc p.place) (n - suc p.place)

pub from_head : (t : List ℕ) (n : ℕ) (p : Position) → p.place < n → from t n p ≡ head_at t p ∷ tail t n p
unfolding from headed head_at rows_from
from_head t n p h =
    let e : n - p.place ≡ suc (n - suc p.place) = omega arith in
    ap (λ (k : ℕ). headed p.from (rows_from t p.place k)) e

pub from_end : (t : List ℕ) (n : ℕ) (p : Position) → n ≤ p.place → from t n p ≡ []
unfolding from headed rows_from
from_end t n p h = let e : n - p.place ≡ 0 = omega arith in ap (λ (k : ℕ). headed p.from (rows_from t p.place k)) e

-- a position, its head kept so
module _ (t : List ℕ) (n : ℕ) (p : Position) (o : Onward) (h : p.place < n) (k : Kept o (head_at t p)) where
  stay_start : (step_of o) ≡ 0 → max (moment_of o) (row_at t p.place).start ≡ (moment_of o)
  unfolding head_at
  stay_start e = let s : max p.from (row_at t p.place).start ≤ (moment_of o) = k.stays e in omega arith

  pub from_moved : from t n (moved p o) ≡ remains (step_of o) (moment_of o) (head_at t p) (tail t n p)
  unfolding from headed head_at remains rows_from
  from_moved = go (step_of o) refl
    where
      go : (b : ℕ) → b ≡ (step_of o)
          → headed (moment_of o) (rows_from t (p.place + b) (n - (p.place + b))) ≡ remains b (moment_of o) (head_at t p) (tail t n p)
      go zero e =
          let a : p.place + 0 ≡ p.place = omega arith in
          let c : n - (p.place + 0) ≡ suc (n - suc p.place) = omega arith in
          let m : max (moment_of o) (row_at t p.place).start ≡ (moment_of o) = stay_start (sym e) in
          (λ i. headed (moment_of o) (rows_from t (a i) (c i))) ∙ (λ i. since (m i) (row_at t p.place) ∷ tail t n p)
      go (suc zero) e =
          let a : p.place + 1 ≡ suc p.place = omega arith in
          let c : n - (p.place + 1) ≡ n - suc p.place = omega arith in
          (λ i. headed (k.goes (omega arith) i) (rows_from t (a i) (c i))) ∙ headed_zero (tail t n p)
      go (suc (suc b)) e = absurd (omega (arith, k.few))

  pub sound_moved : Ordered (rows t n) → Sound t n (moved p o)
  unfolding head_at
  sound_moved w = record { within = omega (arith, k.few); not_over = λ l. go (step_of o) refl l }
    where
      go : (b : ℕ) → b ≡ (step_of o) → p.place + b < n → (moment_of o) < (row_at t (p.place + b)).end
      go zero e l = rw (add-zero p.place) (k.in_time (sym e))
      go (suc b) e l =
          let z : (moment_of o) ≡ 0 = k.goes (omega arith) in
          omega (arith, row_not_empty t n (p.place + suc b) w l)

  -- where it stays, its head starts where it counts from
  pub start_moved : (step_of o) ≡ 0 → (head_at t (moved p o)).start ≡ (moment_of o)
  unfolding head_at
  start_moved e =
      let a : p.place + (step_of o) ≡ p.place = omega arith in
      ap (λ (i : ℕ). max (moment_of o) (row_at t i).start) a ∙ stay_start e

pub head_some : (t : List ℕ) (n : ℕ) (p : Position) → Ordered (rows t n) → Sound t n p → p.place < n → (head_at t p).start < (head_at t p).end
unfolding head_at
head_some t n p w s h = omega (arith, s.not_over h, row_not_empty t n p.place w h)

pub bit_small : (b : Bool) → bit b ≤ 1
bit_small true = omega arith
bit_small false = omega arith

pub bit_no : (a b : ℕ) → a ≢ b → bit (eqb a b) ≡ 0
bit_no a b d = ap bit (go (eqb a b) (λ t. d (eqb_yes t)))
  where
    go : (c : Bool) → (T c → ⊥) → c ≡ false
    go true f = absurd (f tt)
    go false f = refl

pub bit_yes : (a b : ℕ) → a ≡ b → bit (eqb a b) ≡ 1
bit_yes a b e = ap bit (go (eqb a b) (rw e (eqb_refl b)))
  where
    go : (c : Bool) → T c → c ≡ true
    go true f = refl
    go false f = absurd f
