-- What a step of the walk leaves and tells. Assumes nothing.
use Rattle.std.specs.Prelude.{◌≡◌, ℕ, zero, suc, ◌+◌, ◌*◌, ◌≤◌, ◌<◌, max, Bool, ◌||◌, cond, List, [], ◌∷◌, length, eqb}
use Rattle.std.proofs.Math.Path.{refl, sym, ap, subst}
use Rattle.std.proofs.Common.{◌∙◌}
use native.Mathlib.Omega.{arith}
use Rattle.std.proofs.Math.Bool.{true, false}
use Rattle.std.specs.Bool.{then_some}
use Rattle.theory.specs.Answer.{bit}
use Rattle.map_rules.specs.Table.{Row}
use Rattle.map_rules.specs.Memory.{same_value, width, row_at}
use Rattle.map_table.specs.declared.interval.Interval.{Interval}
use Rattle.map_table.specs.Interval.{row_of}
use Rattle.map_compare_rules.specs.Compare.{Difference, Stretches, stretch, left_only, right_only, since, against, compared}
use Rattle.map_compare_rules.specs.Memory.{Value}
use Rattle.map_compare_walk.specs.declared.walk.Position.{Position}
use Rattle.map_compare_walk.specs.declared.walk.Onward.{Onward}
use Rattle.map_compare_walk.specs.declared.walk.Turn.{Turn}
use Rattle.map_compare_walk.specs.declared.walk.Stretch.{Stretch}
use Rattle.map_compare_walk.specs.declared.walk.Step.{Step}
use Rattle.map_compare_walk.specs.Walk.{goes_on, cut_to, step_of, moment_of, moved, turn_by, turn_of, saying, instrument_of, part_of, told, remains, head_at, from, ahead, turns_left}
use Rattle.map_compare_walk.specs.Walk.{Ready, More, spoken, taken_of, told_of, Stepped}
use Rattle.map_compare_walk.specs.WalkLaws.{kept_on, TurnRight, turn_right, tail, from_head, from_end, from_moved, sound_moved}
use Rattle.map_compare_walk.specs.WalkLaws.{start_moved, head_some, bit_small, bit_no, bit_yes}

-- ---- a step

goes_on_lem : (t : List ℕ) (n : ℕ) (p : Position) → p.place < n → from t n (moved p goes_on) ≡ tail t n p
unfolding remains
goes_on_lem t n p h = from_moved t n p goes_on h (kept_on (head_at t p))

left_alone : (x : Row Value) (xs : List (Row Value)) → left_only x ∷ compared same_value xs [] ≡ compared same_value (x ∷ xs) []
unfolding compared against
left_alone x xs = refl

right_alone : (y : Row Value) (ys : List (Row Value)) → right_only y ∷ compared same_value [] ys ≡ compared same_value [] (y ∷ ys)
unfolding compared
right_alone y ys = refl

-- a turn's stretch in front of others
pub spoken_told : (x y : Interval) (t : Turn) (ds : Stretches Value) → told_of (spoken x y t) ds ≡ told t.left t.right (part_of t (row_of x) (row_of y)) ds
unfolding spoken told part_of saying
spoken_told x y t ds = go t.left t.right
  where
    said_by : Bool → Bool → Stretch
    said_by l r = record {
      instrument = instrument_of t.left x.instrument y.instrument;
      start = t.start;
      end = t.end;
      left = then_some l x.symbol;
      right = then_some r y.symbol;
    }

    row_by : Bool → Bool → Row (Difference Value)
    row_by l r = stretch (instrument_of t.left x.instrument y.instrument) t.start t.end (saying l x.symbol) (saying r y.symbol)

    go : (l r : Bool) → told_of (then_some (l || r) (said_by l r)) ds ≡ cond (l || r) (row_by l r ∷ ds) ds
    go true true = refl
    go true false = refl
    go false true = refl
    go false false = refl

-- so many go on
pub turn_few : (x y : Row Value) (t : Turn) → x.start < x.end → y.start < y.end → t ≡ turn_of same_value x y → ((step_of t.x) ≤ 1) × ((step_of t.y) ≤ 1)
turn_few x y t w v e =
    let g : TurnRight same_value x [] y [] t = rw e (turn_right same_value x [] y [] w v) in (g.left_kept.few, g.right_kept.few)

module _ (left : List ℕ) (n : ℕ) (right : List ℕ) (m : ℕ) (l r : Position) where
  -- it comes nearer to the end where a head goes on
  nearer_on : (a b : Onward) → 1 ≤ (step_of a) + (step_of b) → l.place + (step_of a) ≤ n → r.place + (step_of b) ≤ m
      → turns_left left n right m (moved l a) (moved r b) < turns_left left n right m l r
  unfolding turns_left
  nearer_on a b h p q =
      omega (
        arith,
        bit_small (eqb (head_at left l).start (head_at right r).start),
        bit_small (eqb (head_at left (moved l a)).start (head_at right (moved r b)).start),
      )

  -- or where neither does, and their starts become the same
  level_less : (a b : Onward) → l.place < n → r.place < m → (step_of a) ≡ 0 → (step_of b) ≡ 0
      → bit (eqb (head_at left l).start (head_at right r).start) ≡ 0
      → bit (eqb (head_at left (moved l a)).start (head_at right (moved r b)).start) ≡ 1
      → turns_left left n right m (moved l a) (moved r b) < turns_left left n right m l r
  unfolding turns_left
  level_less a b h k p q e f = omega arith

  module _ (w : Ready left n right m l r) where
    -- both heads: what comes of the turn t
    pub step_both : (x y : Interval) (t : Turn) (s : Step) → l.place < n → r.place < m → row_of x ≡ head_at left l → row_of y ≡ head_at right r
        → t ≡ turn_of same_value (row_of x) (row_of y) → s ≡ taken_of x y t l r → Stepped left n right m l r s
    unfolding taken_of ahead compared
    step_both x y t s h k ex ey et es = rw es (record {
      comes =
          spoken_told x y t (compared same_value (from left n (moved l t.x)) (from right m (moved r t.y)))
          ∙ (λ i. told t.left t.right (part_of t (row_of x) (row_of y)) (compared same_value (lefts i) (rights i)))
          ∙ (λ i. told t.left t.right (part_of t (ex i) (ey i)) rest) ∙ sym g.comes
          ∙ sym (λ i. compared same_value (from_head left n l h i) (from_head right m r k i));
      ready = record {
        tables = w.tables;
        at_left = sound_moved left n l t.x h g.left_kept w.tables.left_order;
        at_right = sound_moved right m r t.y k g.right_kept w.tables.right_order;
      };
      nearer = near (step_of t.x) (step_of t.y) refl refl;
    })
      where
        g : TurnRight same_value (head_at left l) (tail left n l) (head_at right r) (tail right m r) t
        g =
            subst (λ (u : Turn). TurnRight same_value (head_at left l) (tail left n l) (head_at right r) (tail right m r) u)
            (sym (et ∙ (λ i. turn_of same_value (ex i) (ey i))))
            (turn_right same_value (head_at left l) (tail left n l) (head_at right r) (tail right m r)
            (head_some left n l w.tables.left_order w.at_left h) (head_some right m r w.tables.right_order w.at_right k))

        lefts : from left n (moved l t.x) ≡ remains (step_of t.x) (moment_of t.x) (head_at left l) (tail left n l)
        lefts = from_moved left n l t.x h g.left_kept

        rights : from right m (moved r t.y) ≡ remains (step_of t.y) (moment_of t.y) (head_at right r) (tail right m r)
        rights = from_moved right m r t.y k g.right_kept

        rest : Stretches Value
        rest =
            compared same_value (remains (step_of t.x) (moment_of t.x) (head_at left l) (tail left n l))
            (remains (step_of t.y) (moment_of t.y) (head_at right r) (tail right m r))

        stay : (step_of t.x) ≡ 0 → (step_of t.y) ≡ 0 → turns_left left n right m (moved l t.x) (moved r t.y) < turns_left left n right m l r
        stay p q = level_less t.x t.y h k p q
            (bit_no (head_at left l).start (head_at right r).start (g.starts p q))
            (bit_yes (head_at left (moved l t.x)).start (head_at right (moved r t.y)).start
            (start_moved left n l t.x h g.left_kept p ∙ g.level p q ∙ sym (start_moved right m r t.y k g.right_kept q)))

        near : (a b : ℕ) → a ≡ (step_of t.x) → b ≡ (step_of t.y) → turns_left left n right m (moved l t.x) (moved r t.y) < turns_left left n right m l r
        near zero zero p q = stay (sym p) (sym q)
        near (suc a) b p q = nearer_on t.x t.y (omega arith) (omega (arith, g.left_kept.few)) (omega (arith, g.right_kept.few))
        near zero (suc b) p q = nearer_on t.x t.y (omega arith) (omega (arith, g.left_kept.few)) (omega (arith, g.right_kept.few))

    -- the left head alone
    pub step_left : (x : Interval) (t : Turn) (s : Step) → l.place < n → m ≤ r.place → row_of x ≡ head_at left l
        → t ≡ turn_by true false x.start x.end goes_on (cut_to 0) → s ≡ taken_of x x t l r → Stepped left n right m l r s
    unfolding taken_of spoken instrument_of ahead
    step_left x t s h k ex et es = rw (es ∙ ap (λ (u : Turn). taken_of x x u l r) et) (record {
      comes =
          (λ i. left_only (ex i) ∷ compared same_value (lefts i) (rights i))
          ∙ alone ∙ sym (λ i. compared same_value (from_head left n l h i) (from_end right m r k i));
      ready = record {
        tables = w.tables;
        at_left = sound_moved left n l goes_on h (kept_on (head_at left l)) w.tables.left_order;
        at_right = record { within = omega (arith, w.at_right.within); not_over = λ p. absurd (omega arith) };
      };
      nearer = nearer_on goes_on (cut_to 0) (omega arith) (omega arith) (omega (arith, w.at_right.within));
    })
      where
        lefts : from left n (moved l goes_on) ≡ tail left n l
        lefts = goes_on_lem left n l h

        rights : from right m (moved r (cut_to 0)) ≡ []
        rights = from_end right m (moved r (cut_to 0)) (omega arith)

        alone : left_only (head_at left l) ∷ compared same_value (tail left n l) [] ≡ compared same_value (head_at left l ∷ tail left n l) []
        alone = left_alone (head_at left l) (tail left n l)

    -- the right head alone
    pub step_right : (y : Interval) (t : Turn) (s : Step) → n ≤ l.place → More n m l r → row_of y ≡ head_at right r
        → t ≡ turn_by false true y.start y.end (cut_to 0) goes_on → s ≡ taken_of y y t l r → Stepped left n right m l r s
    unfolding taken_of spoken instrument_of ahead
    step_right y t s h more ey et es = rw (es ∙ ap (λ (u : Turn). taken_of y y u l r) et) (record {
      comes =
          (λ i. right_only (ey i) ∷ compared same_value (lefts i) (rights i))
          ∙ alone ∙ sym (λ i. compared same_value (from_end left n l h i) (from_head right m r k i));
      ready = record {
        tables = w.tables;
        at_left = record { within = omega (arith, w.at_left.within); not_over = λ p. absurd (omega arith) };
        at_right = sound_moved right m r goes_on k (kept_on (head_at right r)) w.tables.right_order;
      };
      nearer = nearer_on (cut_to 0) goes_on (omega arith) (omega (arith, w.at_left.within)) (omega (arith, k));
    })
      where
        k : r.place < m
        k = more.some_left h

        lefts : from left n (moved l (cut_to 0)) ≡ []
        lefts = from_end left n (moved l (cut_to 0)) (omega arith)

        rights : from right m (moved r goes_on) ≡ tail right m r
        rights = goes_on_lem right m r k

        alone : right_only (head_at right r) ∷ compared same_value [] (tail right m r) ≡ compared same_value [] (head_at right r ∷ tail right m r)
        alone = right_alone (head_at right r) (tail right m r)

-- what a step asks of the memory, and of the places
module _ {left : List ℕ} {n : ℕ} {right : List ℕ} {m : ℕ} {l r : Position} (w : Ready left n right m l r) where
  pub room_right : More n m l r → n ≤ l.place → r.place * width + width ≤ length right
  room_right more h = omega (arith, more.some_left h, w.tables.right_fits)

  pub few_both : {x y : Interval} {t : Turn} → l.place < n → r.place < m → row_of x ≡ head_at left l → row_of y ≡ head_at right r
      → t ≡ turn_of same_value (row_of x) (row_of y) → (l.place + (step_of t.x) ≤ 65536) × (r.place + (step_of t.y) ≤ 65536)
  few_both {t = t} h k ex ey et =
      let f : ((step_of t.x) ≤ 1) × ((step_of t.y) ≤ 1) = turn_few (head_at left l) (head_at right r) t
      (head_some left n l w.tables.left_order w.at_left h) (head_some right m r w.tables.right_order w.at_right k)
      (et ∙ (λ i. turn_of same_value (ex i) (ey i))) in
      (omega (arith, f.0, w.tables.left_few), omega (arith, f.1, w.tables.right_few))

  pub few_left : {a b : ℕ} {t : Turn} → l.place < n → t ≡ turn_by true false a b goes_on (cut_to 0)
      → (l.place + step_of t.x ≤ 65536) × (r.place + step_of t.y ≤ 65536)
  few_left h e =
      let f = ap (λ (s : Turn). step_of s.x) e in
      let g = ap (λ (s : Turn). step_of s.y) e in
      (omega (arith, f, w.tables.left_few), omega (arith, g, w.at_right.within, w.tables.right_few))

  pub few_right : {a b : ℕ} {t : Turn} → More n m l r → n ≤ l.place → t ≡ turn_by false true a b (cut_to 0) goes_on
      → (l.place + step_of t.x ≤ 65536) × (r.place + step_of t.y ≤ 65536)
  few_right more h e =
      let f = ap (λ (s : Turn). step_of s.x) e in
      let g = ap (λ (s : Turn). step_of s.y) e in
      (omega (arith, f, w.at_left.within, w.tables.left_few), omega (arith, g, more.some_left h, w.tables.right_few))

-- a head by its parts
pub head_made : (t : List ℕ) (p : Position) (x : Interval) {a : ℕ} → row_of x ≡ row_at t p.place → a ≡ max p.from x.start
    → row_of (record { instrument = x.instrument; symbol = x.symbol; start = a; end = x.end }) ≡ head_at t p
unfolding head_at
head_made t p x e f = λ i. since ((f ∙ ap (λ (z : Row Value). max p.from z.start) e) i) (e i)
