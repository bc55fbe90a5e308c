-- A binary search by the side of a row: before, touching or after another. What its two ends tell is, in an ordered table,
-- where the table is cut (cuts). Assumes nothing.
use Rattle.std.specs.Prelude.{◌≡◌, refl, ℕ, zero, suc, ◌+◌, ◌-◌, ◌≤◌, ◌<◌, cond, List, [], ◌∷◌, length, get_or, ltb}
use Rattle.std.proofs.Math.Path.{sym}
use Rattle.std.proofs.Common.{ap, ◌∙◌, subst, zero-add, arith}
use Rattle.std.proofs.Math.Decide.{dec_le}
use Rattle.std.proofs.Math.Option.{none, some}
use Rattle.std.proofs.Math.ListN.{get_elem?}
use Rattle.theory.specs.Bracket.{Bracket, bracket_met}
use Rattle.theory.specs.RunsTools.{cond_lt, cond_ge, Order, less, equal, more, order}
use Rattle.map_rules.specs.Table.{Row, Ordered}
use Rattle.map_rules.specs.RowSplice.{Before, Touches, After, Cut}
use Rattle.map_rules.specs.Cuts.{NotBefore, NotAfter, Edges, cut, row_some}
use Rattle.map_rules.specs.Memory.{row_at, rows}
use Rattle.map_rules.specs.MemoryLaws.{blank, length_rows, get_d_rows}

-- ---- definitions

-- 0: x lies before n; 1: it overlaps or touches n; 2: it lies after n
unfoldable pub side_of : Row ℕ → Row ℕ → ℕ
side_of n x =
    cond (ltb x.instrument n.instrument) 0
    (cond (ltb n.instrument x.instrument) 2
    (cond (ltb x.end n.start) 0
    (cond (ltb n.end x.start) 2 1)))

-- r is the first place at or past the side c of n, as far as the two rows beside it tell
pub record Found (t : List ℕ) (used : ℕ) (n : Row ℕ) (c r : ℕ) : Type 0 where
  pub within : r ≤ used
  pub below : (k : ℕ) → k + 1 ≡ r → side_of n (row_at t k) < c
  pub above : r < used → c ≤ side_of n (row_at t r)

-- the side of n on which the row at a place lies
abbrev pub side_at : List ℕ → Row ℕ → ℕ → ℕ
side_at t n k = side_of n (row_at t k)

-- ---- the side

module _ (n x : Row ℕ) where
  pub side_lower : x.instrument < n.instrument → 0 ≡ side_of n x
  unfolding side_of
  side_lower h = sym (cond_lt x.instrument n.instrument _ _ h)

  pub side_higher : n.instrument < x.instrument → 2 ≡ side_of n x
  unfolding side_of
  side_higher h = sym (cond_ge x.instrument n.instrument _ _ (omega arith) ∙ cond_lt n.instrument x.instrument _ _ h)

  own : n.instrument ≤ x.instrument → x.instrument ≤ n.instrument
      → side_of n x ≡ cond (ltb x.end n.start) 0 (cond (ltb n.end x.start) 2 1)
  unfolding side_of
  own h k = cond_ge x.instrument n.instrument _ _ h ∙ cond_ge n.instrument x.instrument _ _ k

  pub side_before : n.instrument ≤ x.instrument → x.instrument ≤ n.instrument → x.end < n.start → 0 ≡ side_of n x
  side_before h k l = sym (own h k ∙ cond_lt x.end n.start _ _ l)

  pub side_after : n.instrument ≤ x.instrument → x.instrument ≤ n.instrument → n.start ≤ x.end → n.end < x.start → 2 ≡ side_of n x
  side_after h k l m = sym (own h k ∙ cond_ge x.end n.start _ _ l ∙ cond_lt n.end x.start _ _ m)

  pub side_touch : n.instrument ≤ x.instrument → x.instrument ≤ n.instrument → n.start ≤ x.end → x.start ≤ n.end → 1 ≡ side_of n x
  side_touch h k l m = sym (own h k ∙ cond_ge x.end n.start _ _ l ∙ cond_ge n.end x.start _ _ m)

-- what a side means
pub data Side (n x : Row ℕ) : Type 0 where
  lies_before : Before n x → 0 ≡ side_of n x → Side n x
  lies_on : Touches n x → 1 ≡ side_of n x → Side n x
  lies_after : After n x → 2 ≡ side_of n x → Side n x

pub side_is : (n x : Row ℕ) → Side n x
side_is n x = go (order x.instrument n.instrument) (dec_le n.start x.end) (dec_le x.start n.end)
  where
    go : Order x.instrument n.instrument → Dec (n.start ≤ x.end) → Dec (x.start ≤ n.end) → Side n x
    go (less i) a b = lies_before (record { upto = omega arith; ends = λ e. absurd (omega arith) }) (side_lower n x i)
    go (more i) a b = lies_after (record { from = omega arith; starts = λ e. absurd (omega arith) }) (side_higher n x i)
    go (equal i) (no a) b = lies_before (record { upto = omega arith; ends = λ e. omega arith }) (side_before n x (omega arith) (omega arith) (omega arith))
    go (equal i) (yes a) (no b) = lies_after (record { from = omega arith; starts = λ e. omega arith }) (side_after n x (omega arith) (omega arith) a (omega arith))
    go (equal i) (yes a) (yes b) = lies_on (record { own = i; reaches = a; reached = b }) (side_touch n x (omega arith) (omega arith) a b)

-- ---- the loop

-- the side of the row that was read at a place
pub side_at_lem : (t : List ℕ) (n : Row ℕ) (k : ℕ) {x : Row ℕ} {s : ℕ} → x ≡ row_at t k → s ≡ side_of n x → s ≡ side_at t n k
side_at_lem t n k e f = f ∙ ap (side_of n) e

pub bracket_found : {t : List ℕ} {used : ℕ} {n : Row ℕ} {c lo hi : ℕ} → Bracket (side_at t n) used c lo hi → hi ≤ lo → Found t used n c lo
bracket_found b h = let m = bracket_met b h in record { within = m.hi_le; below = m.below; above = m.above }

-- the last one in use lies before that side
pub found_last : (t : List ℕ) (used : ℕ) (n : Row ℕ) (c : ℕ) {s : ℕ} (x : Row ℕ) → (used ≡ 0 → ⊥) → x ≡ row_at t (used - 1) → s ≡ side_of n x → s < c → Found t used n c used
found_last t used n c x d e q h = record {
  within = omega arith;
  below = λ k m. let g : side_of n (row_at t (used - 1)) < c = subst (λ (y : Row ℕ). side_of n y < c) e (omega arith) in
      subst (λ (i : ℕ). side_of n (row_at t i) < c) (omega arith) g;
  above = λ m. absurd (omega arith);
}

-- ---- the walk from the first that does not lie before n to the first that lies after it

pub record Walked (t : List ℕ) (used : ℕ) (n : Row ℕ) (hi : ℕ) : Type 0 where
  pub upto : hi ≤ used
  pub below : (k : ℕ) → k + 1 ≡ hi → side_of n (row_at t k) < 2

module _ {t : List ℕ} {used : ℕ} {n : Row ℕ} {hi : ℕ} where
  pub walked_none : Found t used n 1 hi → Walked t used n hi
  walked_none f = record { upto = f.within; below = λ k e. omega (arith, f.below k e) }

  module _ (w : Walked t used n hi) where
    pub walked_on : {s : ℕ} {x : Row ℕ} → hi < used → x ≡ row_at t hi → s ≡ side_of n x → s < 2 → Walked t used n (hi + 1)
    walked_on l e q h = record {
      upto = omega arith;
      below = λ k m. let m' : k ≡ hi = omega arith in rw (m', ← e, ← q) h;
    }

    pub walked_met : {s : ℕ} {x : Row ℕ} → x ≡ row_at t hi → s ≡ side_of n x → 2 ≤ s → Found t used n 2 hi
    walked_met e q h = record { within = w.upto; below = w.below; above = λ l. rw (← e, ← q) h }

    pub walked_all : used ≤ hi → Found t used n 2 hi
    walked_all l = record { within = w.upto; below = w.below; above = λ m. absurd (omega arith) }

-- ---- the edges, and the cut

pub at_row : (t : List ℕ) (n k : ℕ) → k < n → get_or (rows t n) k blank ≡ row_at t k
at_row t n k h = get_d_rows t 0 n k blank h ∙ ap (row_at t) (zero-add k)

module _ {X : Type 0} where
  get_in : (d : X) (xs : List X) (k : ℕ) → k < length xs → get_elem? xs k ≡ some (get_or xs k d)
  get_in d [] k h = absurd (omega arith)
  get_in d (x ∷ xs) zero h = refl
  get_in d (x ∷ xs) (suc k) h = get_in d xs k (omega arith)

  get_out : (xs : List X) (k : ℕ) → length xs ≤ k → get_elem? xs k ≡ none
  get_out [] k h = refl
  get_out (x ∷ xs) zero h = absurd (omega arith)
  get_out (x ∷ xs) (suc k) h = get_out xs k (omega arith)

-- the row at a place, and none past those in use
module _ (t : List ℕ) (used k : ℕ) where
  pub row_in : k < used → get_elem? (rows t used) k ≡ some (row_at t k)
  row_in h = get_in blank (rows t used) k (omega (arith, length_rows t 0 used)) ∙ ap some (at_row t used k h)

  pub row_out : used ≤ k → get_elem? (rows t used) k ≡ none
  row_out h = get_out (rows t used) k (omega (arith, length_rows t 0 used))

module _ (n x : Row ℕ) (h : n.start < n.end) (k : x.start < x.end) where
  to_before : side_of n x < 1 → Before n x
  to_before l = go (side_is n x)
    where
      go : Side n x → Before n x
      go (lies_before b e) = b
      go (lies_on b e) = absurd (omega arith)
      go (lies_after b e) = absurd (omega arith)

  to_not_before : 1 ≤ side_of n x → NotBefore n x
  to_not_before l = go (side_is n x)
    where
      go : Side n x → NotBefore n x
      go (lies_before b e) = absurd (omega arith)
      go (lies_on b e) = record { from = omega (arith, b.own); reaches = λ d. b.reaches }
      go (lies_after b e) = record { from = b.from; reaches = λ d. omega (arith, b.starts d) }

  to_not_after : side_of n x < 2 → NotAfter n x
  to_not_after l = go (side_is n x)
    where
      go : Side n x → NotAfter n x
      go (lies_before b e) = record { upto = b.upto; reached = λ d. omega (arith, b.ends d) }
      go (lies_on b e) = record { upto = omega (arith, b.own); reached = λ d. b.reached }
      go (lies_after b e) = absurd (omega arith)

  to_after : 2 ≤ side_of n x → After n x
  to_after l = go (side_is n x)
    where
      go : Side n x → After n x
      go (lies_before b e) = absurd (omega arith)
      go (lies_on b e) = absurd (omega arith)
      go (lies_after b e) = b

module _ (t : List ℕ) (used : ℕ) (n : Row ℕ) (lo hi : ℕ) (h : n.start < n.end) (w : Ordered (rows t used))
    (a : Found t used n 1 lo) (b : Found t used n 2 hi) where
  some_row : (k : ℕ) → k < used → (row_at t k).start < (row_at t k).end
  some_row k l = rw (at_row t used k l) at (row_some blank (rows t used) w k (rw (length_rows t 0 used) l))

  edges : Edges n (rows t used) blank lo hi
  edges = record {
    lo_in = rw (length_rows t 0 used) a.within;
    hi_in = rw (length_rows t 0 used) b.within;
    lo_left = λ k e. let l : k < used = omega (arith, a.within) in
        rw (at_row t used k l) (to_before n (row_at t k) h (some_row k l) (a.below k (omega arith)));
    lo_right = λ l. let l' : lo < used = rw (length_rows t 0 used) at l in
        rw (at_row t used lo l') (to_not_before n (row_at t lo) h (some_row lo l') (a.above l'));
    hi_left = λ k e. let l : k < used = omega (arith, b.within) in
        rw (at_row t used k l) (to_not_after n (row_at t k) h (some_row k l) (b.below k (omega arith)));
    hi_right = λ l. let l' : hi < used = rw (length_rows t 0 used) at l in
        rw (at_row t used hi l') (to_after n (row_at t hi) h (some_row hi l') (b.above l'));
  }

  pub cuts : Cut n (rows t used) blank lo hi
  cuts = cut n (rows t used) blank lo hi h w edges

-- the two ends are in order
pub in_order : {t : List ℕ} {used : ℕ} {n : Row ℕ} {lo hi : ℕ} → n.start < n.end → Ordered (rows t used)
    → Found t used n 1 lo → Found t used n 2 hi → lo ≤ hi
in_order {t} {used} {n} {lo} {hi} h w a b = (cuts t used n lo hi h w a b).ordered
