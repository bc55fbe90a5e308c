-- Where the rows are cut: what the two searches find out at their ends is enough, since the table is ordered.
-- Assumes nothing.
use Rattle.std.specs.Prelude.{◌≡◌, ℕ, zero, suc, ◌-◌, ◌≤◌, ◌<◌, List, [], ◌∷◌, length, get_or}
use Rattle.std.proofs.Math.Decide.{dec_le}
use Rattle.std.proofs.Common.{arith}
use Rattle.theory.specs.RunsTools.{Order, less, equal, more, order}
use Rattle.map_rules.specs.Table.{Row, Ordered}
use Rattle.map_rules.specs.RowSplice.{Before, Touches, After, Cut}

module _ {A : Type 0} where
  pub record Behind (x y : Row A) : Type 0 where
    pub rises : x.instrument ≤ y.instrument
    pub apart : x.instrument ≡ y.instrument → x.end ≤ y.start

  pub record NotBefore (n x : Row A) : Type 0 where
    pub from : n.instrument ≤ x.instrument
    pub reaches : x.instrument ≡ n.instrument → n.start ≤ x.end

  pub record NotAfter (n x : Row A) : Type 0 where
    pub upto : x.instrument ≤ n.instrument
    pub reached : x.instrument ≡ n.instrument → x.start ≤ n.end

  behind_trans : (x y z : Row A) → y.start < y.end → Behind x y → Behind y z → Behind x z
  behind_trans x y z h p q =
      record {
        rises = omega (arith, p.rises, q.rises);
        apart = λ e. omega (arith, p.apart (omega (arith, p.rises, q.rises)), q.apart (omega (arith, p.rises, q.rises)));
      }

  pub row_some : (d : Row A) (xs : List (Row A)) → Ordered xs → (k : ℕ) → k < length xs → (get_or xs k d).start < (get_or xs k d).end
  row_some d [] w k h = absurd (omega arith)
  row_some d (x ∷ xs) w zero h = w.0
  row_some d (x ∷ xs) w (suc k) h = row_some d xs w.2 k (omega arith)

  head_behind : (d x : Row A) (xs : List (Row A)) → Ordered (x ∷ xs) → (q : ℕ) → q < length xs → Behind x (get_or xs q d)
  head_behind d x [] w q h = absurd (omega arith)
  head_behind d x (y ∷ ys) w zero h = record { rises = w.1.0; apart = λ e. (w.1.1 e).0 }
  head_behind d x (y ∷ ys) w (suc q) h =
      behind_trans x y (get_or ys q d) w.2.0 (record { rises = w.1.0; apart = λ e. (w.1.1 e).0 }) (head_behind d y ys w.2 q (omega arith))

  pub behind : (d : Row A) (xs : List (Row A)) → Ordered xs → (p q : ℕ) → p < q → q < length xs → Behind (get_or xs p d) (get_or xs q d)
  behind d [] w p q h k = absurd (omega arith)
  behind d (x ∷ xs) w p zero h k = absurd (omega arith)
  behind d (x ∷ xs) w zero (suc q) h k = head_behind d x xs w q (omega arith)
  behind d (x ∷ xs) w (suc p) (suc q) h k = behind d xs w.2 p q (omega arith) (omega arith)

-- what the two searches find: lo is the first row that is not before n, hi the first that is after it
pub record Edges {A : Type 0} (n : Row A) (xs : List (Row A)) (d : Row A) (lo hi : ℕ) : Type 0 where
  pub lo_in : lo ≤ length xs
  pub hi_in : hi ≤ length xs
  pub lo_left : (k : ℕ) → suc k ≡ lo → Before n (get_or xs k d)
  pub lo_right : lo < length xs → NotBefore n (get_or xs lo d)
  pub hi_left : (k : ℕ) → suc k ≡ hi → NotAfter n (get_or xs k d)
  pub hi_right : hi < length xs → After n (get_or xs hi d)

module _ {A : Type 0} where
  module _ (n : Row A) (xs : List (Row A)) (d : Row A) (lo hi : ℕ) (h : n.start < n.end) (w : Ordered xs) (e : Edges n xs d lo hi) where
    before_all : (k : ℕ) → k < lo → Before n (get_or xs k d)
    before_all k l = go (order k (lo - 1))
      where
        b : Before n (get_or xs (lo - 1) d)
        b = e.lo_left (lo - 1) (omega arith)

        go : Order k (lo - 1) → Before n (get_or xs k d)
        go (less i) =
            let t : Behind (get_or xs k d) (get_or xs (lo - 1) d) = behind d xs w k (lo - 1) i (omega (arith, e.lo_in)) in
            let s : (get_or xs (lo - 1) d).start < (get_or xs (lo - 1) d).end = row_some d xs w (lo - 1) (omega (arith, e.lo_in)) in
            record {
              upto = omega (arith, t.rises, b.upto);
              ends = λ q. omega (arith, t.apart (omega (arith, t.rises, b.upto)), b.ends (omega (arith, t.rises, b.upto)));
            }
        go (equal i) = rw i b
        go (more i) = absurd (omega arith)

    not_before_all : (k : ℕ) → lo ≤ k → k < length xs → NotBefore n (get_or xs k d)
    not_before_all k l m = go (order lo k)
      where
        b : NotBefore n (get_or xs lo d)
        b = e.lo_right (omega arith)

        go : Order lo k → NotBefore n (get_or xs k d)
        go (less i) =
            let t : Behind (get_or xs lo d) (get_or xs k d) = behind d xs w lo k i m in
            let s : (get_or xs k d).start < (get_or xs k d).end = row_some d xs w k m in
            record {
              from = omega (arith, t.rises, b.from);
              reaches = λ q. omega (arith, t.apart (omega (arith, t.rises, b.from)), b.reaches (omega (arith, t.rises, b.from)));
            }
        go (equal i) = rw i at b
        go (more i) = absurd (omega arith)

    not_after_all : (k : ℕ) → k < hi → NotAfter n (get_or xs k d)
    not_after_all k l = go (order k (hi - 1))
      where
        b : NotAfter n (get_or xs (hi - 1) d)
        b = e.hi_left (hi - 1) (omega arith)

        go : Order k (hi - 1) → NotAfter n (get_or xs k d)
        go (less i) =
            let t : Behind (get_or xs k d) (get_or xs (hi - 1) d) = behind d xs w k (hi - 1) i (omega (arith, e.hi_in)) in
            let s : (get_or xs k d).start < (get_or xs k d).end = row_some d xs w k (omega (arith, e.hi_in)) in
            record {
              upto = omega (arith, t.rises, b.upto);
              reached = λ q. omega (arith, t.apart (omega (arith, t.rises, b.upto)), b.reached (omega (arith, t.rises, b.upto)));
            }
        go (equal i) = rw i b
        go (more i) = absurd (omega arith)

    after_all : (k : ℕ) → hi ≤ k → k < length xs → After n (get_or xs k d)
    after_all k l m = go (order hi k)
      where
        b : After n (get_or xs hi d)
        b = e.hi_right (omega arith)

        go : Order hi k → After n (get_or xs k d)
        go (less i) =
            let t : Behind (get_or xs hi d) (get_or xs k d) = behind d xs w hi k i m in
            let s : (get_or xs hi d).start < (get_or xs hi d).end = row_some d xs w hi (omega arith) in
            record {
              from = omega (arith, t.rises, b.from);
              starts = λ q. omega (arith, t.apart (omega (arith, t.rises, b.from)), b.starts (omega (arith, t.rises, b.from)));
            }
        go (equal i) = rw i at b
        go (more i) = absurd (omega arith)

    in_order : Dec (lo ≤ hi) → lo ≤ hi
    in_order (yes k) = k
    in_order (no k) =
        let b : Before n (get_or xs hi d) = before_all hi (omega arith) in
        let a : After n (get_or xs hi d) = e.hi_right (omega (arith, e.lo_in)) in
        let s : (get_or xs hi d).start < (get_or xs hi d).end = row_some d xs w hi (omega (arith, e.lo_in)) in
        let q : (get_or xs hi d).instrument ≡ n.instrument = omega (arith, b.upto, a.from) in
        absurd (omega (arith, b.ends q, a.starts q))

    -- the cut
    pub cut : Cut n xs d lo hi
    cut = record {
      ordered = in_order (dec_le lo hi);
      inside = e.hi_in;
      left_of_lem = before_all;
      between_them = λ k i j. both k (not_before_all k i (omega (arith, e.hi_in))) (not_after_all k j);
      right_of_lem = after_all;
    }
      where
        both : (k : ℕ) → NotBefore n (get_or xs k d) → NotAfter n (get_or xs k d) → Touches n (get_or xs k d)
        both k p q =
            let i : (get_or xs k d).instrument ≡ n.instrument = omega (arith, p.from, q.upto) in
            record { own = i; reaches = p.reaches i; reached = q.reached i }
