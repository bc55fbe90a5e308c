-- Binary search among rows, by the bytes where they begin: a test that holds of the rows before a place and of none from it on, and
-- that each probe halves what is left for that place. One set of laws for every test. Assumes nothing.
use Rattle.std.specs.Prelude.{◌≡◌, ℕ, ◌+◌, ◌-◌, ◌*◌, ◌/◌, ◌≤◌, ◌<◌, Bool, true, false, not, List}
use Rattle.std.proofs.Common.{sym, ◌∙◌, arith}
use Rattle.std.proofs.lemmas.Bool.{not-true, not-false}
use Rattle.map_rules.specs.Table.{Row}
use Rattle.map_rules.specs.Memory.{width, row_at}

-- ---- definitions

-- of the rows from lo up to hi the test holds before place c and not from c on, as one row at a time tells
pub record Parts (p : ℕ → Bool) (lo hi c : ℕ) : Type 0 where
  pub from : lo ≤ c
  pub upto : c ≤ hi
  pub before : (k : ℕ) → lo ≤ k → k < hi → p k ≡ true → k < c
  pub behind : (k : ℕ) → lo ≤ k → k < hi → p k ≡ false → c ≤ k

-- a place begins at the byte `at`, and c is it or one of the n places behind it, within lo and hi
pub record Near (lo hi c at n : ℕ) : Type 0 where
  pub place : ℕ
  pub is : at ≡ place * width
  pub low : lo ≤ place
  pub high : place + n ≤ hi
  pub from : place ≤ c
  pub upto : c ≤ place + n

-- x is the row that begins at the byte `at`
pub record RowFrom (t : List ℕ) (at : ℕ) (x : Row ℕ) : Type 0 where
  pub row : (k : ℕ) → at ≡ k * width → x ≡ row_at t k

-- what the row that begins at the byte `at` answers to the test
pub record Probe (p : ℕ → Bool) (at : ℕ) (b : Bool) : Type 0 where
  pub tells : (k : ℕ) → at ≡ k * width → b ≡ p k

-- one step: from `at`, with n places left, to r
pub record Onward (p : ℕ → Bool) (at step r : ℕ) : Type 0 where
  pub on : {lo hi c n : ℕ} → Parts p lo hi c → Near lo hi c at n → step ≤ n → step + step ≤ n + 1 → Near lo hi c r (n - step)

-- the first step, to so many places that the steps behind it are known
pub record Halved (p : ℕ → Bool) (at n size r : ℕ) : Type 0 where
  pub half : {lo hi c : ℕ} → Parts p lo hi c → Near lo hi c at n → Near lo hi c r size

-- a search from `at`, with n places left, finds the place
pub record Finds (p : ℕ → Bool) (at n r : ℕ) : Type 0 where
  pub found : {lo hi c : ℕ} → Parts p lo hi c → Near lo hi c at n → r ≡ c * width

-- the search's loop
pub record Narrowed (p : ℕ → Bool) (lo n at left : ℕ) : Type 0 where
  pub upto : at + left * width ≤ lo + n * width
  pub near : {l h c : ℕ} → Parts p l h c → Near l h c lo n → Near l h c at left

-- it starts with all places
pub near_all : {p : ℕ → Bool} {lo hi c at n : ℕ} → Parts p lo hi c → at ≡ lo * width → lo + n ≡ hi → Near lo hi c at n
near_all {lo = lo} s e f = record {
  place = lo;
  is = e;
  low = omega arith;
  high = omega arith;
  from = s.from;
  upto = omega (arith, s.upto);
}

-- ---- one step

module _ {p : ℕ → Bool} {at step : ℕ} {b : Bool} (z : 0 < step) (q : Probe p (at + step * width - width) b) where
  pub onward_yes : b ≡ true → Onward p at step (at + step * width)
  onward_yes e = record {
    on = λ {lo} {hi} {c} {n} s a l m.
        let k : ℕ = a.place + step - 1 in
        let d : at + step * width - width ≡ k * width = omega (arith, a.is) in
        let u : k < c = s.before k (omega (arith, a.low)) (omega (arith, a.high)) (sym (q.tells k d) ∙ e) in
        record {
          place = a.place + step;
          is = omega (arith, a.is);
          low = omega (arith, a.low);
          high = omega (arith, a.high);
          from = omega arith;
          upto = omega (arith, a.upto);
        };
  }

  pub onward_no : b ≡ false → Onward p at step at
  onward_no e = record {
    on = λ {lo} {hi} {c} {n} s a l m.
        let k : ℕ = a.place + step - 1 in
        let d : at + step * width - width ≡ k * width = omega (arith, a.is) in
        let u : c ≤ k = s.behind k (omega (arith, a.low)) (omega (arith, a.high)) (sym (q.tells k d) ∙ e) in
        record {
          place = a.place;
          is = a.is;
          low = a.low;
          high = omega (arith, a.high);
          from = a.from;
          upto = omega arith;
        };
  }

-- ---- the loop

pub narrowed_all : (p : ℕ → Bool) (lo n : ℕ) → Narrowed p lo n lo n
narrowed_all p lo n = record { upto = omega arith; near = λ s a. a }

module _ {p : ℕ → Bool} {lo n at left : ℕ} (w : Narrowed p lo n at left) where
  pub narrowed_on : {r : ℕ} → 0 < left → Onward p at (left - left / 2) r → r ≤ at + (left - left / 2) * width → Narrowed p lo n r (left / 2)
  narrowed_on z o u = record {
    upto = omega (arith, w.upto);
    near = λ s a.
        let d : left - (left - left / 2) ≡ left / 2 = omega arith in
        rw d at (o.on s (w.near s a) (omega arith) (omega arith));
  }

  pub narrowed_end : left ≤ 0 → Finds p lo n at
  narrowed_end z = record { found = λ s a. let b = w.near s a in omega (arith, b.is, b.from, b.upto) }

-- ---- known steps

module _ {p : ℕ → Bool} {at n size : ℕ} {b : Bool} (l : size < n) (u : n ≤ size + size + 1) (q : Probe p (at + size * width) b) where
  pub half_last : b ≡ true → Halved p at n size (at + (n - size) * width)
  half_last e = record {
    half = λ {lo} {hi} {c} s a.
        let k : ℕ = a.place + size in
        let d : at + size * width ≡ k * width = omega (arith, a.is) in
        let v : k < c = s.before k (omega (arith, a.low)) (omega (arith, a.high)) (sym (q.tells k d) ∙ e) in
        record {
          place = a.place + (n - size);
          is = omega (arith, a.is);
          low = omega (arith, a.low);
          high = omega (arith, a.high);
          from = omega arith;
          upto = omega (arith, a.upto);
        };
  }

  pub half_first : b ≡ false → Halved p at n size at
  half_first e = record {
    half = λ {lo} {hi} {c} s a.
        let k : ℕ = a.place + size in
        let d : at + size * width ≡ k * width = omega (arith, a.is) in
        let v : c ≤ k = s.behind k (omega (arith, a.low)) (omega (arith, a.high)) (sym (q.tells k d) ∙ e) in
        record { place = a.place; is = a.is; low = a.low; high = omega (arith, a.high); from = a.from; upto = omega arith };
  }

pub half_finds : {p : ℕ → Bool} {at n size from r : ℕ} → Halved p at n size from → Finds p from size r → Finds p at n r
half_finds h f = record { found = λ s a. f.found s (h.half s a) }

-- ---- the first row by itself

pub none_finds : (p : ℕ → Bool) (at n : ℕ) → n ≡ 0 → Finds p at n at
none_finds p at n z = record { found = λ s a. omega (arith, a.is, a.from, a.upto) }

module _ {p : ℕ → Bool} {at n : ℕ} {b : Bool} (z : n ≡ 0 → ⊥) (q : Probe p at b) where
  pub first_finds : not b ≡ true → Finds p at n at
  first_finds e = record {
    found = λ {lo} {hi} {c} s a.
        let u : c ≤ a.place = s.behind a.place a.low (omega (arith, a.high)) (sym (q.tells a.place a.is) ∙ not-true b e) in
        omega (arith, a.is, a.from);
  }

  pub rest_finds : {r : ℕ} → not b ≡ false → Finds p (at + width) (n - 1) r → Finds p at n r
  rest_finds e f = record {
    found = λ {lo} {hi} {c} s a.
        let u : a.place < c = s.before a.place a.low (omega (arith, a.high)) (sym (q.tells a.place a.is) ∙ not-false b e) in
        f.found s (record {
          place = a.place + 1;
          is = omega (arith, a.is);
          low = omega (arith, a.low);
          high = omega (arith, a.high);
          from = omega arith;
          upto = omega (arith, a.upto);
        });
  }
