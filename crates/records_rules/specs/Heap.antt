-- A binary heap of stream numbers, on lists: a swap with the lesser child moves the one place where the order may fail
-- downwards, and where it does not fail there the whole is a heap. `times p` is the key of the stream p. Assumes nothing.
use Rattle.std.specs.Prelude.{◌≡◌, ◌≢◌, ℕ, ◌+◌, ◌-◌, ◌/◌, ◌≤◌, ◌<◌, List, length, get_or, set}
use Rattle.std.proofs.Common.{sym, ◌∙◌, arith}
use Rattle.std.proofs.Math.Path.{ap}
use Rattle.std.proofs.Math.Decide.{ℕ_discrete}
use Rattle.std.proofs.Math.ListN.{length-set}
use Rattle.std.proofs.Math.Seq.{get_or-set_same, get_or-set_other}
use Rattle.records_rules.specs.Least.{Upto}

abbrev pub at : List ℕ → ℕ → ℕ
at hp i = get_or hp i 0

-- the parent of the index i
abbrev pub over : ℕ → ℕ
over i = (i - 1) / 2

unfoldable pub swap : List ℕ → ℕ → ℕ → List ℕ
swap hp i m = set (set hp i (at hp m)) m (at hp i)

module _ (hp : List ℕ) (i m : ℕ) (hi : i < length hp) (hm : m < length hp) where
  pub swap_left : i ≢ m → at (swap hp i m) i ≡ at hp m
  unfolding swap
  swap_left d = get_or-set_other (set hp i (at hp m)) m i (at hp i) 0 d ∙ get_or-set_same hp i (at hp m) 0 hi

  pub swap_right : at (swap hp i m) m ≡ at hp i
  unfolding swap
  swap_right = get_or-set_same (set hp i (at hp m)) m (at hp i) 0 (omega (arith, length-set hp i (at hp m)))

  pub swap_other : (j : ℕ) → j ≢ i → j ≢ m → at (swap hp i m) j ≡ at hp j
  unfolding swap
  swap_other j d e = get_or-set_other (set hp i (at hp m)) m j (at hp i) 0 e ∙ get_or-set_other hp i j (at hp m) 0 d

module _ (times : ℕ → ℕ) where
  abbrev pub Le : ℕ → ℕ → Type 0
  Le p q = Upto (times p) p (times q) q

  -- from k on, a parent is not after its children
  abbrev pub HeapFrom : List ℕ → ℕ → ℕ → Type 0
  HeapFrom hp n k = (j : ℕ) → 0 < j → j < n → k ≤ over j → Le (at hp (over j)) (at hp j)

  -- so from k on, but for the children of i; what stands above i is not after them either
  pub record HeapBut (hp : List ℕ) (n k i : ℕ) : Type 0 where
    pub rest : (j : ℕ) → 0 < j → j < n → k ≤ over j → over j ≢ i → Le (at hp (over j)) (at hp j)
    pub skip : (j : ℕ) → 0 < j → j < n → over j ≡ i → 0 < i → k ≤ over i → Le (at hp (over i)) (at hp j)

  pub but_start : (hp : List ℕ) (n k : ℕ) → HeapFrom hp n (k + 1) → HeapBut hp n k k
  but_start hp n k h = record { rest = λ j a b c d. h j a b (omega arith); skip = λ j a b d z c. absurd (omega arith) }

  pub but_done : (hp : List ℕ) (n k i : ℕ) → HeapBut hp n k i → ((j : ℕ) → 0 < j → j < n → over j ≡ i → Le (at hp i) (at hp j)) → HeapFrom hp n k
  but_done hp n k i x h j a b c = go (ℕ_discrete (over j) i)
    where
      go : Dec (over j ≡ i) → Le (at hp (over j)) (at hp j)
      go (yes d) = rw d (h j a b d)
      go (no d) = x.rest j a b c d

  module _ (hp : List ℕ) (n o i m : ℕ) (hn : n ≤ length hp) (k : HeapBut hp n o i) (h0 : 0 < m) (hm : m < n) (up : over m ≡ i)
      (less : Le (at hp m) (at hp i)) (least : (j : ℕ) → 0 < j → j < n → over j ≡ i → Le (at hp m) (at hp j)) where
    hq : List ℕ
    hq = swap hp i m

    li : i < length hp
    li = omega arith

    lm : m < length hp
    lm = omega arith

    i≢m : i ≢ m
    i≢m e = omega arith

    rest' : (j : ℕ) → 0 < j → j < n → o ≤ over j → over j ≢ m → Le (at hq (over j)) (at hq j)
    unfolding hq
    rest' j a b c d = go (ℕ_discrete j i) (ℕ_discrete j m) (ℕ_discrete (over j) i)
      where
        go : Dec (j ≡ i) → Dec (j ≡ m) → Dec (over j ≡ i) → Le (at (swap hp i m) (over j)) (at (swap hp i m) j)
        go (yes e) y z =
            let u : at (swap hp i m) (over j) ≡ at hp (over j) = swap_other hp i m li lm (over j) (omega arith) d in
            let v : at (swap hp i m) j ≡ at hp m = ap (at (swap hp i m)) e ∙ swap_left hp i m li lm i≢m in
            let w : at hp (over i) ≡ at hp (over j) = ap (λ (x : ℕ). at hp (over x)) (sym e) in
            rw (u, v) (rw w at (k.skip m h0 hm up (omega arith) (omega arith)))
        go (no e) (yes y) z =
            let u : at (swap hp i m) (over j) ≡ at hp m = ap (at (swap hp i m)) (ap over y ∙ up) ∙ swap_left hp i m li lm i≢m in
            let v : at (swap hp i m) j ≡ at hp i = ap (at (swap hp i m)) y ∙ swap_right hp i m li lm in
            rw (u, v) less
        go (no e) (no y) (yes z) =
            let u : at (swap hp i m) (over j) ≡ at hp m = ap (at (swap hp i m)) z ∙ swap_left hp i m li lm i≢m in
            let v : at (swap hp i m) j ≡ at hp j = swap_other hp i m li lm j e y in
            rw (u, v) (least j a b z)
        go (no e) (no y) (no z) =
            let u : at (swap hp i m) (over j) ≡ at hp (over j) = swap_other hp i m li lm (over j) z d in
            let v : at (swap hp i m) j ≡ at hp j = swap_other hp i m li lm j e y in
            rw (u, v) (k.rest j a b c z)

    pub but_step : HeapBut (swap hp i m) n o m
    unfolding hq
    but_step = record { rest = rest'; skip = skip' }
      where
        skip' : (j : ℕ) → 0 < j → j < n → over j ≡ m → 0 < m → o ≤ over m → Le (at (swap hp i m) (over m)) (at (swap hp i m) j)
        skip' j a b d z c =
            let u : at (swap hp i m) (over m) ≡ at hp m = ap (at (swap hp i m)) up ∙ swap_left hp i m li lm i≢m in
            let v : at (swap hp i m) j ≡ at hp j = swap_other hp i m li lm j (λ e. omega arith) (λ e. omega arith) in
            let x : Le (at hp (over j)) (at hp j) = k.rest j a b (omega arith) (λ e. omega arith) in
            rw (u, v) (rw d at x)

-- a swap keeps who is there
pub swap_there : (hp : List ℕ) (n i m : ℕ) → n ≤ length hp → i < n → m < n → i ≢ m → (q x : ℕ) → x < n → at hp x ≡ q → (y : ℕ) × (y < n) × (at (swap hp i m) y ≡ q)
swap_there hp n i m hn hi hm d q x hx e = go (ℕ_discrete x i) (ℕ_discrete x m)
  where
    go : Dec (x ≡ i) → Dec (x ≡ m) → (y : ℕ) × (y < n) × (at (swap hp i m) y ≡ q)
    go (yes a) b = (m, hm, swap_right hp i m (omega arith) (omega arith) ∙ ap (at hp) (sym a) ∙ e)
    go (no a) (yes b) = (i, hi, swap_left hp i m (omega arith) (omega arith) d ∙ ap (at hp) (sym b) ∙ e)
    go (no a) (no b) = (x, hx, swap_other hp i m (omega arith) (omega arith) x a b ∙ e)
