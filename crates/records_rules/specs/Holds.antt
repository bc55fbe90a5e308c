-- What the heap holds: the streams that are not gone, each once; and what the code's stores do to that. Assumes nothing.
-- What rests on a step of the machine stands in proofs/Holds.
use Rattle.std.specs.Prelude.{◌≡◌, ◌≢◌, List, length, get_or, set}
use Rattle.std.proofs.Math.Path.{refl}
use Rattle.std.proofs.Common.{sym, ap, ◌∙◌, get_or-set_same, get_or-set_other}
use Prim.Native.Nat.{ℕ, zero, suc, ◌-◌, ◌≤◌, ◌<◌, zero-le}
use Rattle.std.proofs.Math.Decide.{ℕ_discrete}
use native.Mathlib.Omega.{arith}
use Rattle.std.proofs.Math.Option.{none}
use Rattle.records_rules.specs.Machine.{gone, key}
use Rattle.records_rules.specs.Least.{IsFirst}
use Rattle.records_rules.specs.View.{statuses_of}
use Rattle.records_rules.specs.Heap.{at, over, Le, HeapFrom}
use Rattle.records_rules.specs.Sift.{keys, Moved}

-- the first `size` places of the heap hold the streams that are not gone (mark 0), and each of them once
pub record Holds (n : ℕ) (ms hp : List ℕ) (size : ℕ) : Type 0 where
  pub who : (x : ℕ) → x < size → (at hp x < n) × (get_or ms (at hp x) 0 ≢ 0)
  pub there : (q : ℕ) → q < n → get_or ms q 0 ≢ 0 → (x : ℕ) × (x < size) × (at hp x ≡ q)
  pub once : (x y : ℕ) → x < size → y < size → at hp x ≡ at hp y → x ≡ y

-- and they are in order: no parent comes after its children by (time, stream)
pub record HeapOk (n : ℕ) (ms ts hp : List ℕ) (size : ℕ) : Type 0 where
  pub holds : Holds n ms hp size
  pub heap : HeapFrom (keys ts) hp size 0

-- what a choice is: nobody at n, or whoever comes first
pub record Chosen (n : ℕ) (ms ts : List ℕ) (r : ℕ) : Type 0 where
  pub within : r ≤ n
  pub nobody : r ≡ n → (cs hs : List ℕ) (q : ℕ) → key (get_or (statuses_of n ms ts cs hs) q gone) ≡ none
  pub some : r < n → (cs hs : List ℕ) → (t : ℕ) × IsFirst (statuses_of n ms ts cs hs) t r

-- ---- the stores

pub holds_moved : {n : ℕ} {ms hp hq : List ℕ} {size : ℕ} → Holds n ms hp size → Moved size hp hq → Holds n ms hq size
holds_moved {n} {ms} {hp} {hq} {size} k m = record { who = who'; there = there'; once = m.once k.once }
  where
    who' : (x : ℕ) → x < size → (at hq x < n) × (get_or ms (at hq x) 0 ≢ 0)
    who' x h = let u : (y : ℕ) × (y < size) × (at hp y ≡ at hq x) = m.from x h in rw u.2 at (k.who u.0 u.1)

    there' : (q : ℕ) → q < n → get_or ms q 0 ≢ 0 → (x : ℕ) × (x < size) × (at hq x ≡ q)
    there' q h d =
        let u : (x : ℕ) × (x < size) × (at hp x ≡ q) = k.there q h d in
        let v : (y : ℕ) × (y < size) × (at hq y ≡ at hp u.0) = m.to u.0 u.1 in
        (v.0, v.1, v.2 ∙ u.2)

-- a kind changes and stays a live one
pub holds_kind : {n : ℕ} {ms hp : List ℕ} {size : ℕ} (p c : ℕ) → p < length ms → get_or ms p 0 ≢ 0 → c ≢ 0 → Holds n ms hp size → Holds n (set ms p c) hp size
holds_kind {n} {ms} {hp} {size} p c hp' live hc k = record { who = λ x h. ((k.who x h).0, to (at hp x) (k.who x h).1); there = λ q h d. k.there q h (back q d); once = k.once }
  where
    to : (q : ℕ) → get_or ms q 0 ≢ 0 → get_or (set ms p c) q 0 ≢ 0
    to q d = go (ℕ_discrete q p)
      where
        go : Dec (q ≡ p) → get_or (set ms p c) q 0 ≢ 0
        go (yes e) = rw (e, get_or-set_same ms p c 0 hp') hc
        go (no e) = rw (get_or-set_other ms p q c 0 e) d

    back : (q : ℕ) → get_or (set ms p c) q 0 ≢ 0 → get_or ms q 0 ≢ 0
    back q d = go (ℕ_discrete q p)
      where
        go : Dec (q ≡ p) → get_or ms q 0 ≢ 0
        go (yes e) = rw e live
        go (no e) = rw (get_or-set_other ms p q c 0 e) at d

-- the root has a new key
pub but_key : (n : ℕ) (ms ts hp : List ℕ) (size t : ℕ) → 0 < size → HeapOk n ms ts hp size → HeapFrom (keys (set ts (at hp 0) t)) hp size 1
but_key n ms ts hp size t h k = rest'
  where
    same : (j : ℕ) → 0 < j → j < size → keys (set ts (at hp 0) t) (at hp j) ≡ keys ts (at hp j)
    same j a b = get_or-set_other ts (at hp 0) (at hp j) t 0 (λ e. let z : j ≡ 0 = k.holds.once j 0 b h e in omega arith)

    rest' : (j : ℕ) → 0 < j → j < size → 1 ≤ over j → Le (keys (set ts (at hp 0) t)) (at hp (over j)) (at hp j)
    rest' j a b d = rw (same (over j) (omega arith) (omega arith), same j a b) (k.heap j a b zero-le)

-- the root goes, and the last takes its place
module _ (n : ℕ) (ms ts hp : List ℕ) (size : ℕ) (h : 0 < size) (hk : n ≤ length ms) (hl : size ≤ length hp) (k : HeapOk n ms ts hp size) where
  abbrev less : List ℕ
  less = set hp 0 (at hp (size - 1))

  zeroth : at less 0 ≡ at hp (size - 1)
  zeroth = get_or-set_same hp 0 (at hp (size - 1)) 0 (omega arith)

  others : (x : ℕ) → x ≢ 0 → at less x ≡ at hp x
  others x d = get_or-set_other hp 0 x (at hp (size - 1)) 0 d

  pub but_drop : HeapFrom (keys ts) less (size - 1) 1
  but_drop = rest'
    where
      rest' : (j : ℕ) → 0 < j → j < size - 1 → 1 ≤ over j → Le (keys ts) (at less (over j)) (at less j)
      rest' j a b d = rw (others (over j) (λ e. omega arith), others j (λ e. omega arith)) (k.heap j a (omega arith) zero-le)

  -- which index of hp an index of the new heap shows
  from : ℕ → ℕ
  from zero = size - 1
  from (suc x) = suc x

  from_is : (x : ℕ) → x < size - 1 → at less x ≡ at hp (from x)
  unfolding from
  from_is zero b = zeroth
  from_is (suc x) b = others (suc x) (λ e. omega arith)

  from_pos : (x : ℕ) → x < size - 1 → (0 < from x) × (from x < size)
  unfolding from
  from_pos zero b = (omega arith, omega arith)
  from_pos (suc x) b = (omega arith, omega arith)

  from_inj : (x y : ℕ) → x < size - 1 → y < size - 1 → from x ≡ from y → x ≡ y
  unfolding from
  from_inj zero zero a b e = refl
  from_inj zero (suc y) a b e = absurd (omega arith)
  from_inj (suc x) zero a b e = absurd (omega arith)
  from_inj (suc x) (suc y) a b e = e

  pub holds_drop : Holds n (set ms (at hp 0) 0) less (size - 1)
  unfolding from
  holds_drop = record { who = who'; there = there'; once = once' }
    where
      p : ℕ
      p = at hp 0

      apart : (x : ℕ) → 0 < x → x < size → at hp x ≢ at hp 0
      apart x a b e = let z : x ≡ 0 = k.holds.once x 0 b h e in omega arith

      who' : (x : ℕ) → x < size - 1 → (at less x < n) × (get_or (set ms (at hp 0) 0) (at less x) 0 ≢ 0)
      who' x b =
          let f = from_pos x b in
          let w = k.holds.who (from x) f.1 in
          rw (from_is x b) (w.0, rw (get_or-set_other ms (at hp 0) (at hp (from x)) 0 0 (apart (from x) f.0 f.1)) w.1)

      there' : (q : ℕ) → q < n → get_or (set ms (at hp 0) 0) q 0 ≢ 0 → (x : ℕ) × (x < size - 1) × (at less x ≡ q)
      there' q b d = go (ℕ_discrete q (at hp 0))
        where
          find : (x : ℕ) → x < size → at hp x ≡ q → q ≢ at hp 0 → Dec (x ≡ size - 1) → (y : ℕ) × (y < size - 1) × (at less y ≡ q)
          find zero l e f g = absurd (f (sym e))
          find (suc x) l e f (yes g) = (0, omega arith, zeroth ∙ ap (at hp) (sym g) ∙ e)
          find (suc x) l e f (no g) = (suc x, omega arith, others (suc x) (λ z. omega arith) ∙ e)

          go : Dec (q ≡ at hp 0) → (x : ℕ) × (x < size - 1) × (at less x ≡ q)
          go (yes e) = absurd (d (ap (λ (r : ℕ). get_or (set ms (at hp 0) 0) r 0) e ∙ get_or-set_same ms (at hp 0) 0 0 (omega (arith, (k.holds.who 0 h).0))))
          go (no e) =
              let u : (x : ℕ) × (x < size) × (at hp x ≡ q) = k.holds.there q b (rw (get_or-set_other ms (at hp 0) q 0 0 e) at d) in
              find u.0 u.1 u.2 e (ℕ_discrete u.0 (size - 1))

      once' : (x y : ℕ) → x < size - 1 → y < size - 1 → at less x ≡ at less y → x ≡ y
      once' x y a b e =
          from_inj x y a b (k.holds.once (from x) (from y) (from_pos x a).1 (from_pos y b).1 (sym (from_is x a) ∙ e ∙ from_is y b))
