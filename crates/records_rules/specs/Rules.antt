-- The machine's rules with no count and no scan in them: what code cites, one for each way a turn of its loop can go.
-- `IsFirst ss t p` is what a heap's root gives (`root_first`). Assumes nothing.
-- What rests on a step of the machine stands in proofs/Rules.
use Rattle.std.specs.Prelude.{◌≡◌, refl, ℕ, zero, suc, ◌-◌, ◌/◌, ◌<◌, List, get_or}
use Rattle.std.proofs.Common.{le_refl, arith}
use Rattle.std.proofs.Math.Option.{Option, none, some}
use Rattle.records_rules.specs.Machine.{Status, gone, key}
use Rattle.records_rules.specs.Least.{Upto, upto_refl, upto_trans, IsFirst}

-- ---- a heap: `hp` holds stream numbers, `n` of them count; `times p` is the key of the stream p

pub record IsHeap (ss : List Status) (times : ℕ → ℕ) (hp : List ℕ) (n : ℕ) : Type 0 where
  -- what stands in the heap has a key, and whatever has a key stands in the heap
  pub keyed : (i : ℕ) → i < n → key (get_or ss (get_or hp i 0) gone) ≡ some (times (get_or hp i 0))
  pub there : (q u : ℕ) → key (get_or ss q gone) ≡ some u → (i : ℕ) × (i < n) × (get_or hp i 0 ≡ q)
  -- a parent is not after its children
  pub above : (i : ℕ) → 0 < i → i < n → Upto (times (get_or hp ((i - 1) / 2) 0)) (get_or hp ((i - 1) / 2) 0) (times (get_or hp i 0)) (get_or hp i 0)

module _ (ss : List Status) (times : ℕ → ℕ) (hp : List ℕ) (n : ℕ) (k : IsHeap ss times hp n) where
  abbrev Under : ℕ → Type 0
  Under i = Upto (times (get_or hp 0 0)) (get_or hp 0 0) (times (get_or hp i 0)) (get_or hp i 0)

  -- every one is under the root: f bounds the index
  under : (f i : ℕ) → i < f → i < n → Under i
  under zero i h l = absurd (omega arith)
  under (suc f) zero h l = upto_refl (times (get_or hp 0 0)) (get_or hp 0 0)
  under (suc f) (suc i) h l = upto_trans (under f ((suc i - 1) / 2) (omega arith) (omega arith)) (k.above (suc i) (omega arith) l)

  pub root_first : 0 < n → IsFirst ss (times (get_or hp 0 0)) (get_or hp 0 0)
  root_first h = record { has = k.keyed 0 h; low = go }
    where
      at : (q u i : ℕ) → get_or hp i 0 ≡ q → key (get_or ss q gone) ≡ some u → i < n → Upto (times (get_or hp 0 0)) (get_or hp 0 0) u q
      at q u i e d l =
          let y : key (get_or ss q gone) ≡ some (times q) = rw e at (k.keyed i l) in
          let z : times q ≡ u = cc in
          let x : Upto (times (get_or hp 0 0)) (get_or hp 0 0) (times q) q = rw e at (under (suc i) i (le_refl (suc i)) l) in
          rw z at x

      go : (q u : ℕ) → key (get_or ss q gone) ≡ some u → Upto (times (get_or hp 0 0)) (get_or hp 0 0) u q
      go q u d = let w : (i : ℕ) × (i < n) × (get_or hp i 0 ≡ q) = k.there q u d in at q u w.0 w.2 d w.1

  pub root_none : n ≡ 0 → (q : ℕ) → key (get_or ss q gone) ≡ none
  root_none h q = go (key (get_or ss q gone)) refl
    where
      go : (o : Option ℕ) → key (get_or ss q gone) ≡ o → o ≡ none
      go none e = refl
      go (some u) e = let w : (i : ℕ) × (i < n) × (get_or hp i 0 ≡ q) = k.there q u e in absurd (omega (arith, w.1))
