-- What the heap holds: the streams that are not gone, each once; and what the code's stores do to that. Assumes nothing.
use Rattle.std.specs.Prelude.{◌≡◌, ◌≢◌, List, get_or}
use Rattle.std.proofs.Math.Path.{refl}
use Rattle.std.proofs.Common.{sym, ap, ◌∙◌}
use Prim.Native.Nat.{ℕ, zero, suc, ◌<◌, zero-le}
use native.Mathlib.Omega.{arith}
use Rattle.std.proofs.Math.Option.{some}
use Rattle.records_rules.specs.Machine.{gone, key}
use Rattle.records_rules.specs.Kept.{inside}
use Rattle.records_rules.specs.View.{status_of, statuses_of, status_at, length_statuses}
use Rattle.records_rules.specs.Rules.{IsHeap, root_first, root_none}
use Rattle.records_rules.specs.Heap.{at}
use Rattle.records_rules.specs.Sift.{keys}
use Rattle.records_rules.specs.Holds.{HeapOk, Chosen}

-- ---- the root is the first

module _ (n : ℕ) (ms ts hp : List ℕ) (size : ℕ) (k : HeapOk n ms ts hp size) where
  is_heap : (cs hs : List ℕ) → IsHeap (statuses_of n ms ts cs hs) (keys ts) hp size
  unfolding key status_of
  is_heap cs hs = record { keyed = keyed'; there = there'; above = λ i a b. k.heap i a b zero-le }
    where
      live : (d : ℕ) → d ≢ 0 → (t a l : ℕ) → key (status_of d t a l) ≡ some t
      live zero h t a l = absurd (h refl)
      live (suc zero) h t a l = refl
      live (suc (suc d)) h t a l = refl

      dead : (d t a l u : ℕ) → key (status_of d t a l) ≡ some u → d ≢ 0
      dead zero t a l u e = let z : ◌≡◌ {A = ℕ} 0 1 = cc in absurd (omega arith)
      dead (suc d) t a l u e = λ z. omega arith

      keyed' : (i : ℕ) → i < size → key (get_or (statuses_of n ms ts cs hs) (at hp i) gone) ≡ some (keys ts (at hp i))
      keyed' i h =
          let w = k.holds.who i h in
          ap key (status_at n ms ts cs hs (at hp i) w.0) ∙ live (get_or ms (at hp i) 0) w.1 _ _ _

      there' : (q u : ℕ) → key (get_or (statuses_of n ms ts cs hs) q gone) ≡ some u → (i : ℕ) × (i < size) × (at hp i ≡ q)
      there' q u e =
          let h : q < n = omega (arith, inside (statuses_of n ms ts cs hs) q u e, length_statuses n ms ts cs hs) in
          k.holds.there q h (dead (get_or ms q 0) (get_or ts q 0) (get_or cs q 0) (get_or hs q 0) u (sym (ap key (status_at n ms ts cs hs q h)) ∙ e))

  pub ok_chosen : 0 < size → Chosen n ms ts (at hp 0)
  ok_chosen h =
      let w = k.holds.who 0 h in
      record {
        within = omega (arith, w.0);
        nobody = λ e. absurd (omega (arith, w.0));
        some = λ l cs hs. (keys ts (at hp 0), root_first (statuses_of n ms ts cs hs) (keys ts) hp size (is_heap cs hs) h);
      }

  pub ok_none : size ≡ 0 → Chosen n ms ts n
  ok_none h =
      record {
        within = omega arith;
        nobody = λ e cs hs. root_none (statuses_of n ms ts cs hs) (keys ts) hp size (is_heap cs hs) h;
        some = λ l. absurd (omega arith);
      }
