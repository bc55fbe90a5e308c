-- How many streams the heap holds is fixed by the streams' marks, so that `next` answers one number: both heaps hold the streams
-- that are not gone, each once. Assumes nothing.
use Rattle.std.specs.Prelude.{◌≡◌, ◌≢◌, ℕ, zero, suc, ◌≤◌, ◌<◌, List}
use Rattle.std.proofs.Common.{sym, ap, ◌∙◌, zero-le, arith}
use Rattle.std.proofs.Math.Decide.{dec_lt, ℕ_discrete}
use Rattle.records_rules.specs.Heap.{at}
use Rattle.records_rules.specs.Holds.{Holds}

-- the first a numbers go to numbers below b, no two to one
record Into (a b : ℕ) (f : ℕ → ℕ) : Type 0 where
  within : (x : ℕ) → x < a → f x < b
  apart : (x y : ℕ) → x < a → y < a → f x ≡ f y → x ≡ y

-- v in the place of u
swapped : (u v w : ℕ) → Dec (w ≡ u) → ℕ
swapped u v w (yes e) = v
swapped u v w (no d) = w

swapped_below : (b v w : ℕ) (d : Dec (w ≡ b)) → w < suc b → v < suc b → (w ≡ b → v ≢ b) → swapped b v w d < b
unfolding swapped
swapped_below b v w (yes e) h k n = let m = n e in omega arith
swapped_below b v w (no d) h k n = omega arith

swapped_apart : (b v w z : ℕ) (d : Dec (w ≡ b)) (c : Dec (z ≡ b)) → w ≢ v → z ≢ v → swapped b v w d ≡ swapped b v z c → w ≡ z
unfolding swapped
swapped_apart b v w z (yes d) (yes c) n m e = d ∙ sym c
swapped_apart b v w z (yes d) (no c) n m e = absurd (m (sym e))
swapped_apart b v w z (no d) (yes c) n m e = absurd (n e)
swapped_apart b v w z (no d) (no c) n m e = e

-- so a is at most b
into_le : (a b : ℕ) (f : ℕ → ℕ) → Into a b f → a ≤ b
into_le zero b f k = zero-le
into_le (suc a) zero f k = let h = k.within 0 (omega arith) in absurd (omega arith)
into_le (suc a) (suc b) f k =
    let less : a ≤ b = into_le a b (λ x. swapped b (f a) (f x) (ℕ_discrete (f x) b)) (record {
      within = λ x h. swapped_below b (f a) (f x) (ℕ_discrete (f x) b) (k.within x (omega arith)) (k.within a (omega arith))
          (λ e n. let z : x ≡ a = k.apart x a (omega arith) (omega arith) (e ∙ sym n) in omega arith);
      apart = λ x y h l e. k.apart x y (omega arith) (omega arith)
          (swapped_apart b (f a) (f x) (f y) (ℕ_discrete (f x) b) (ℕ_discrete (f y) b)
          (λ n. let z : x ≡ a = k.apart x a (omega arith) (omega arith) n in omega arith)
          (λ n. let z : y ≡ a = k.apart y a (omega arith) (omega arith) n in omega arith) e);
    }) in
    omega arith

module _ {n : ℕ} {ms hp hq : List ℕ} {a b : ℕ} (k : Holds n ms hp a) (l : Holds n ms hq b) where
  -- where in the second heap the stream at x of the first stands
  there : (x : ℕ) → x < a → (y : ℕ) × (y < b) × (at hq y ≡ at hp x)
  there x h = l.there (at hp x) (k.who x h).0 (k.who x h).1

  goes : (x : ℕ) → Dec (x < a) → ℕ
  goes x (yes h) = (there x h).0
  goes x (no h) = 0

  goes_there : (x : ℕ) (d : Dec (x < a)) → x < a → (goes x d < b) × (at hq (goes x d) ≡ at hp x)
  unfolding goes
  goes_there x (yes h) i = ((there x h).1, (there x h).2)
  goes_there x (no h) i = absurd (h i)

  held_le : a ≤ b
  held_le = into_le a b (λ x. goes x (dec_lt x a)) (record {
    within = λ x h. (goes_there x (dec_lt x a) h).0;
    apart = λ x y h i e.
        k.once x y h i (sym (goes_there x (dec_lt x a) h).1 ∙ ap (at hq) e ∙ (goes_there y (dec_lt y a) i).1);
  })

-- THE THEOREM: two heaps over the same marks hold the same number
pub held_one : {n : ℕ} {ms hp hq : List ℕ} {a b : ℕ} → Holds n ms hp a → Holds n ms hq b → a ≡ b
held_one k l = let h = held_le k l in let i = held_le l k in omega arith
