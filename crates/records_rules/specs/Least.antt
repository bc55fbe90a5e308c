-- The scan finds the least (time, number), and only that. What a heap has to show of its root is `least_is`.
-- Assumes nothing.
use Rattle.std.specs.Prelude.{◌≡◌, refl, ℕ, zero, suc, ◌≤◌, ◌<◌, List, [], ◌∷◌, get_or, leb}
use Rattle.std.proofs.Common.{zero-le, suc-le-suc, le_refl, le_trans, arith}
use Rattle.std.proofs.Math.Option.{Option, none, some}
use Rattle.std.proofs.Math.Facts.{leb_yes, leb_no}
use Rattle.theory.specs.RunsTools.{cond_case}
use Rattle.records_rules.specs.Machine.{Status, gone, key, First, nobody, first, up, before, least}

-- (t, p) is not after (u, q)
pub record Upto (t p u q : ℕ) : Type 0 where
  pub times : t ≤ u
  pub numbers : u ≤ t → p ≤ q

pub upto_refl : (t p : ℕ) → Upto t p t p
upto_refl t p = record { times = le_refl t; numbers = λ h. le_refl p }

pub upto_trans : {t p u q v r : ℕ} → Upto t p u q → Upto u q v r → Upto t p v r
upto_trans x y =
    record {
      times = le_trans x.times y.times;
      numbers = λ h. le_trans (x.numbers (le_trans y.times h)) (y.numbers (le_trans h x.times));
    }

-- the stream p, at the time t, comes before every other that is not gone
pub record IsFirst (ss : List Status) (t p : ℕ) : Type 0 where
  pub has : key (get_or ss p gone) ≡ some t
  pub low : (q u : ℕ) → key (get_or ss q gone) ≡ some u → Upto t p u q

abbrev pub LeastOk : List Status → First → Type 0
LeastOk ss nobody = (q : ℕ) → key (get_or ss q gone) ≡ none
LeastOk ss (first t p) = IsFirst ss t p

never {ℓ} : {X : Type ℓ} (k : Option ℕ) (u : ℕ) → k ≡ none → k ≡ some u → X
never k u d e = let z : ◌≡◌ {A = ℕ} 0 1 = cc in absurd (omega arith)

up_upto : {t p u q : ℕ} → Upto t p u q → Upto t (suc p) u (suc q)
up_upto x = record { times = x.times; numbers = λ h. suc-le-suc (x.numbers h) }

before_ok : (s : Status) (ss : List Status) (k : Option ℕ) → key s ≡ k → (r : First) → LeastOk ss r → LeastOk (s ∷ ss) (before k (up r))
unfolding before up
before_ok s ss none e nobody h = go
  where
    go : (q : ℕ) → key (get_or (s ∷ ss) q gone) ≡ none
    go zero = e
    go (suc q) = h q
before_ok s ss none e (first t p) h = record { has = h.has; low = go }
  where
    go : (q u : ℕ) → key (get_or (s ∷ ss) q gone) ≡ some u → Upto t (suc p) u q
    go zero u d = never (key s) u e d
    go (suc q) u d = up_upto (h.low q u d)
before_ok s ss (some t) e nobody h = record { has = e; low = go }
  where
    go : (q u : ℕ) → key (get_or (s ∷ ss) q gone) ≡ some u → Upto t 0 u q
    go zero u d = let z : t ≡ u = cc in record { times = omega arith; numbers = λ k. zero-le }
    go (suc q) u d = never (key (get_or ss q gone)) u (h q) d
before_ok s ss (some t) e (first u p) h =
    cond_case (λ r. LeastOk (s ∷ ss) r) (leb t u) (first t 0) (first u (suc p))
    (λ k. record { has = e; low = here (leb_yes k) })
    (λ k. record { has = h.has; low = there (leb_no k) })
  where
    here : t ≤ u → (q v : ℕ) → key (get_or (s ∷ ss) q gone) ≡ some v → Upto t 0 v q
    here k zero v d = let z : t ≡ v = cc in record { times = omega arith; numbers = λ k. zero-le }
    here k (suc q) v d = record { times = le_trans k (h.low q v d).times; numbers = λ k. zero-le }

    there : u < t → (q v : ℕ) → key (get_or (s ∷ ss) q gone) ≡ some v → Upto u (suc p) v q
    there k zero v d = let z : t ≡ v = cc in record { times = omega arith; numbers = λ j. absurd (omega arith) }
    there k (suc q) v d = up_upto (h.low q v d)

pub least_ok : (ss : List Status) → LeastOk ss (least ss)
unfolding least key
least_ok [] = λ q. refl
least_ok (s ∷ ss) = before_ok s ss (key s) refl (least ss) (least_ok ss)

-- the other way round: whoever comes first is what the scan finds
pub least_is : (ss : List Status) (t p : ℕ) → IsFirst ss t p → least ss ≡ first t p
least_is ss t p h = go (least ss) (least_ok ss)
  where
    go : (r : First) → LeastOk ss r → r ≡ first t p
    go nobody k = never (key (get_or ss p gone)) t (k p) h.has
    go (first u q) k =
        let x : Upto t p u q = h.low q u k.has in
        let y : Upto u q t p = k.low p t h.has in
        let i : p ≤ q = x.numbers y.times in
        let j : q ≤ p = y.numbers x.times in
        let e : u ≡ t = omega arith in
        let d : q ≡ p = omega arith in
        cc

pub least_none : (ss : List Status) → ((q : ℕ) → key (get_or ss q gone) ≡ none) → least ss ≡ nobody
least_none ss h = go (least ss) (least_ok ss)
  where
    go : (r : First) → LeastOk ss r → r ≡ nobody
    go nobody k = refl
    go (first u q) k = never (key (get_or ss q gone)) u (h q) k.has
