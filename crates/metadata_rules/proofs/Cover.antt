-- A walk that does not conflict covers exactly the (day, symbol) pairs of both lists.
-- Assumes nothing.
use Rattle.std.proofs.Math.Path.{◌≡◌, refl, sym}
use Rattle.std.proofs.Common.{◌∙◌}
use Rattle.std.specs.Prelude.{◌⊎◌, ◌↔◌, ℕ, ◌≤◌, ◌<◌, eqb}
use Rattle.std.proofs.Math.Logic.{inl, inr, ⊎_elim}
use native.Mathlib.Omega.{arith}
use Rattle.std.proofs.Math.Decide.{dec_le}
use mathlib.Core.List.{List, [], ◌∷◌}
use Rattle.std.proofs.Math.Facts.{eqb_yes}
use Rattle.metadata_rules.specs.declared.Interval.{Interval}
use Rattle.metadata_rules.specs.declared.IntervalOrdering.{IntervalOrdering}
use Rattle.metadata_rules.specs.declared.IntervalOrdering.TheVariants.{Equal, Less, Greater, Overlap}
use Rattle.metadata_rules.specs.Walk.{Walked, conflict, laid, same_dates, ordering, joined, out, agreed, heads, against, walk, then_all, walk_all}
use Rattle.theory.specs.RunsTools.{cond_case, T_fst, T_snd}
use Rattle.metadata_rules.specs.Cases.{eqb_case, leb_case}

abbrev pub In : ℕ → ℕ → Interval → Type 0
In d s x = (x.start ≤ d) × (d < x.end) × (x.symbol ≡ s)

-- some interval of the list has the day d and the symbol s
abbrev pub Covered : ℕ → ℕ → List Interval → Type 0
Covered d s [] = ⊥
Covered d s (x ∷ xs) = In d s x ⊎ Covered d s xs

-- how two heads ordering, as facts
pub ordering_case : (P : IntervalOrdering → Type 0) (a b : Interval) → (a.start ≡ b.start → a.end ≡ b.end → P Equal) → (a.end ≤ b.start → P Less)
    → (b.end ≤ a.start → P Greater) → (b.start < a.end → a.start < b.end → P Overlap) → P (ordering a b)
unfolding ordering same_dates
ordering_case P a b f g h k =
    cond_case P (same_dates a b) _ _
    (λ t. f (eqb_yes (T_fst (eqb a.start b.start) (eqb a.end b.end) t)) (eqb_yes (T_snd (eqb a.start b.start) (eqb a.end b.end) t)))
    (λ t. leb_case P a.end b.start _ _ g (λ i. leb_case P b.end a.start _ _ h (λ j. k i j)))

module _ (d s : ℕ) where
  -- a walk's outcome, where it is one, covers d and s exactly when P
  abbrev pub Says : Type 0 → Walked → Type 0
  Says P conflict = Unit {0}
  Says P (laid xs) = Covered d s xs ↔ P

  out_says : (P Q : Type 0) (x : Interval) (w : Walked) → Says P w → (In d s x → Q) → (P → Q) → (Q → In d s x ⊎ P) → Says Q (out x w)
  unfolding out
  out_says P Q x conflict r f g h = tt
  out_says P Q x (laid xs) r f g h = (λ k. there k, λ q. back (h q))
    where
      there : In d s x ⊎ Covered d s xs → Q
      there (inl i) = f i
      there (inr c) = g (r.0 c)

      back : In d s x ⊎ P → In d s x ⊎ Covered d s xs
      back (inl i) = inl i
      back (inr p) = inr (r.1 p)

  agreed_says : (P Q : Type 0) (a b x : Interval) (w : Walked) → Says P w
      → (a.symbol ≡ b.symbol → (In d s x → Q) × (P → Q) × (Q → In d s x ⊎ P)) → Says Q (agreed a b x w)
  unfolding agreed
  agreed_says P Q a b x w r f =
      eqb_case (λ (v : Walked). Says Q v) a.symbol b.symbol _ _ (λ e. out_says P Q x w r (f e).0 (f e).1 (f e).2) (λ e. tt)

  joined_in : (a b : Interval) → b.start < a.end → a.start < b.end → a.symbol ≡ b.symbol → In d s (joined a b) → In d s a ⊎ In d s b
  unfolding joined
  joined_in a b h k e i = go (dec_le a.start d) (dec_le a.end d)
    where
      go : Dec (a.start ≤ d) → Dec (a.end ≤ d) → In d s a ⊎ In d s b
      go (yes p) (no q) = inl (p, omega arith, i.2)
      go (yes p) (yes q) = inr (omega arith, omega arith, sym e ∙ i.2)
      go (no p) q = inr (omega arith, omega arith, sym e ∙ i.2)

  module _ (a b : Interval) (A B : Type 0) where
    abbrev Both : Type 0
    Both = (In d s a ⊎ A) ⊎ (In d s b ⊎ B)

    same_out : a.start ≡ b.start → a.end ≡ b.end → a.symbol ≡ b.symbol → (In d s a → Both) × ((A ⊎ B) → Both) × (Both → In d s a ⊎ (A ⊎ B))
    same_out e f g = (λ i. inl (inl i), there, back)
      where
        there : A ⊎ B → Both
        there (inl x) = inl (inr x)
        there (inr y) = inr (inr y)

        back : Both → In d s a ⊎ (A ⊎ B)
        back (inl (inl i)) = inl i
        back (inl (inr x)) = inr (inl x)
        back (inr (inl i)) = inl (omega arith, omega arith, g ∙ i.2)
        back (inr (inr y)) = inr (inr y)

    joined_out : b.start < a.end → a.start < b.end → a.symbol ≡ b.symbol
        → (In d s (joined a b) → Both) × ((A ⊎ B) → Both) × (Both → In d s (joined a b) ⊎ (A ⊎ B))
    unfolding joined
    joined_out e f g = (λ i. on (joined_in a b e f g i), there, back)
      where
        on : In d s a ⊎ In d s b → Both
        on (inl i) = inl (inl i)
        on (inr i) = inr (inl i)

        there : A ⊎ B → Both
        there (inl x) = inl (inr x)
        there (inr y) = inr (inr y)

        back : Both → In d s (joined a b) ⊎ (A ⊎ B)
        back (inl (inl i)) = inl (omega arith, omega arith, i.2)
        back (inl (inr x)) = inr (inl x)
        back (inr (inl i)) = inl (omega arith, omega arith, g ∙ i.2)
        back (inr (inr y)) = inr (inr y)

    ahead_back : Both → In d s a ⊎ (A ⊎ (In d s b ⊎ B))
    ahead_back (inl (inl i)) = inl i
    ahead_back (inl (inr x)) = inr (inl x)
    ahead_back (inr y) = inr (inr y)

    ahead_on : A ⊎ (In d s b ⊎ B) → Both
    ahead_on (inl x) = inl (inr x)
    ahead_on (inr y) = inr y

    behind_back : Both → In d s b ⊎ ((In d s a ⊎ A) ⊎ B)
    behind_back (inl x) = inr (inl x)
    behind_back (inr (inl i)) = inl i
    behind_back (inr (inr y)) = inr (inr y)

    behind_on : (In d s a ⊎ A) ⊎ B → Both
    behind_on (inl x) = inl x
    behind_on (inr y) = inr (inr y)

    heads_says : (both past_a past_b : Walked) → Says (A ⊎ B) both → Says (A ⊎ (In d s b ⊎ B)) past_a → Says ((In d s a ⊎ A) ⊎ B) past_b
        → Says Both (heads a b (ordering a b) both past_a past_b)
    unfolding heads
    heads_says both past_a past_b r p q =
        ordering_case (λ (l : IntervalOrdering). Says Both (heads a b l both past_a past_b)) a b
        (λ e f. agreed_says (A ⊎ B) Both a b a both r (same_out e f))
        (λ e. out_says (A ⊎ (In d s b ⊎ B)) Both a past_a p (λ i. inl (inl i)) ahead_on ahead_back)
        (λ e. out_says ((In d s a ⊎ A) ⊎ B) Both b past_b q (λ i. inr (inl i)) behind_on behind_back)
        (λ e f. agreed_says (A ⊎ B) Both a b (joined a b) both r (joined_out e f))

  left_only_lem : (xs : List Interval) → Covered d s xs ↔ (Covered d s xs ⊎ ⊥)
  left_only_lem xs = (λ c. inl c, go)
    where
      go : Covered d s xs ⊎ ⊥ → Covered d s xs
      go (inl c) = c
      go (inr n) = absurd n

  right_only_lem : (xs : List Interval) → Covered d s xs ↔ (⊥ ⊎ Covered d s xs)
  right_only_lem xs = (λ c. inr c, go)
    where
      go : ⊥ ⊎ Covered d s xs → Covered d s xs
      go (inl n) = absurd n
      go (inr c) = c

  against_says : (a : Interval) (al : List Interval) (go : List Interval → Walked)
      → ((bs : List Interval) → Says (Covered d s al ⊎ Covered d s bs) (go bs))
      → (bs : List Interval) → Says (Covered d s (a ∷ al) ⊎ Covered d s bs) (against a al go bs)
  unfolding against
  against_says a al go r [] = left_only_lem (a ∷ al)
  against_says a al go r (b ∷ bs) =
      heads_says a b (Covered d s al) (Covered d s bs) (go bs) (go (b ∷ bs)) (against a al go bs) (r bs) (r (b ∷ bs)) (against_says a al go r bs)

  walk_says : (xs bs : List Interval) → Says (Covered d s xs ⊎ Covered d s bs) (walk xs bs)
  unfolding walk
  walk_says [] bs = right_only_lem bs
  walk_says (a ∷ al) bs = against_says a al (walk al) (walk_says al) bs

  pub walk_covers : (xs bs cs : List Interval) → walk xs bs ≡ laid cs → Covered d s cs ↔ (Covered d s xs ⊎ Covered d s bs)
  walk_covers xs bs cs e = let z : Says (Covered d s xs ⊎ Covered d s bs) (laid cs) = rw e at (walk_says xs bs) in z

  -- and over several lists
  abbrev pub CoveredAny : List (List Interval) → Type 0
  CoveredAny [] = ⊥
  CoveredAny (t ∷ ts) = Covered d s t ⊎ CoveredAny ts

  pub walk_all_covers : (ts : List (List Interval)) (xs cs : List Interval) → walk_all xs ts ≡ laid cs → Covered d s cs ↔ (Covered d s xs ⊎ CoveredAny ts)
  unfolding walk_all
  walk_all_covers [] xs cs e = let z : xs ≡ cs = cc in rw (← z) (left_only_lem xs)
  walk_all_covers (t ∷ ts) xs cs e = go (walk xs t) refl e (λ u. walk_all_covers ts u cs)
    where
      go : (w : Walked) → walk xs t ≡ w → then_all (λ u. walk_all u ts) w ≡ laid cs
          → ((u : List Interval) → walk_all u ts ≡ laid cs → Covered d s cs ↔ (Covered d s u ⊎ CoveredAny ts))
          → Covered d s cs ↔ (Covered d s xs ⊎ (Covered d s t ⊎ CoveredAny ts))
      go conflict f h ih = let z : ◌≡◌ {A = ℕ} 0 1 = cc in absurd (omega arith)
      go (laid u) f h ih =
          let r = walk_covers xs t u f in
          let q = ih u h in
          (λ c. there r (q.0 c), λ k. q.1 (back r k))
        where
          there : Covered d s u ↔ (Covered d s xs ⊎ Covered d s t) → Covered d s u ⊎ CoveredAny ts → Covered d s xs ⊎ (Covered d s t ⊎ CoveredAny ts)
          there r (inl k) = ⊎_elim (λ x. inl x) (λ y. inr (inl y)) (r.0 k)
          there r (inr k) = inr (inr k)

          back : Covered d s u ↔ (Covered d s xs ⊎ Covered d s t) → Covered d s xs ⊎ (Covered d s t ⊎ CoveredAny ts) → Covered d s u ⊎ CoveredAny ts
          back r (inl k) = inl (r.1 (inl k))
          back r (inr (inl k)) = inl (r.1 (inr k))
          back r (inr (inr k)) = inr k
