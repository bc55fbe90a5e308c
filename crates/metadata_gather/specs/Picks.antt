-- Losing repeats by places: the places of the mappings that count. Assumes nothing.
use Rattle.std.specs.Prelude.{◌≡◌, refl, ℕ, zero, suc, ◌+◌, ◌≤◌, ◌<◌, cond, length, set, take, eqb}
use Rattle.std.proofs.Math.Path.{sym, ap}
use Rattle.std.proofs.Common.{◌∙◌, subst, arith, add-one, length-set, length-append, take-suc-set}
use Rattle.std.proofs.Math.Decide.{dec_le}
use mathlib.Core.List.{List, [], ◌∷◌, ◌++◌}
use Rattle.std.proofs.Math.Seq.{take-set-lt}
use Rattle.metadata_rules.specs.Cases.{eqb_case, cond_eq, cond_ne}
use Rattle.metadata_rules.specs.Metadata.{add}
use Rattle.metadata_rules.specs.Words.{name_at}
use Rattle.metadata_gather.specs.Arrivals.{index_of, IsAdded, AllAdded, Marked, index_le}

-- the place t takes the place of the one with its name, or goes to the end
unfoldable pub enter_place : List ℕ → List ℕ → ℕ → List ℕ
enter_place m [] t = t ∷ []
enter_place m (p ∷ ps) t = cond (eqb (name_at m p) (name_at m t)) (t ∷ ps) (p ∷ enter_place m ps t)

-- the places that count among the first t mappings
unfoldable pub picks_of : List ℕ → ℕ → List ℕ
unfolding enter_place
picks_of m zero = []
picks_of m (suc t) = enter_place m (picks_of m t) t

unfoldable pub names_at : List ℕ → List ℕ → List ℕ
names_at m [] = []
names_at m (p ∷ ps) = name_at m p ∷ names_at m ps

-- ---- laws

names_length : (m ps : List ℕ) → length (names_at m ps) ≡ length ps
unfolding names_at
names_length m [] = refl
names_length m (p ∷ ps) = ap suc (names_length m ps)

names_enter : (m ps : List ℕ) (t : ℕ) → names_at m (enter_place m ps t) ≡ add (names_at m ps) (name_at m t)
unfolding names_at enter_place add
names_enter m [] t = refl
names_enter m (p ∷ ps) t =
    eqb_case (λ (r : List ℕ). names_at m r ≡ cond (eqb (name_at m p) (name_at m t)) (name_at m p ∷ names_at m ps) (name_at m p ∷ add (names_at m ps) (name_at m t))) (name_at m p) (name_at m t) _ _
    (λ e. ap (λ (n : ℕ). n ∷ names_at m ps) (sym e) ∙ sym (cond_eq (name_at m p) (name_at m t) _ _ e))
    (λ d. ap (λ (l : List ℕ). name_at m p ∷ l) (names_enter m ps t) ∙ sym (cond_ne (name_at m p) (name_at m t) _ _ d))

enter_present : (m ps : List ℕ) (t : ℕ) → index_of (names_at m ps) (name_at m t) < length ps → enter_place m ps t ≡ set ps (index_of (names_at m ps) (name_at m t)) t
unfolding names_at enter_place index_of
enter_present m [] t h = absurd (omega arith)
enter_present m (p ∷ ps) t h =
    eqb_case (λ (k : ℕ). k < suc (length ps) → enter_place m (p ∷ ps) t ≡ set (p ∷ ps) k t) (name_at m p) (name_at m t) _ _
    (λ e i. cond_eq (name_at m p) (name_at m t) _ _ e)
    (λ d i. cond_ne (name_at m p) (name_at m t) _ _ d ∙ ap (λ (l : List ℕ). p ∷ l) (enter_present m ps t (omega arith))) h

enter_absent : (m ps : List ℕ) (t : ℕ) → length ps ≤ index_of (names_at m ps) (name_at m t) → enter_place m ps t ≡ ps ++ t ∷ []
unfolding names_at enter_place index_of
enter_absent m [] t h = refl
enter_absent m (p ∷ ps) t h =
    eqb_case (λ (k : ℕ). suc (length ps) ≤ k → enter_place m (p ∷ ps) t ≡ p ∷ ps ++ t ∷ []) (name_at m p) (name_at m t) _ _
    (λ e i. absurd (omega arith))
    (λ d i. cond_ne (name_at m p) (name_at m t) _ _ d ∙ ap (λ (l : List ℕ). p ∷ l) (enter_absent m ps t (omega arith))) h

picks_new : (m : List ℕ) (i : ℕ) → length (picks_of m i) ≤ index_of (names_at m (picks_of m i)) (name_at m i) → picks_of m (suc i) ≡ picks_of m i ++ i ∷ []
unfolding picks_of
picks_new m i h = enter_absent m (picks_of m i) i h

picks_old : (m : List ℕ) (i : ℕ) → index_of (names_at m (picks_of m i)) (name_at m i) < length (picks_of m i)
    → picks_of m (suc i) ≡ set (picks_of m i) (index_of (names_at m (picks_of m i)) (name_at m i)) i
unfolding picks_of
picks_old m i h = enter_present m (picks_of m i) i h

-- what holds after the first i mappings
pub record Picking (m names at last : List ℕ) (count i : ℕ) : Type 0 where
  pub few : count ≤ i
  pub stand : AllAdded (names_at m (picks_of m i)) count names at
  pub there : take count last ≡ picks_of m i

pub picking_start : (m names at last : List ℕ) → Marked at [] → Picking m names at last 0 0
unfolding picks_of names_at
picking_start m names at last h = record { few = omega arith; stand = record { how_many = refl; stand = refl; marks = h }; there = refl }

module _ (m names at last : List ℕ) (count i : ℕ) (g : Picking m names at last count i) (l : i < length last)
    (x place count' : ℕ) (names' at' : List ℕ) (e : x ≡ name_at m i) (a : IsAdded (take count names) x place count' names' at') where
  size : length (picks_of m i) ≡ count
  size = sym (names_length m (picks_of m i)) ∙ sym g.stand.how_many

  at_place : place ≡ index_of (names_at m (picks_of m i)) (name_at m i)
  at_place = a.where_it_is ∙ ap (λ (l : List ℕ). index_of l x) g.stand.stand ∙ ap (index_of (names_at m (picks_of m i))) e

  all_names : add (take count names) x ≡ names_at m (picks_of m (suc i))
  unfolding picks_of
  all_names = ap (λ (l : List ℕ). add l x) g.stand.stand ∙ ap (add (names_at m (picks_of m i))) e ∙ sym (names_enter m (picks_of m i) i)

  pub place_low : place ≤ i
  place_low =
      let z = index_le (names_at m (picks_of m i)) (name_at m i) in
      let y = names_length m (picks_of m i) in
      let w = at_place in
      let v = size in
      let u = g.few in
      omega arith

  pub picking_turn : (last' : List ℕ) → last' ≡ set last place i → Picking m names' at' last' count' (i + 1)
  picking_turn last' s = subst (Picking m names' at' last' count') (sym (add-one i)) (go (dec_le count place))
    where
      b : AllAdded (names_at m (picks_of m (suc i))) count' names' at'
      b = record { how_many = a.how_many ∙ ap length all_names; stand = a.stand ∙ all_names; marks = subst (Marked at') all_names a.marks }

      total : count' ≡ length (picks_of m (suc i))
      total = b.how_many ∙ names_length m (picks_of m (suc i))

      go : Dec (count ≤ place) → Picking m names' at' last' count' (suc i)
      go (yes h) =
          let z = size in let y = at_place in let n = names_length m (picks_of m i) in let w = index_le (names_at m (picks_of m i)) (name_at m i) in let f = g.few in
          let p : place ≡ count = omega arith in
          let q : picks_of m (suc i) ≡ picks_of m i ++ i ∷ [] = picks_new m i (omega arith) in
          let k : count' ≡ suc count = total ∙ ap length q ∙ length-append (picks_of m i) (i ∷ []) ∙ ap (λ (j : ℕ). j + 1) size ∙ add-one count in
          record {
            few = omega arith;
            stand = b;
            there = ap (λ (j : ℕ). take j last') k ∙ ap (take (suc count)) (s ∙ ap (λ (j : ℕ). set last j i) p) ∙ take-suc-set last count i (omega arith) ∙ ap (λ (l : List ℕ). l ++ i ∷ []) g.there ∙ sym q;
          }
      go (no h) =
          let z = size in let y = at_place in let f = g.few in
          let q : picks_of m (suc i) ≡ set (picks_of m i) (index_of (names_at m (picks_of m i)) (name_at m i)) i = picks_old m i (omega arith) in
          let k : count' ≡ count = total ∙ ap length q ∙ length-set (picks_of m i) (index_of (names_at m (picks_of m i)) (name_at m i)) i ∙ size in
          record {
            few = omega arith;
            stand = b;
            there = ap (λ (j : ℕ). take j last') k ∙ ap (take count) s ∙ take-set-lt count last place i (omega arith) ∙ ap (λ (l : List ℕ). set l place i) g.there ∙ ap (λ (j : ℕ). set (picks_of m i) j i) y ∙ sym q;
          }
