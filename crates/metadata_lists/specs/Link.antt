-- Mappings whose intervals stand one after the other, and the chains of their names, built from the last mapping to the first.
-- Assumes nothing.
use Rattle.std.specs.Prelude.{◌≡◌, refl, ◌≢◌, ℕ, zero, suc, ◌+◌, ◌≤◌, ◌<◌, List, ◌∷◌, length, get_or, set}
use Rattle.std.proofs.Common.{sym, ap, ◌∙◌, subst, arith, length-set, get_or-set_same, get_or-set_other}
use Rattle.std.proofs.Math.Decide.{dec_le, ℕ_discrete}
use Rattle.metadata_rules.specs.Metadata.{Mapping, mapping}
use Rattle.metadata_rules.specs.Words.{name_at, count_at, stretch, mappings_from, before}
use Rattle.metadata_rules.specs.WordsLaws.{before_next}
use Rattle.metadata_lists.specs.Flat.{list_at, placed_from, First, Linked}

pub off_turn : (m off off' : List ℕ) (t o : ℕ) → t < length off → o ≡ before m t → off' ≡ set off t o
    → ((s : ℕ) → s < t → get_or off s 0 ≡ before m s) → (s : ℕ) → s < t + 1 → get_or off' s 0 ≡ before m s
off_turn m off off' t o l d w h s k = ap (λ (r : List ℕ). get_or r s 0) w ∙ go (ℕ_discrete t s)
  where
    go : Dec (t ≡ s) → get_or (set off t o) s 0 ≡ before m s
    go (yes e) = let z : s < length off = omega arith in ap (λ (u : ℕ). get_or (set off u o) s 0) e ∙ get_or-set_same off s o 0 z ∙ d ∙ ap (before m) e
    go (no e) = get_or-set_other off t s o 0 (λ y. e (sym y)) ∙ h s (omega (arith, ne))
      where
        ne : s ≢ t
        ne y = e (sym y)

-- the flat reading: each mapping's intervals start where the ones before end
pub flat_same : (m v off : List ℕ) (e : ℕ) → ((t : ℕ) → t < e → get_or off t 0 ≡ before m t) → (n t : ℕ) → t + n ≡ e
    → placed_from m v off t n ≡ mappings_from m v t (before m t) n
unfolding placed_from mappings_from list_at
flat_same m v off e h zero t z = refl
flat_same m v off e h (suc n) t z =
    rw (h t (omega arith)) (ap (λ (l : List Mapping). mapping (name_at m t) (stretch v (before m t) (count_at m t)) ∷ l)
    (flat_same m v off e h n (t + 1) (omega arith) ∙ ap (λ (o : ℕ). mappings_from m v (t + 1) o n) (before_next m t)))

-- ---- chains

-- the places from i on are linked, and `head` has each name's first place from i on
pub record Chained (m nx head : List ℕ) (e i : ℕ) : Type 0 where
  pub first : (n : ℕ) → n < length head → First m n i e (get_or head n 0)
  pub next : (t : ℕ) → i ≤ t → t < e → First m (name_at m t) (t + 1) e (get_or nx t 0)

pub chained_none : (m nx head : List ℕ) (e : ℕ) → ((n : ℕ) → n < length head → get_or head n 0 ≡ e) → Chained m nx head e e
chained_none m nx head e h =
    record {
      first = λ n k. let z = h n k in record { low = omega arith; high = omega arith; here = λ p. absurd (omega arith); none = λ s p q. absurd (omega arith) };
      next = λ t p q. absurd (omega arith);
    }

here_first : (m : List ℕ) (n i e : ℕ) → i < e → name_at m i ≡ n → First m n i e i
here_first m n i e h d = record { low = omega arith; high = omega arith; here = λ p. d; none = λ s p q. absurd (omega arith) }

earlier_first : (m : List ℕ) (n i e p : ℕ) → name_at m i ≢ n → First m n (i + 1) e p → First m n i e p
earlier_first m n i e p d f =
    let a = f.low in
    record { low = omega arith; high = f.high; here = f.here; none = λ s u w. go s (dec_le (i + 1) s) u w }
  where
    go : (s : ℕ) → Dec (i + 1 ≤ s) → i ≤ s → s < p → name_at m s ≢ n
    go s (yes y) u w = f.none s y w
    go s (no y) u w = let z : i ≡ s = omega arith in subst (λ (x : ℕ). name_at m x ≢ n) z d

-- one more place
pub chain_turn : (m nx nx' head head' : List ℕ) (e i n a : ℕ) → Chained m nx head e (i + 1) → i < e → i < length nx → n ≡ name_at m i → n < length head
    → a ≡ get_or head n 0 → nx' ≡ set nx i a → head' ≡ set head n i → Chained m nx' head' e i
chain_turn m nx nx' head head' e i n a g h k z l q u w = record { first = first'; next = next' }
  where
    first' : (x : ℕ) → x < length head' → First m x i e (get_or head' x 0)
    first' x y = go (ℕ_discrete n x)
      where
        lx : x < length head
        lx = let s : length head' ≡ length head = ap length w ∙ simp length-set in omega arith

        go : Dec (n ≡ x) → First m x i e (get_or head' x 0)
        go (yes d) =
            let s : get_or head' x 0 ≡ i = ap (λ (r : List ℕ). get_or r x 0) w ∙ ap (λ (j : ℕ). get_or (set head j i) x 0) d ∙ get_or-set_same head x i 0 lx in
            subst (First m x i e) (sym s) (here_first m x i e h (sym z ∙ d))
        go (no d) =
            let s : get_or head' x 0 ≡ get_or head x 0 = ap (λ (r : List ℕ). get_or r x 0) w ∙ get_or-set_other head n x i 0 (λ y. d (sym y)) in
            subst (First m x i e) (sym s) (earlier_first m x i e (get_or head x 0) (λ y. d (z ∙ y)) (g.first x lx))

    next' : (t : ℕ) → i ≤ t → t < e → First m (name_at m t) (t + 1) e (get_or nx' t 0)
    next' t p y = go (dec_le (i + 1) t)
      where
        go : Dec (i + 1 ≤ t) → First m (name_at m t) (t + 1) e (get_or nx' t 0)
        go (yes d) =
            let s : get_or nx' t 0 ≡ get_or nx t 0 = ap (λ (r : List ℕ). get_or r t 0) u ∙ get_or-set_other nx i t a 0 (λ b. omega arith) in
            subst (First m (name_at m t) (t + 1) e) (sym s) (g.next t d y)
        go (no d) =
            let b : i ≡ t = omega arith in
            let s : get_or nx' i 0 ≡ get_or head (name_at m i) 0 = ap (λ (r : List ℕ). get_or r i 0) u ∙ get_or-set_same nx i a 0 k ∙ q ∙ ap (λ (j : ℕ). get_or head j 0) z in
            subst (λ (j : ℕ). First m (name_at m j) (j + 1) e (get_or nx' j 0)) b
            (subst (First m (name_at m i) (i + 1) e) (sym s) (g.first (name_at m i) (subst (λ (j : ℕ). j < length head) z l)))

pub chained_linked : (m nx head : List ℕ) (e : ℕ) → Chained m nx head e 0 → Linked m nx e
chained_linked m nx head e g = λ t h. g.next t (omega arith) h

pub chained_heads : (m nx head : List ℕ) (e : ℕ) → Chained m nx head e 0 → ((t : ℕ) → t < e → name_at m t < length head)
    → (t : ℕ) → t < e → First m (name_at m t) 0 e (get_or head (name_at m t) 0)
chained_heads m nx head e g h t k = g.first (name_at m t) (h t k)
