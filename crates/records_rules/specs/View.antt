-- The state of the code as a state of the machine: four arrays of numbers, read at the first n indices.
-- Assumes nothing.
use Rattle.std.specs.Prelude.{◌≡◌, ◌≢◌, length, get_or, set}
use Rattle.std.proofs.Math.Path.{refl, ap}
use Rattle.std.proofs.Common.{sym, ◌∙◌, mod-eq_of_lt, arith}
use Prim.Native.Nat.{ℕ, zero, suc, ◌+◌, ◌*◌, ◌/◌, ◌%◌, ◌≤◌, ◌<◌}
use Rattle.std.proofs.Math.Nat.{suc_inj, suc-ne-zero, add-mul-mod_self_left}
use mathlib.Core.List.{List, [], ◌∷◌}
use lib.Seq.{get_or-set_same, get_or-set_other}
use Rattle.records_rules.specs.Machine.{Rec, rec, Status, waiting, standing, gone}

-- f 0, f 1 .. f (n - 1)
unfoldable pub tab {ℓ} : {A : Type ℓ} → ℕ → (ℕ → A) → List A
tab zero f = []
tab (suc n) f = f 0 ∷ tab n (λ i. f (suc i))

module _ {ℓ} {A : Type ℓ} where
  pub length_tab : (n : ℕ) (f : ℕ → A) → length (tab n f) ≡ n
  unfolding tab
  length_tab zero f = refl
  length_tab (suc n) f = ap suc (length_tab n (λ i. f (suc i)))

  pub get_d_tab : (n : ℕ) (f : ℕ → A) (i : ℕ) (d : A) → i < n → get_or (tab n f) i d ≡ f i
  unfolding tab
  get_d_tab zero f i d h = absurd (omega arith)
  get_d_tab (suc n) f zero d h = refl
  get_d_tab (suc n) f (suc i) d h = get_d_tab n (λ j. f (suc j)) i d (omega arith)

  tab_same : (n : ℕ) (f g : ℕ → A) → ((j : ℕ) → g j ≡ f j) → tab n g ≡ tab n f
  unfolding tab
  tab_same zero f g h = refl
  tab_same (suc n) f g h = λ i. h 0 i ∷ tab_same n (λ j. f (suc j)) (λ j. g (suc j)) (λ j. h (suc j)) i

  -- f and g differ at i alone
  pub tab_set : (n : ℕ) (f g : ℕ → A) (i : ℕ) → i < n → ((j : ℕ) → j ≢ i → g j ≡ f j) → tab n g ≡ set (tab n f) i (g i)
  unfolding tab
  tab_set zero f g i h k = absurd (omega arith)
  tab_set (suc n) f g zero h k = ap (λ (r : List A). g 0 ∷ r) (tab_same n (λ j. f (suc j)) (λ j. g (suc j)) (λ j. k (suc j) (suc-ne-zero j)))
  tab_set (suc n) f g (suc i) h k =
      λ x. k 0 (λ e. suc-ne-zero i (sym e)) x ∷ tab_set n (λ j. f (suc j)) (λ j. g (suc j)) i (omega arith) (λ j d. k (suc j) (λ e. d (suc_inj e))) x

-- a record's length, kind and instrument in one number, as its first eight bytes have them
unfoldable pub packed : ℕ → ℕ → ℕ → ℕ
packed size kind instrument = size + 65536 * kind + 4294967296 * instrument

-- the record whose length, kind and instrument are in the number h, with its time
unfoldable pub rec_in : ℕ → ℕ → Rec
rec_in h t = rec (h % 65536) (h / 65536 % 65536) (h / 4294967296) t

pub rec_in_packed : (size kind instrument t : ℕ) → size < 65536 → kind < 65536 → rec_in (packed size kind instrument) t ≡ rec size kind instrument t
unfolding rec_in packed
rec_in_packed size kind instrument t below-size below-kind =
    let h = size + 65536 * kind + 4294967296 * instrument in
    let w : h ≡ size + 65536 * (kind + 65536 * instrument) = omega arith in
    let q : h / 65536 ≡ kind + 65536 * instrument = omega arith in
    let e₁ : h % 65536 ≡ size = ap (λ (n : ℕ). n % 65536) w ∙ low size (kind + 65536 * instrument) below-size in
    let e₂ : h / 65536 % 65536 ≡ kind = ap (λ (n : ℕ). n % 65536) q ∙ low kind instrument below-kind in
    let e₃ : h / 4294967296 ≡ instrument = omega arith in
    cc
  where
    low : (x y : ℕ) → x < 65536 → (x + 65536 * y) % 65536 ≡ x
    low x y l = add-mul-mod_self_left x 65536 y ∙ mod-eq_of_lt l

-- how the code writes a status: a mark (0 gone, 1 waiting, 2 standing), a time, a place, and a record's length, kind and instrument
unfoldable pub status_of : ℕ → ℕ → ℕ → ℕ → Status
unfolding rec_in
status_of zero t a l = gone
status_of (suc zero) t a l = waiting t a
status_of (suc (suc k)) t a l = standing a (rec_in l t)

unfoldable pub statuses_of : ℕ → List ℕ → List ℕ → List ℕ → List ℕ → List Status
unfolding status_of tab
statuses_of n ms ts cs hs = tab n (λ p. status_of (get_or ms p 0) (get_or ts p 0) (get_or cs p 0) (get_or hs p 0))

-- a store at p in each: one status changes. (An array that was not stored into: `set-get_or` of lib.Seq.)
pub statuses_set : (n : ℕ) (ms ts cs hs : List ℕ) (p k t a l : ℕ)
    → p < n → n ≤ length ms → n ≤ length ts → n ≤ length cs → n ≤ length hs
    → statuses_of n (set ms p k) (set ts p t) (set cs p a) (set hs p l) ≡ set (statuses_of n ms ts cs hs) p (status_of k t a l)
unfolding statuses_of
statuses_set n ms ts cs hs p k t a l h hk ht ha hl =
    tab_set n (λ q. status_of (get_or ms q 0) (get_or ts q 0) (get_or cs q 0) (get_or hs q 0))
    (λ q. status_of (get_or (set ms p k) q 0) (get_or (set ts p t) q 0) (get_or (set cs p a) q 0) (get_or (set hs p l) q 0)) p h
    (λ q d. rw (get_or-set_other ms p q k 0 d, get_or-set_other ts p q t 0 d, get_or-set_other cs p q a 0 d, get_or-set_other hs p q l 0 d))
    ∙ ap (set (statuses_of n ms ts cs hs) p)
    (rw (get_or-set_same ms p k 0 (omega arith), get_or-set_same ts p t 0 (omega arith), get_or-set_same cs p a 0 (omega arith), get_or-set_same hs p l 0 (omega arith)))

pub status_at : (n : ℕ) (ms ts cs hs : List ℕ) (p : ℕ) → p < n
    → get_or (statuses_of n ms ts cs hs) p gone ≡ status_of (get_or ms p 0) (get_or ts p 0) (get_or cs p 0) (get_or hs p 0)
unfolding statuses_of
status_at n ms ts cs hs p h = get_d_tab n (λ q. status_of (get_or ms q 0) (get_or ts q 0) (get_or cs q 0) (get_or hs q 0)) p gone h

pub length_statuses : (n : ℕ) (ms ts cs hs : List ℕ) → length (statuses_of n ms ts cs hs) ≡ n
unfolding statuses_of
length_statuses n ms ts cs hs = length_tab n (λ q. status_of (get_or ms q 0) (get_or ts q 0) (get_or cs q 0) (get_or hs q 0))
