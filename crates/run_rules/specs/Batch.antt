-- Many calls at once, of anything that is called again and again (RULES, Requests, No. 14): a call in the state s answers `say s` and
-- leaves `go s`, and a run of calls goes on after an answer that `keeps`. Assumes nothing.
use Rattle.std.specs.Prelude.{◌≡◌, Bool, length}
use Rattle.std.proofs.Math.Path.{refl, sym, ap, ap₂}
use Rattle.std.proofs.Common.{◌∙◌, suc-add, zero-add, arith}
use Prim.Native.Nat.{ℕ, zero, suc, ◌+◌, ◌≤◌}
use Rattle.std.proofs.Math.Bool.{true, false}
use mathlib.Core.List.{List, [], ◌∷◌, ◌++◌}

-- a run: how many calls it made, what they answered, and the state they left
pub record Ran (A S : Type 0) : Type 0 where
  pub steps : ℕ
  pub heard : List A
  pub left : S

-- no call was made
abbrev pub still : {A S : Type 0} → S → Ran A S
still s = record { steps = 0; heard = []; left = s }

-- a call that answered x and left s was made, and `more` is the rest of the run: it is made where the answer keeps the run going
unfoldable pub onward : {A S : Type 0} → Bool → A → S → (S → Ran A S) → Ran A S
onward true x s more = record { steps = suc (more s).steps; heard = x ∷ (more s).heard; left = (more s).left }
onward false x s more = record { steps = 1; heard = x ∷ []; left = s }

-- at most k calls, up to and including the first whose answer does not keep the run going
unfoldable pub ran : {A S : Type 0} → (S → A) → (S → S) → (A → Bool) → ℕ → S → Ran A S
unfolding onward
ran say go keeps zero s = still s
ran say go keeps (suc k) s = onward (keeps (say s)) (say s) (go s) (λ s'. ran say go keeps k s')

-- the answers of k single calls, and the state after them
unfoldable pub answers : {A S : Type 0} → (S → A) → (S → S) → ℕ → S → List A
answers say go zero s = []
answers say go (suc k) s = say s ∷ answers say go k (go s)

unfoldable pub after : {S : Type 0} → (S → S) → ℕ → S → S
after go zero s = s
after go (suc k) s = after go k (go s)

-- run after run, each with the most calls that it may make, and from the state that the one before left
unfoldable pub runs : {A S : Type 0} → (S → A) → (S → S) → (A → Bool) → List ℕ → S → Ran A S
unfolding ran
runs say go keeps [] s = still s
runs say go keeps (k ∷ ks) s =
    let r = ran say go keeps k s in
    let q = runs say go keeps ks r.left in
    record { steps = r.steps + q.steps; heard = r.heard ++ q.heard; left = q.left }

module _ {A S : Type 0} (say : S → A) (go : S → S) (keeps : A → Bool) where
  -- a run of at most k calls is so many single calls: their answers, counted, and the state after them
  pub record RanOk (s : S) (k : ℕ) (r : Ran A S) : Type 0 where
    pub few : r.steps ≤ k
    pub counted : r.steps ≡ length r.heard
    pub heard_is : r.heard ≡ answers say go r.steps s
    pub left_is : r.left ≡ after go r.steps s

  pub ran_ok : (k : ℕ) (s : S) → RanOk s k (ran say go keeps k s)
  unfolding ran onward answers after
  ran_ok zero s = record { few = omega arith; counted = refl; heard_is = refl; left_is = refl }
  ran_ok (suc k) s = one (keeps (say s)) (ran_ok k (go s))
    where
      one : (c : Bool) → RanOk (go s) k (ran say go keeps k (go s))
          → RanOk s (suc k) (onward c (say s) (go s) (λ s'. ran say go keeps k s'))
      one true w =
          record {
            few = omega (arith, w.few);
            counted = ap suc w.counted;
            heard_is = ap (λ (l : List A). say s ∷ l) w.heard_is;
            left_is = w.left_is;
          }
      one false w = record { few = omega arith; counted = refl; heard_is = refl; left_is = refl }

  -- calls, then calls
  pub answers_join : (j k : ℕ) (s : S) → answers say go (j + k) s ≡ answers say go j s ++ answers say go k (after go j s)
  unfolding answers after
  answers_join zero k s = ap (λ (n : ℕ). answers say go n s) (zero-add k)
  answers_join (suc j) k s =
      ap (λ (n : ℕ). answers say go n s) (suc-add j k) ∙ ap (λ (l : List A). say s ∷ l) (answers_join j k (go s))

  pub after_join : (j k : ℕ) (s : S) → after go (j + k) s ≡ after go k (after go j s)
  unfolding after
  after_join zero k s = ap (λ (n : ℕ). after go n s) (zero-add k)
  after_join (suc j) k s = ap (λ (n : ℕ). after go n s) (suc-add j k) ∙ after_join j k (go s)

  -- runs one after the other hear what as many single calls answer, and leave what they leave
  pub record DividedOk (s : S) (r : Ran A S) : Type 0 where
    pub heard_is : r.heard ≡ answers say go r.steps s
    pub left_is : r.left ≡ after go r.steps s

  -- THE THEOREM: any division into runs gives the same sequence
  pub divided : (ks : List ℕ) (s : S) → DividedOk s (runs say go keeps ks s)
  unfolding runs answers after
  divided [] s = record { heard_is = refl; left_is = refl }
  divided (k ∷ ks) s =
      let r = ran say go keeps k s in
      let w = ran_ok k s in
      let q = runs say go keeps ks r.left in
      let i = divided ks r.left in
      record {
        heard_is =
            ap₂ ◌++◌ w.heard_is (i.heard_is ∙ ap (answers say go q.steps) w.left_is)
            ∙ sym (answers_join r.steps q.steps s);
        left_is = i.left_is ∙ ap (after go q.steps) w.left_is ∙ sym (after_join r.steps q.steps s);
      }

  -- two divisions that make equally many calls hear the same, and leave the same
  pub divisions : (js ks : List ℕ) (s : S) → (runs say go keeps js s).steps ≡ (runs say go keeps ks s).steps
      → ((runs say go keeps js s).heard ≡ (runs say go keeps ks s).heard) × ((runs say go keeps js s).left ≡ (runs say go keeps ks s).left)
  divisions js ks s e =
      let a = divided js s in
      let c = divided ks s in (
        a.heard_is ∙ ap (λ (n : ℕ). answers say go n s) e ∙ sym c.heard_is,
        a.left_is ∙ ap (λ (n : ℕ). after go n s) e ∙ sym c.left_is,
      )
