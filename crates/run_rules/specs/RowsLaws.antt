-- One call after another leads to the whole run: what is handed back from here on is what the run is to hand back. Assumes nothing.
use Rattle.std.specs.Prelude.{◌≡◌, Bool, length, set, drop}
use Rattle.std.proofs.Math.Path.{refl, sym}
use Rattle.std.proofs.Common.{ap, ap₂, subst, ◌∙◌, suc-add, length-append, length-drop}
use Prim.Native.Nat.{ℕ, zero, suc, ◌+◌, ◌-◌, ◌*◌, ◌≤◌, ◌<◌}
use Rattle.std.proofs.Math.Nat.{zero-add}
use native.Mathlib.Omega.{arith}
use Rattle.std.proofs.Math.Bool.{true, false}
use mathlib.Core.List.{List, [], ◌∷◌, ◌++◌, append_assoc}
use Rattle.std.proofs.Math.Dec.{T}
use Rattle.theory.specs.Answer.{Answer, answer}
use Rattle.run_rules.specs.Batch.{Ran, ran, onward, ran_ok}
use Rattle.run_rules.specs.Rows.{run_fits, Note, writes, stops, goes_on, run_of, going, tally, records_in, row_of, words_of, list_after, stop_on, last_in, Gives, row, row_in, Noted}

-- ---- a row

pub noted_record : (ws : List ℕ) (i p a t : ℕ) {ws' : List ℕ} → ws' ≡ row ws i p a t → Noted ws i (writes p a t) true going ws'
unfolding goes_on stop_on row_in
noted_record ws i p a t l = record { goes = refl; stopped = refl; list = l }

pub noted_stop : (ws : List ℕ) (i : ℕ) {x y : Answer} → y ≡ x → Noted ws i (stops x) false y ws
unfolding goes_on stop_on row_in
noted_stop ws i e = record { goes = refl; stopped = e; list = refl }

-- what is lent fits, so the arrays do
pub fits_arrays : (arrays : Bool) (allowance words : ℕ) → run_fits arrays allowance words ≡ true → arrays ≡ true
unfolding run_fits
fits_arrays true allowance words e = refl
fits_arrays false allowance words e = e

-- every array keeps its length
pub record Lengths (ms₀ ts₀ cs₀ hs₀ hp₀ ws₀ ms ts cs hs hp ws : List ℕ) : Type 0 where
  pub marks : length ms ≡ length ms₀
  pub times : length ts ≡ length ts₀
  pub places : length cs ≡ length cs₀
  pub heads : length hs ≡ length hs₀
  pub heap : length hp ≡ length hp₀
  pub list : length ws ≡ length ws₀

pub lengths_on : {ms₀ ts₀ cs₀ hs₀ hp₀ ws₀ ms ts cs hs hp ws ms' ts' cs' hs' hp' ws' : List ℕ} → Lengths ms₀ ts₀ cs₀ hs₀ hp₀ ws₀ ms ts cs hs hp ws
    → Lengths ms ts cs hs hp ws ms' ts' cs' hs' hp' ws' → Lengths ms₀ ts₀ cs₀ hs₀ hp₀ ws₀ ms' ts' cs' hs' hp' ws'
lengths_on u l =
    record {
      marks = l.marks ∙ u.marks;
      times = l.times ∙ u.times;
      places = l.places ∙ u.places;
      heads = l.heads ∙ u.heads;
      heap = l.heap ∙ u.heap;
      list = l.list ∙ u.list;
    }

-- ---- the list

-- rows laid one after the other, from the row i on
unfoldable laid_on : Note → ℕ → List ℕ → (ℕ → List ℕ → List ℕ) → List ℕ
unfolding row
laid_on (writes p a t) i ws more = more (i + 1) (row ws i p a t)
laid_on (stops x) i ws more = more i ws

unfoldable laid : List Note → ℕ → List ℕ → List ℕ
unfolding laid_on
laid [] i ws = ws
laid (x ∷ xs) i ws = laid_on x i ws (λ j us. laid xs j us)

set_behind : (pre ys : List ℕ) (j v : ℕ) → set (pre ++ ys) (length pre + j) v ≡ pre ++ set ys j v
set_behind [] ys j v = ap (λ (n : ℕ). set ys n v) (zero-add j)
set_behind (x ∷ pre) ys j v = ap (λ (n : ℕ). set (x ∷ pre ++ ys) n v) (suc-add (length pre) j) ∙ ap (λ (l : List ℕ). x ∷ l) (set_behind pre ys j v)

-- a row behind whole rows
row_behind : (pre : List ℕ) (u v w : ℕ) (ws : List ℕ) (i p a t : ℕ) → length pre ≡ 3 * i
    → row (pre ++ u ∷ v ∷ w ∷ ws) i p a t ≡ pre ++ p ∷ a ∷ t ∷ ws
unfolding row
row_behind pre u v w ws i p a t e =
    let e₀ : 3 * i ≡ length pre + 0 = omega arith in
    let e₁ : 3 * i + 1 ≡ length pre + 1 = omega arith in
    let e₂ : 3 * i + 2 ≡ length pre + 2 = omega arith in
    ap (λ (n : ℕ). set (set (set (pre ++ u ∷ v ∷ w ∷ ws) n p) (3 * i + 1) a) (3 * i + 2) t) e₀
    ∙ ap (λ (l : List ℕ). set (set l (3 * i + 1) a) (3 * i + 2) t) (set_behind pre (u ∷ v ∷ w ∷ ws) 0 p)
    ∙ ap (λ (n : ℕ). set (set (pre ++ p ∷ v ∷ w ∷ ws) n a) (3 * i + 2) t) e₁
    ∙ ap (λ (l : List ℕ). set l (3 * i + 2) t) (set_behind pre (p ∷ v ∷ w ∷ ws) 1 a)
    ∙ ap (λ (n : ℕ). set (pre ++ p ∷ a ∷ w ∷ ws) n t) e₂
    ∙ set_behind pre (p ∷ a ∷ w ∷ ws) 2 t

-- rows laid one after the other are the words of each record, then what the list held
laid_is : (xs : List Note) (i : ℕ) (pre ws : List ℕ) → length pre ≡ 3 * i → length (words_of xs) ≤ length ws
    → laid xs i (pre ++ ws) ≡ pre ++ list_after xs ws
unfolding laid laid_on list_after words_of row_of
laid_is [] i pre ws e h = refl
laid_is (stops x ∷ xs) i pre ws e h = laid_is xs i pre ws e h
laid_is (writes p a t ∷ xs) i pre [] e h = absurd (omega arith)
laid_is (writes p a t ∷ xs) i pre (u ∷ []) e h = absurd (omega arith)
laid_is (writes p a t ∷ xs) i pre (u ∷ v ∷ []) e h = absurd (omega arith)
laid_is (writes p a t ∷ xs) i pre (u ∷ v ∷ w ∷ ws) e h =
    let new : List ℕ = p ∷ a ∷ t ∷ [] in
    ap (laid xs (i + 1)) (row_behind pre u v w ws i p a t e ∙ sym (append_assoc pre new ws))
    ∙ laid_is xs (i + 1) (pre ++ new) ws (omega (arith, length-append pre new)) (omega arith)
    ∙ append_assoc pre new (list_after xs ws)

words_few : (xs : List Note) → length (words_of xs) ≤ 3 * length xs
unfolding words_of row_of
words_few [] = omega arith
words_few (writes p a t ∷ xs) = omega (arith, words_few xs)
words_few (stops x ∷ xs) = omega (arith, words_few xs)

-- ---- what is handed back

-- where so many calls were made, the list is this, and this is the rest of the run
record Outcome (S : Type 0) : Type 0 where
  calls : ℕ
  written : ℕ
  last : Answer
  list : List ℕ
  left : S

unfoldable outcome : {S : Type 0} → ℕ → List ℕ → Ran Note S → Outcome S
unfolding records_in last_in laid
outcome c ws r =
    record {
      calls = c + r.steps;
      written = c + records_in r.heard;
      last = last_in r.heard;
      list = laid r.heard c ws;
      left = r.left;
    }

module _ {S : Type 0} (say : S → Note) (go : S → S) where
  -- a run's numbers, and the state that it left
  pub record Over (k : ℕ) (s₀ : S) (ws₀ : List ℕ) (c w : ℕ) (x : Answer) (ws : List ℕ) (s : S) : Type 0 where
    pub gives : Gives (run_of say go k s₀) ws₀ c w x ws
    pub left : s ≡ (run_of say go k s₀).left

  -- from the state s on, after so many calls, what is handed back is what the run is to hand back
  pub record Here (limit : ℕ) (s₀ : S) (ws₀ : List ℕ) (calls : ℕ) (s : S) (ws : List ℕ) : Type 0 where
    same : outcome 0 ws₀ (run_of say go limit s₀) ≡ outcome calls ws (run_of say go (limit - calls) s)

  module _ (c k : ℕ) (ws : List ℕ) (s : S) where
    -- a call that answered a record: what is handed back is that of the rest of the run
    outcome_more : goes_on (say s) ≡ true → outcome c ws (run_of say go (suc k) s) ≡ outcome (c + 1) (row_in (say s) c ws) (run_of say go k (go s))
    unfolding outcome run_of ran onward row_in goes_on records_in tally last_in stop_on laid laid_on
    outcome_more e = on (say s) e (λ s'. run_of say go k s')
      where
        on : (x : Note) → goes_on x ≡ true → (more : S → Ran Note S)
            → outcome c ws (onward (goes_on x) x (go s) more) ≡ outcome (c + 1) (row_in x c ws) (more (go s))
        on (writes p a t) e more =
            let r = more (go s) in
            let e₁ : c + suc r.steps ≡ c + 1 + r.steps = omega arith in
            let e₂ : c + suc (records_in r.heard) ≡ c + 1 + records_in r.heard = omega arith in
            λ i. record { calls = e₁ i; written = e₂ i; last = last_in r.heard; list = laid r.heard (c + 1) (row ws c p a t); left = r.left }
        on (stops x) e more = absurd (subst T (sym e) tt)

    -- a call that answered no record: it is the last
    outcome_stop : goes_on (say s) ≡ false
        → outcome c ws (run_of say go (suc k) s)
        ≡ record { calls = c + 1; written = c; last = stop_on (say s) going; list = row_in (say s) c ws; left = go s }
    unfolding outcome run_of ran onward row_in goes_on records_in tally last_in stop_on laid laid_on
    outcome_stop e = on (say s) e (λ s'. run_of say go k s')
      where
        on : (x : Note) → goes_on x ≡ false → (more : S → Ran Note S)
            → outcome c ws (onward (goes_on x) x (go s) more) ≡ record { calls = c + 1; written = c; last = stop_on x going; list = row_in x c ws; left = go s }
        on (writes p a t) e more = absurd (subst T e tt)
        on (stops x) e more =
            let z : c + 0 ≡ c = omega arith in
            λ i. record { calls = c + 1; written = z i; last = x; list = ws; left = go s }

    -- no call is left
    outcome_done : outcome c ws (run_of say go 0 s) ≡ record { calls = c; written = c; last = going; list = ws; left = s }
    unfolding outcome run_of ran records_in last_in laid
    outcome_done =
        let z : c + 0 ≡ c = omega arith in
        λ i. record { calls = z i; written = z i; last = going; list = ws; left = s }

  -- what is handed back is the run's
  outcome_over : {k : ℕ} {s₀ : S} {ws₀ : List ℕ} {c w : ℕ} {x : Answer} {ws : List ℕ} {s : S} → 3 * k ≤ length ws₀
      → outcome 0 ws₀ (run_of say go k s₀) ≡ record { calls = c; written = w; last = x; list = ws; left = s } → Over k s₀ ws₀ c w x ws s
  unfolding outcome run_of
  outcome_over {k} {s₀} {ws₀} room e =
      let r = run_of say go k s₀ in
      let w = ran_ok say go goes_on k s₀ in
      record {
        gives =
            record {
              calls = sym (ap (λ (o : Outcome S). o.calls) e) ∙ zero-add r.steps;
              written = sym (ap (λ (o : Outcome S). o.written) e) ∙ zero-add (records_in r.heard);
              answers = sym (ap (λ (o : Outcome S). o.last) e);
              list =
                  sym (ap (λ (o : Outcome S). o.list) e)
                  ∙ laid_is r.heard 0 [] ws₀ refl (omega (arith, words_few r.heard, w.few, w.counted, room));
            };
        left = sym (ap (λ (o : Outcome S). o.left) e);
      }

  -- no call was made yet
  pub here_start : (limit : ℕ) (s : S) (ws : List ℕ) → Here limit s ws 0 s ws
  here_start limit s ws = record { same = ap (λ (k : ℕ). outcome 0 ws (run_of say go k s)) (omega arith) }

  module _ {limit : ℕ} {s₀ : S} {ws₀ : List ℕ} {calls : ℕ} {s : S} {ws : List ℕ} (h : Here limit s₀ ws₀ calls s ws) where
    -- the allowance is used
    pub here_done : 3 * limit ≤ length ws₀ → limit ≡ calls → Over limit s₀ ws₀ calls calls going ws s
    here_done room e =
        let z : limit - calls ≡ 0 = omega arith in
        outcome_over room (h.same ∙ ap (λ (k : ℕ). outcome calls ws (run_of say go k s)) z ∙ outcome_done calls 0 ws s)

    module _ {more : Bool} {last : Answer} {ws' : List ℕ} (t : Noted ws calls (say s) more last ws') (below : calls < limit) where
      -- a record
      pub here_more : more ≡ true → Here limit s₀ ws₀ (calls + 1) (go s) ws'
      here_more y =
          let k = limit - (calls + 1) in
          let z : limit - calls ≡ suc k = omega arith in
          record {
            same =
                h.same
                ∙ ap (λ (j : ℕ). outcome calls ws (run_of say go j s)) z
                ∙ outcome_more calls k ws s (sym t.goes ∙ y)
                ∙ ap (λ (us : List ℕ). outcome (calls + 1) us (run_of say go k (go s))) (sym t.list);
          }

      -- no record
      pub here_stop : 3 * limit ≤ length ws₀ → more ≡ false → Over limit s₀ ws₀ (calls + 1) calls last ws' (go s)
      here_stop room y =
          let k = limit - (calls + 1) in
          let z : limit - calls ≡ suc k = omega arith in
          let e₁ = sym t.stopped in
          let e₂ = sym t.list in
          outcome_over room
          (h.same
          ∙ ap (λ (j : ℕ). outcome calls ws (run_of say go j s)) z
          ∙ outcome_stop calls k ws s (sym t.goes ∙ y)
          ∙ (λ i. record { calls = calls + 1; written = calls; last = e₁ i; list = e₂ i; left = go s }))
