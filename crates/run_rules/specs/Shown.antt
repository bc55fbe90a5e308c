-- What a run shows: its rows, then how it stopped. It is what single calls say. Assumes nothing.
use Rattle.std.specs.Prelude.{◌≡◌, length, drop}
use Rattle.std.proofs.Math.Path.{refl, ap, ap₂}
use Rattle.std.proofs.Common.{sym, ◌∙◌}
use Prim.Native.Nat.{ℕ, zero, suc, ◌-◌}
use Rattle.std.proofs.Math.Nat.{suc-sub-suc}
use mathlib.Core.List.{List, [], ◌∷◌, ◌++◌, map}
use Rattle.theory.specs.Answer.{Answer, answer}
use Rattle.run_rules.specs.Batch.{Ran, ran, onward, answers, after, ran_ok}
use Rattle.run_rules.specs.Rows.{Note, writes, stops, goes_on, run_of, tally, records_in, row_of, words_of, list_after, stop_on, last_in, Gives}

-- what a run handed back
pub record Gave : Type 0 where
  pub calls : ℕ
  pub written : ℕ
  pub last : Answer
  pub list : List ℕ

-- a call as a run shows it: stream, place and time of a record, or how it stopped
unfoldable pub shown : Note → Answer
shown (writes p a t) = answer 0 (p ∷ a ∷ t ∷ [])
shown (stops x) = x

-- the first w rows of a list
unfoldable pub rows_in : ℕ → List ℕ → List Answer
rows_in zero ws = []
rows_in (suc w) [] = []
rows_in (suc w) (p ∷ []) = []
rows_in (suc w) (p ∷ a ∷ []) = []
rows_in (suc w) (p ∷ a ∷ t ∷ ws) = answer 0 (p ∷ a ∷ t ∷ []) ∷ rows_in w ws

-- how it stopped, where a call was made that wrote no record
unfoldable pub stop_in : ℕ → Answer → List Answer
stop_in zero x = []
stop_in (suc k) x = x ∷ []

-- what a run shows: its rows, then how it stopped
unfoldable pub seen : Gave → List Answer
unfolding rows_in stop_in
seen g = rows_in g.written g.list ++ stop_in (g.calls - g.written) g.last

-- it is what it heard, whatever stands in the list behind the rows
abbrev RowsHeard : {S : Type 0} → List ℕ → Ran Note S → Type 0
RowsHeard tail r =
    rows_in (records_in r.heard) (words_of r.heard ++ tail) ++ stop_in (r.steps - records_in r.heard) (last_in r.heard) ≡ map shown r.heard

module _ {S : Type 0} (say : S → Note) (go : S → S) where
  rows_heard : (k : ℕ) (s : S) (tail : List ℕ) → RowsHeard tail (run_of say go k s)
  unfolding run_of ran onward goes_on records_in tally words_of row_of last_in stop_on rows_in stop_in shown
  rows_heard zero s tail = refl
  rows_heard (suc k) s tail = one (say s) (λ s'. run_of say go k s') (rows_heard k (go s) tail)
    where
      one : (x : Note) (more : S → Ran Note S) → RowsHeard tail (more (go s)) → RowsHeard tail (onward (goes_on x) x (go s) more)
      one (writes p a t) more ih =
          let r = more (go s) in
          let first = answer 0 (p ∷ a ∷ t ∷ []) in
          ap (λ (d : ℕ). first ∷ rows_in (records_in r.heard) (words_of r.heard ++ tail) ++ stop_in d (last_in r.heard))
          (suc-sub-suc r.steps (records_in r.heard))
          ∙ ap (λ (xs : List Answer). first ∷ xs) ih
      one (stops x) more ih = refl

  -- what a run shows is what it heard
  pub seen_is : (k : ℕ) (s : S) {ws : List ℕ} (g : Gave) → Gives (run_of say go k s) ws g.calls g.written g.last g.list
      → seen g ≡ map shown (run_of say go k s).heard
  unfolding seen list_after
  seen_is k s {ws} g r =
      let h = (run_of say go k s).heard in
      ap₂ ◌++◌ (ap₂ rows_in r.written r.list) (ap₂ stop_in (ap₂ ◌-◌ r.calls r.written) r.answers)
      ∙ rows_heard k s (drop (length (words_of h)) ws)

  -- THE THEOREM: a run shows what as many single calls say, and leaves what they leave
  pub record SeenOk (s s' : S) (g : Gave) : Type 0 where
    pub shows : seen g ≡ map shown (answers say go g.calls s)
    pub leaves : s' ≡ after go g.calls s

  pub seen_single : (k : ℕ) (s : S) {ws : List ℕ} (g : Gave) → Gives (run_of say go k s) ws g.calls g.written g.last g.list
      → SeenOk s (run_of say go k s).left g
  unfolding run_of
  seen_single k s g r =
      let w = ran_ok say go goes_on k s in
      record {
        shows = seen_is k s g r ∙ ap (map shown) w.heard_is ∙ ap (λ (c : ℕ). map shown (answers say go c s)) (sym r.calls);
        leaves = w.left_is ∙ ap (λ (c : ℕ). after go c s) (sym r.calls);
      }
