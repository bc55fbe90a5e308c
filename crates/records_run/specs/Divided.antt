-- Runs of the code, one after the other (RULES, Requests, No. 14): each run's contract names the machine's run from the statuses that the
-- run before left, so any division into runs gives the answers and the state of as many single calls. Assumes nothing.
use Rattle.std.specs.Prelude.{◌≡◌, refl, ℕ, zero, suc, ◌+◌, List, [], ◌∷◌, ◌++◌, map}
use Rattle.std.proofs.Common.{sym, ap, ap₂, ◌∙◌}
use Rattle.std.proofs.lemmas.List.{map-append}
use Rattle.theory.specs.Answer.{Answer}
use Rattle.run_rules.specs.Batch.{Ran, runs, answers, after, divided}
use Rattle.run_rules.specs.Rows.{Note, goes_on, run_of}
use Rattle.run_rules.specs.Shown.{Gave, shown, seen, seen_is}
use Rattle.records_rules.specs.Machine.{Stream, Status, answers_by, answers_f, start}
use Rattle.records_rules.specs.Machine as machine
use Rattle.records_rules.specs.State.{padded, OpenedIn}
use Rattle.records_rules.specs.Calls.{Lent, statuses_in}
use Rattle.records_run.specs.Run.{note_of, say, go, ran_of, RunSays}

-- ---- the machine's run is so many single calls

-- the statuses after k single calls
unfoldable pub after_f : ℕ → (ℕ → Stream) → List Status → List Status
unfolding after
after_f k b ss = after (go b) k ss

-- an answer of the machine as a run shows it
abbrev pub shown_of : machine.Answer → Answer
shown_of x = shown (note_of x)

single : (k : ℕ) (b : ℕ → Stream) (ss : List Status) → map shown (answers (say b) (go b) k ss) ≡ map shown_of (answers_f k b ss)
unfolding answers answers_f answers_by
single zero b ss = refl
single (suc k) b ss = ap (λ (xs : List Answer). shown (say b ss) ∷ xs) (single k b (go b ss))

-- ---- runs of the code

-- runs from the state s on, each with the most calls that it may make and what it handed back; they leave the state t
pub data Runs (b : ℕ → Stream) (n : ℕ) : Lent → List ℕ → List Gave → Lent → Type 0 where
  stop : {s : Lent} → Runs b n s [] [] s
  call : {s s' t : Lent} {k : ℕ} {ks ws : List ℕ} {g : Gave} {gs : List Gave}
      → RunSays b n k s.arrays ws g.calls g.written s'.held g.last s'.arrays g.list
      → Runs b n s' ks gs t → Runs b n s (k ∷ ks) (g ∷ gs) t

-- the calls of all of them, and what they show
unfoldable pub calls_in : List Gave → ℕ
calls_in [] = 0
calls_in (g ∷ gs) = g.calls + calls_in gs

unfoldable pub seen_in : List Gave → List Answer
unfolding seen
seen_in [] = []
seen_in (g ∷ gs) = seen g ++ seen_in gs

-- what runs of the code are: those of the machine
pub record Theirs (b : ℕ → Stream) (n : ℕ) (s : Lent) (ks : List ℕ) (gs : List Gave) (t : Lent) : Type 0 where
  pub calls : calls_in gs ≡ (runs (say b) (go b) goes_on ks (statuses_in n s)).steps
  pub shows : seen_in gs ≡ map shown (runs (say b) (go b) goes_on ks (statuses_in n s)).heard
  pub leaves : statuses_in n t ≡ (runs (say b) (go b) goes_on ks (statuses_in n s)).left

runs_are : {b : ℕ → Stream} {n : ℕ} {s t : Lent} {ks : List ℕ} {gs : List Gave} → Runs b n s ks gs t → Theirs b n s ks gs t
unfolding runs calls_in seen_in run_of
runs_are stop = record { calls = refl; shows = refl; leaves = refl }
runs_are {b} {n} {s} {t} (call {s' = s'} {k = k} {ks = ks} {g = g} told more) =
    let i = runs_are more in
    let from : List Status → Ran Note (List Status) = runs (say b) (go b) goes_on ks in
    let r = ran_of k b (statuses_in n s) in
    record {
      calls = ap₂ ◌+◌ told.gives.calls (i.calls ∙ ap (λ (ss : List Status). (from ss).steps) told.leaves);
      shows =
          ap₂ ◌++◌ (seen_is (say b) (go b) k (statuses_in n s) g told.gives) (i.shows ∙ ap (λ (ss : List Status). map shown (from ss).heard) told.leaves)
          ∙ sym (map-append shown r.heard (from r.left).heard);
      leaves = i.leaves ∙ ap (λ (ss : List Status). (from ss).left) told.leaves;
    }

-- what runs of the code are: as many single calls of the machine
pub record Single (b : ℕ → Stream) (n : ℕ) (ss : List Status) (gs : List Gave) (t : Lent) : Type 0 where
  pub shows : seen_in gs ≡ map shown_of (answers_f (calls_in gs) b ss)
  pub leaves : statuses_in n t ≡ after_f (calls_in gs) b ss

-- THE THEOREM: any division into runs shows the answers of as many single calls, and leaves what they leave
pub runs_single : {b : ℕ → Stream} {n : ℕ} {s t : Lent} {ks : List ℕ} {gs : List Gave} → Runs b n s ks gs t → Single b n (statuses_in n s) gs t
unfolding after_f
runs_single {b} {n} {s} {t} {ks} {gs} x =
    let i = runs_are x in
    let ss = statuses_in n s in
    let d = divided (say b) (go b) goes_on ks ss in
    record {
      shows =
          i.shows
          ∙ ap (map shown) (d.heard_is ∙ ap (λ (k : ℕ). answers (say b) (go b) k ss) (sym i.calls))
          ∙ single (calls_in gs) b ss;
      leaves = i.leaves ∙ d.left_is ∙ ap (λ (k : ℕ). after (go b) k ss) (sym i.calls);
    }

-- two divisions of equally many calls, from equal statuses on, show the same and leave the same
pub runs_alike : {b : ℕ → Stream} {n : ℕ} {s s' t t' : Lent} {ks ks' : List ℕ} {gs gs' : List Gave} → statuses_in n s ≡ statuses_in n s'
    → Runs b n s ks gs t → Runs b n s' ks' gs' t' → calls_in gs ≡ calls_in gs' → (seen_in gs ≡ seen_in gs') × (statuses_in n t ≡ statuses_in n t')
runs_alike {b} e x y c =
    let i = runs_single x in
    let j = runs_single y in (
      i.shows ∙ ap₂ (λ (k : ℕ) (ss : List Status). map shown_of (answers_f k b ss)) c e ∙ sym j.shows,
      i.leaves ∙ ap₂ (λ (k : ℕ) (ss : List Status). after_f k b ss) c e ∙ sym j.leaves,
    )

-- from an opening on they are the machine's from the hints on
pub opened_runs : {b : ℕ → Stream} {n : ℕ} {hints : List ℕ} {s t : Lent} {ks : List ℕ} {gs : List Gave}
    → OpenedIn n hints s.arrays → Runs b n s ks gs t
    → Single b n (start (padded n hints)) gs t
opened_runs {b} {n} {gs = gs} o x =
    let i = runs_single x in
    record {
      shows = i.shows ∙ ap (λ (ss : List Status). map shown_of (answers_f (calls_in gs) b ss)) o.starts;
      leaves = i.leaves ∙ ap (λ (ss : List Status). after_f (calls_in gs) b ss) o.starts;
    }
