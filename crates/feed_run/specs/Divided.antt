-- Portions, words of an end, calls and runs of the code, in any order (RULES, Requests, No. 14): a run is so many single calls, so any
-- division into runs shows the answers of the single calls and leaves what they leave. Assumes nothing.
use Rattle.std.specs.Prelude.{◌≡◌, refl, ℕ, zero, suc, List, [], ◌∷◌, ◌++◌, map, get_or, replicate}
use Rattle.std.proofs.Common.{sym, ap, ap₂, subst, ◌∙◌}
use Rattle.theory.specs.Answer.{Answer, answer}
use Rattle.run_rules.specs.Batch.{answers, after}
use Rattle.run_rules.specs.Rows.{ended, wanting}
use Rattle.run_rules.specs.Shown.{Gave, shown, seen, seen_single}
use Rattle.records_rules.specs.Machine.{record_at_lem, damage_at, says, end}
use Rattle.feed_rules.specs.Partial.{Turn⁺, replies, needs}
use Rattle.feed_rules.specs.Windows.{Kept, Feed, opened, turn_in, turn_answer, next_answer, next_leaves}
use Rattle.feed_rules.specs.Windows.{Call, portion, word, call, answer_to, leaves, lastly, Alike}
use Rattle.feed_rules.specs.Spans.{feed_at}
use Rattle.feed_rules.specs.Adding.{FeedOpenedIn}
use Rattle.feed_rules.specs.History.{FeedLent, feed_in, Calling, call_answers, alike_trans}
use Rattle.feed_rules.proofs.History.{same_call, same_left}
use Rattle.feed_run.specs.Run.{note_of⁺, say⁺, ran_of⁺, FeedRunSays}

-- ---- an answer as a run shows it

-- stream, place and time of a record; the end; need more with its stream; damage as it is
unfoldable shown_done : List ℕ → Answer
shown_done [] = ended
shown_done (p ∷ []) = wanting p
shown_done (p ∷ a ∷ values) = answer 0 (p ∷ a ∷ get_or values 4 0 ∷ [])

unfoldable pub shown_in : Answer → Answer
unfolding shown_done
shown_in (answer zero values) = shown_done values
shown_in (answer (suc n) values) = answer (suc n) values

-- what calls answer, those for the next answer as a run shows them
unfoldable pub shown_by : Call → Answer → Answer
unfolding shown_in
shown_by (portion p xs) x = x
shown_by (word p) x = x
shown_by call x = shown_in x

unfoldable pub shown_to : Feed → List Call → List Answer
unfolding shown_by answer_to leaves
shown_to F [] = []
shown_to F (c ∷ cs) = shown_by c (answer_to F c) ∷ shown_to (leaves F c) cs

-- a note of a turn shows the turn's answer
noted_shown : (kept : ℕ → Kept) (r : Turn⁺) → shown (note_of⁺ r) ≡ shown_in (turn_answer kept r)
unfolding shown note_of⁺ shown_in shown_done turn_answer
noted_shown kept (replies (says p (record_at_lem a r)) ss) = refl
noted_shown kept (replies (says p (damage_at a reason)) ss) = refl
noted_shown kept (replies end ss) = refl
noted_shown kept (needs p ss) = refl

-- ---- single calls

-- so many calls for the next answer
abbrev pub calls : ℕ → List Call
calls k = replicate k call

single : (k : ℕ) (F : Feed) → map shown (answers say⁺ next_leaves k F) ≡ shown_to F (calls k)
unfolding answers shown_to shown_by answer_to leaves next_answer
single zero F = refl
single (suc k) F = ap₂ ◌∷◌ (noted_shown (next_leaves F).kept (turn_in F)) (single k (next_leaves F))

left : (k : ℕ) (F : Feed) → after next_leaves k F ≡ lastly F (calls k)
unfolding after lastly leaves
left zero F = refl
left (suc k) F = left k (next_leaves F)

shown_join : (F : Feed) (cs ds : List Call) → shown_to F (cs ++ ds) ≡ shown_to F cs ++ shown_to (lastly F cs) ds
unfolding shown_to lastly
shown_join F [] ds = refl
shown_join F (c ∷ cs) ds = ap (λ (xs : List Answer). shown_by c (answer_to F c) ∷ xs) (shown_join (leaves F c) cs ds)

last_join : (F : Feed) (cs ds : List Call) → lastly F (cs ++ ds) ≡ lastly (lastly F cs) ds
unfolding lastly
last_join F [] ds = refl
last_join F (c ∷ cs) ds = last_join (leaves F c) cs ds

-- ---- states alike

same_shown : (F G : Feed) (cs : List Call) → Alike F G → shown_to F cs ≡ shown_to G cs
unfolding shown_to
same_shown F G [] s = refl
same_shown F G (c ∷ cs) s = ap₂ ◌∷◌ (ap (shown_by c) (same_call F G s c)) (same_shown (leaves F c) (leaves G c) cs (same_left F G s c))

same_last : (F G : Feed) (cs : List Call) → Alike F G → Alike (lastly F cs) (lastly G cs)
unfolding lastly
same_last F G [] s = s
same_last F G (c ∷ cs) s = same_last (leaves F c) (leaves G c) cs (same_left F G s c)

-- ---- calls and runs of the code

-- from the state s on: portions, words, calls and runs; beside them the single calls that they are and what they show; they leave the
-- state t
pub data FeedRuns (n : ℕ) : FeedLent → List Call → List Answer → FeedLent → Type 0 where
  stop : {s : FeedLent} → FeedRuns n s [] [] s
  one : {s s' t : FeedLent} {c : Call} (x : Answer) {cs : List Call} {xs : List Answer}
      → Calling n s c x s' → FeedRuns n s' cs xs t → FeedRuns n s (c ∷ cs) (shown_by c x ∷ xs) t
  run : {s s' t : FeedLent} {k : ℕ} {ws : List ℕ} {cs : List Call} {xs : List Answer} (g : Gave)
      → FeedRunSays n k s.window s.arrays ws g.calls g.written s'.held g.last s'.arrays g.list
      → s'.window ≡ s.window → FeedRuns n s' cs xs t → FeedRuns n s (calls g.calls ++ cs) (seen g ++ xs) t

-- they show what the single calls answer, and leave what these leave
pub record AsSingle (n : ℕ) (F : Feed) (cs : List Call) (xs : List Answer) (t : FeedLent) : Type 0 where
  pub shows : xs ≡ shown_to F cs
  pub left : Alike (feed_in n t) (lastly F cs)

-- from a state that is as G, what was so of it is so of G
as_single : (n : ℕ) (F G : Feed) (cs : List Call) (xs : List Answer) (t : FeedLent) → Alike F G → AsSingle n F cs xs t → AsSingle n G cs xs t
as_single n F G cs xs t k a =
    record { shows = a.shows ∙ same_shown F G cs k; left = alike_trans a.left (same_last F G cs k) }

-- THE THEOREM: any division into runs, with portions and words of an end between them, shows the answers of the single calls
pub runs_single : {n : ℕ} {s t : FeedLent} {cs : List Call} {xs : List Answer} → FeedRuns n s cs xs t → AsSingle n (feed_in n s) cs xs t
unfolding shown_to lastly
runs_single stop = record { shows = refl; left = record { statuses = refl; kept = λ p d. refl } }
runs_single {n} {s} {t} (one {s' = s'} {c = c} x {cs = cs} {xs = xs} told more) =
    let z = call_answers n s c x s' told in
    let i = as_single n (feed_in n s') (leaves (feed_in n s) c) cs xs t z.1 (runs_single more) in
    record { shows = ap₂ ◌∷◌ (ap (shown_by c) z.0) i.shows; left = i.left }
runs_single {n} {s} {t} (run {s' = s'} {k = k} {cs = cs} {xs = xs} g told same more) =
    let F = feed_in n s in
    let w = seen_single say⁺ next_leaves k F g told.gives in
    let G = lastly F (calls g.calls) in
    let like : Alike (feed_in n s') G =
    subst (λ (H : Feed). Alike (feed_in n s') H) (w.leaves ∙ left g.calls F)
    (subst (λ (v : List ℕ). Alike (feed_at n v s'.arrays) (ran_of⁺ k F).left) (sym same) told.leaves) in
    let i = as_single n (feed_in n s') G cs xs t like (runs_single more) in
    record {
      shows = ap₂ ◌++◌ (w.shows ∙ single g.calls F) i.shows ∙ sym (shown_join F (calls g.calls) cs);
      left = subst (λ (H : Feed). Alike (feed_in n t) H) (sym (last_join F (calls g.calls) cs)) i.left;
    }

-- two divisions of the same single calls, from states alike on, show the same and leave states alike
pub runs_alike : {n : ℕ} {s s' t t' : FeedLent} {cs : List Call} {xs ys : List Answer} → Alike (feed_in n s) (feed_in n s')
    → FeedRuns n s cs xs t → FeedRuns n s' cs ys t' → (xs ≡ ys) × Alike (feed_in n t) (lastly (feed_in n s') cs)
runs_alike {n} {s} {s'} {t} {t'} {cs} {xs} k x y =
    let i = as_single n (feed_in n s) (feed_in n s') cs xs t k (runs_single x) in
    (i.shows ∙ sym (runs_single y).shows, i.left)

-- from an opening on they show what the single calls answer of what is kept; `opened_fed` says what that is of the whole streams
pub opened_runs : {n : ℕ} {hints : List ℕ} {s t : FeedLent} {cs : List Call} {xs : List Answer}
    → FeedOpenedIn n hints s.arrays → FeedRuns n s cs xs t
    → AsSingle n (opened n hints) cs xs t
opened_runs {n} {hints} {s} {t} {cs} {xs} o x = as_single n (feed_in n s) (opened n hints) cs xs t (o.starts s.window) (runs_single x)
