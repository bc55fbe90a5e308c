-- Calls of the code, one after the other: their answers are those of `Windows` on what is kept, whatever the heap's order and wherever the
-- bytes stand; so whatever the portions, the answers without "need more" are the whole streams'. Assumes nothing.
-- What rests on a step of the machine, or on what is known of a stream, stands in proofs/History.
use Rattle.std.proofs.Math.Path.{◌≡◌, sym, ap, subst}
use Rattle.std.proofs.Common.{◌∙◌}
use Prim.Native.Nat.{ℕ}
use mathlib.Core.List.{List, [], ◌∷◌}
use Rattle.std.proofs.Math.ListN.{get_or}
use Rattle.theory.specs.Answer.{Answer}
use Rattle.records_rules.specs.Machine.{Status, gone}
use Rattle.feed_rules.specs.Windows.{Feed, opened}
use Rattle.feed_rules.specs.Windows.{add_leaves, end_leaves}
use Rattle.feed_rules.specs.Windows.{next_leaves, Alike}
use Rattle.feed_rules.specs.Windows.{Call, portion, word, call, answer_to, leaves, lastly}
use Rattle.feed_rules.specs.Spans.{FeedArrays, feed_arrays, feed_at, FeedSaysIn}
use Rattle.feed_rules.specs.Adding.{FeedAdds, FeedEnds, FeedOpenedIn}

-- ---- calls of the code

-- what the caller lends, and how much of the heap is in use
pub record FeedLent : Type 0 where
  pub held : ℕ
  pub window : List ℕ
  pub arrays : FeedArrays

abbrev pub feed_in : ℕ → FeedLent → Feed
feed_in n s = feed_at n s.window s.arrays

-- the arrays with these spans
abbrev spanned : FeedArrays → List ℕ → FeedArrays
spanned a ps = feed_arrays a.marks a.times a.places a.heads a.heap ps

-- one call from the state s to the state s', and what it answered
abbrev pub Calling : ℕ → FeedLent → Call → Answer → FeedLent → Type 0
Calling n s (portion p xs) x s' =
    let a = s.arrays in
    FeedAdds n s.held s.window a.marks a.times a.places a.heads a.heap a.spans p xs x s'.window s'.arrays.spans
    × (s' ≡ record { held = s.held; window = s'.window; arrays = spanned a s'.arrays.spans })
Calling n s (word p) x s' =
    let a = s.arrays in
    FeedEnds n s.held s.window a.marks a.times a.places a.heads a.heap a.spans p x s'.arrays.spans
    × (s' ≡ record { held = s.held; window = s.window; arrays = spanned a s'.arrays.spans })
Calling n s call x s' = FeedSaysIn n s.window s.arrays x s'.held s'.arrays × (s'.window ≡ s.window)

-- calls from the state s on, and what they answered
pub data FeedCalls (n : ℕ) : FeedLent → List Call → List Answer → Type 0 where
  stop : {s : FeedLent} → FeedCalls n s [] []
  more : {s s' : FeedLent} {c : Call} {x : Answer} {cs : List Call} {xs : List Answer} → Calling n s c x s' → FeedCalls n s' cs xs
      → FeedCalls n s (c ∷ cs) (x ∷ xs)

pub call_answers : (n : ℕ) (s : FeedLent) (c : Call) (x : Answer) (s' : FeedLent) → Calling n s c x s'
    → (x ≡ answer_to (feed_in n s) c) × Alike (feed_in n s') (leaves (feed_in n s) c)
unfolding answer_to leaves
call_answers n s (portion p xs) x s' (a, e) = (a.heard, subst (λ (t : FeedLent). Alike (feed_in n t) (add_leaves (feed_in n s) p xs)) (sym e) a.leaves)
call_answers n s (word p) x s' (a, e) = (a.heard, subst (λ (t : FeedLent). Alike (feed_in n t) (end_leaves (feed_in n s) p)) (sym e) a.leaves)
call_answers n s call x s' (a, e) = (
  a.heard,
  subst (λ (w : List ℕ). Alike (feed_at n w s'.arrays) (next_leaves (feed_in n s))) (sym e) a.leaves,
)

-- ---- a record's bytes in the window

-- the state that calls after an opening have come to: it is kept by every further call (`call_answers`, `same_left`)
abbrev pub After : (n : ℕ) (hints : List ℕ) → List Call → FeedLent → Type 0
After n hints cs s = Alike (feed_in n s) (lastly (opened n hints) cs)

pub after_opening : (n : ℕ) (hints : List ℕ) (s : FeedLent)
    → FeedOpenedIn n hints s.arrays → After n hints [] s
unfolding lastly
after_opening n hints s o = o.starts s.window

pub alike_trans : {F G H : Feed} → Alike F G → Alike G H → Alike F H
alike_trans {F} {G} {H} x y =
    record {
      statuses = x.statuses ∙ y.statuses;
      kept = λ p d. x.kept p (λ e. d (ap (λ (l : List Status). get_or l p gone) (sym y.statuses) ∙ e)) ∙ y.kept p d;
    }
