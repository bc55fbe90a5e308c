-- What an opening, a portion and the word that a stream has ended do to the state of the code. Assumes nothing.
use Rattle.std.specs.Prelude.{◌≡◌, ◌≢◌, ℕ, ◌+◌, ◌-◌, ◌*◌, ◌/◌, ◌%◌, ◌<◌, ◌≤◌, ◌^◌, min, Bool, true, false, not, cond, ◌&&◌, ◌||◌, List, [], length, get_or, set, drop, eqb, ltb, leb}
use Rattle.std.proofs.Math.Seq.{paste}
use Rattle.theory.specs.Answer.{Answer, answer}
use Rattle.records_rules.specs.State.{arrays_fit, opening}
use Rattle.feed_rules.specs.Windows.{opened, closed, taking, add_answer, add_leaves, end_answer, end_leaves, Alike}
use Rattle.feed_rules.specs.Spans.{counts, feed_of, FeedOk, FeedArrays}

-- ---- what is lent: where it does not fit, 15

unfoldable pub word_fits : ℕ → ℕ → Bool
word_fits marks spans = eqb marks 256 && eqb spans 256

unfoldable pub portion_fits : ℕ → ℕ → ℕ → ℕ → ℕ → Bool
unfolding word_fits
portion_fits marks places heads spans window = eqb places 256 && (eqb heads 256 && (eqb window 262144 && word_fits marks spans))

unfoldable pub open_fits : ℕ → ℕ → ℕ → ℕ → ℕ → ℕ → Bool
unfolding arrays_fit
open_fits marks times places heads heap spans = arrays_fit 0 marks times places heads heap && eqb spans 256

-- ---- a portion

-- the stream p is ended, closed or not there
unfoldable pub shut_at : ℕ → List ℕ → List ℕ → Bool
shut_at p ms ps = cond (ltb p 256) (eqb (get_or ms p 0) 0 || not (eqb (get_or ps p 0 / 4294967296) 0)) true

-- how many of so many bytes are taken; none where the span lies in no window
unfoldable pub room_for : ℕ → ℕ → ℕ → ℕ → ℕ → ℕ
unfolding counts
room_for size mark place head s =
    cond (ltb 1024 (s % 65536 + s / 65536 % 65536)) 0
    (min size (min (1024 - s / 65536 % 65536) (2 ^ 63 - (place - counts mark head + s / 65536 % 65536))))

-- the window with the kept bytes of the stream p at the front of its part, then k bytes of the portion
abbrev pub laid_window : List ℕ → ℕ → ℕ → List ℕ → ℕ → List ℕ
laid_window window p s xs k =
    paste (paste window (1024 * p) (drop (1024 * p + s % 65536) window) (s / 65536 % 65536)) (1024 * p + s / 65536 % 65536) xs k

-- the spans after it: what is kept of p begins at the front of its part
abbrev pub laid_spans : List ℕ → ℕ → ℕ → List ℕ
laid_spans ps p k = set ps p (65536 * (get_or ps p 0 / 65536 % 65536 + k))

-- the answer x to a portion xs of the stream p, and what it leaves: the kept bytes of p and then those taken stand at the front of its
-- part, and every other byte and span is as at entry; where it is refused, all are
pub record FeedAdds (n held : ℕ) (window ms ts cs hs hp ps : List ℕ) (p : ℕ) (xs : List ℕ) (x : Answer) (window' ps' : List ℕ)
    : Type 0 where
  pub heard : x ≡ add_answer (feed_of n window ms ts cs hs ps) p xs
  pub leaves : Alike (feed_of n window' ms ts cs hs ps') (add_leaves (feed_of n window ms ts cs hs ps) p xs)
  pub sound : FeedOk n held ms ts cs hs hp ps'
  pub refused : closed (feed_of n window ms ts cs hs ps) p ≡ true → (window' ≡ window) × (ps' ≡ ps)
  pub laid : closed (feed_of n window ms ts cs hs ps) p ≡ false
      → (window' ≡ laid_window window p (get_or ps p 0) xs (taking (length xs) ((feed_of n window ms ts cs hs ps).kept p)))
      × (ps' ≡ laid_spans ps p (taking (length xs) ((feed_of n window ms ts cs hs ps).kept p)))

-- `add`: 15 and nothing changed where what is lent is not right; else that, on a sound state
pub record AddGives (window ms cs hs ps : List ℕ) (p : ℕ) (xs : List ℕ) (x : Answer) (window' ps' : List ℕ) : Type 0 where
  pub refused : portion_fits (length ms) (length cs) (length hs) (length ps) (length window) ≡ false → (x ≡ answer 15 []) × (window' ≡ window) × (ps' ≡ ps)
  pub says : portion_fits (length ms) (length cs) (length hs) (length ps) (length window) ≡ true
      → (n held : ℕ) (ts hp : List ℕ) → n ≤ 256 → FeedOk n held ms ts cs hs hp ps → FeedAdds n held window ms ts cs hs hp ps p xs x window' ps'

-- ---- the word that a stream has ended

pub record FeedEnds (n held : ℕ) (window ms ts cs hs hp ps : List ℕ) (p : ℕ) (x : Answer) (ps' : List ℕ) : Type 0 where
  pub heard : x ≡ end_answer (feed_of n window ms ts cs hs ps) p
  pub leaves : Alike (feed_of n window ms ts cs hs ps') (end_leaves (feed_of n window ms ts cs hs ps) p)
  pub sound : FeedOk n held ms ts cs hs hp ps'
  pub refused : closed (feed_of n window ms ts cs hs ps) p ≡ true → ps' ≡ ps
  pub spans : (q : ℕ) → q ≢ p → get_or ps' q 0 ≡ get_or ps q 0

-- `end`: 15 and nothing changed where what is lent is not right; else that, on a sound state, whatever the window holds
pub record EndGives (ms ps : List ℕ) (p : ℕ) (x : Answer) (ps' : List ℕ) : Type 0 where
  pub refused : word_fits (length ms) (length ps) ≡ false → (x ≡ answer 15 []) × (ps' ≡ ps)
  pub says : word_fits (length ms) (length ps) ≡ true
      → (n held : ℕ) (window ts cs hs hp : List ℕ) → n ≤ 256 → FeedOk n held ms ts cs hs hp ps → FeedEnds n held window ms ts cs hs hp ps p x ps'

-- ---- an opening

-- "12: no stream, over 256, or hints given and not one per stream"
unfoldable pub right_count : ℕ → ℕ → Bool
right_count n hints = leb 1 n && (leb n 256 && (eqb hints 0 || eqb hints n))

-- what an accepted opening leaves, whatever the window holds
pub record FeedOpened (n : ℕ) (hints ms ts cs hs hp ps : List ℕ) : Type 0 where
  pub starts : (window : List ℕ) → Alike (feed_of n window ms ts cs hs ps) (opened n hints)
  pub sound : FeedOk n n ms ts cs hs hp ps
  pub spans : (q : ℕ) → q < 256 → get_or ps q 0 ≡ 0

-- ---- what an opening promises, over the arrays as one

-- the arrays have their lengths
abbrev pub open_fit_in : FeedArrays → Bool
open_fit_in a = open_fits (length a.marks) (length a.times) (length a.places) (length a.heads) (length a.heap) (length a.spans)

-- what an accepted opening leaves
abbrev pub FeedOpenedIn : ℕ → List ℕ → FeedArrays → Type 0
FeedOpenedIn n hints a = FeedOpened n hints a.marks a.times a.places a.heads a.heap a.spans

-- what `open` answers of so many streams and their hints
abbrev pub feed_open_answer : ℕ → List ℕ → FeedArrays → Answer
feed_open_answer n hints a = opening (open_fit_in a) (right_count n (length hints)) n

-- `open`: a refusal leaves everything as it was
pub record FeedOpens (n : ℕ) (hints : List ℕ) (a : FeedArrays) (x : Answer) (a' : FeedArrays) : Type 0 where
  pub answers : x ≡ feed_open_answer n hints a
  pub refused : (open_fit_in a && right_count n (length hints)) ≡ false → a' ≡ a
  pub accepted : (open_fit_in a && right_count n (length hints)) ≡ true → FeedOpenedIn n hints a'
