-- Calls one after the other on streams that arrive in portions: whatever the portions, the answers without "need more" are those of the
-- whole streams, and the bytes of a record are the stream's. Assumes nothing.
-- What rests on a step of the machine, or on what is known of a stream, stands in proofs/Portions.
use Rattle.std.specs.Prelude.{◌≡◌, refl, ℕ, zero, suc, ◌+◌, ◌-◌, ◌≤◌, true, List, [], ◌∷◌, ◌++◌, length, get_or, take, drop}
use Rattle.std.proofs.Common.{sym, ap, ◌∙◌, zero-add, suc-add, arith}
use Rattle.std.proofs.Math.Seq.{slice, take-nil}
use Rattle.theory.specs.RunsTools.{cond_case}
use Rattle.records_rules.specs.Machine.{Status, waiting, standing, gone, start}
use Rattle.records_rules.specs.State.{padded}
use Rattle.feed_rules.specs.Partial.{rest⁺}
use Rattle.feed_rules.specs.Windows.{Kept, from, Feed, opened, closed, grow, shut, add_leaves, end_leaves}
use Rattle.feed_rules.specs.Windows.{counted, kept_by, turn_in, turn_leaves, next_leaves, In, Within}
use Rattle.feed_rules.specs.Windows.{Call, portion, word, call, leaves, lastly, taken}
use Rattle.feed_rules.specs.WindowsLaws.{put_case}

-- ---- a stream that has been ended takes no more

kept_over : (c : ℕ) (s : Status) (x : Kept) → (kept_by c s x).over ≡ x.over
unfolding kept_by from
kept_over c (waiting t a) x = refl
kept_over c (standing a r) x = refl
kept_over c gone x = refl

pub over_stays : (F : Feed) (c : Call) (p : ℕ) → (F.kept p).over ≡ true → ((leaves F c).kept p).over ≡ true
unfolding leaves add_leaves end_leaves next_leaves turn_leaves grow shut
over_stays F (portion q xs) p o =
    cond_case (λ (G : Feed). (G.kept p).over ≡ true) (closed F q) F _ (λ c. o)
    (λ c. put_case (λ (x : Kept). x.over ≡ true) q (grow q xs (F.kept q)) F.kept p (λ e. rw (← e) o) (λ d. o))
over_stays F (word q) p o =
    cond_case (λ (G : Feed). (G.kept p).over ≡ true) (closed F q) F _ (λ c. o)
    (λ c. put_case (λ (x : Kept). x.over ≡ true) q (shut (F.kept q)) F.kept p (λ e. refl) (λ d. o))
over_stays F call p o = kept_over (counted p (turn_in F)) (get_or (rest⁺ (turn_in F)) p gone) (F.kept p) ∙ o

-- ---- what is kept, what the calls take, and what they don't take make up the stream

pub record Covers (F : Feed) (cs : List Call) (p : ℕ) (b : List ℕ) : Type 0 where
  pub later : List ℕ
  pub joined : drop (F.kept p).base b ≡ (F.kept p).bytes ++ (taken p F cs ++ later)
  -- nothing comes behind the word that the stream has ended
  pub none_later : ((lastly F cs).kept p).over ≡ true → later ≡ []

-- a call drops bytes at the front, and takes some behind
pub record Moved (x y : Kept) (more : List ℕ) : Type 0 where
  pub on : x.base ≤ y.base
  pub within : y.base - x.base ≤ length x.bytes
  pub bytes : y.bytes ≡ drop (y.base - x.base) x.bytes ++ more

-- ---- from an opening on

pub opened_within : (n : ℕ) (hints : List ℕ) → Within (opened n hints).kept (opened n hints).statuses
unfolding opened start
opened_within n hints p = go (padded n hints) p
  where
    go : (hs : List ℕ) (q : ℕ) → In ((opened n hints).kept p) (get_or (start hs) q gone)
    go [] q = tt
    go (x ∷ hs) zero = (omega arith, omega arith)
    go (x ∷ hs) (suc q) = go hs q

-- b are streams that these calls after an opening brought: of each its bytes that were taken, in order, and no others where it was ended
pub record Brought (n : ℕ) (hints : List ℕ) (cs : List Call) (p : ℕ) (b : List ℕ) : Type 0 where
  pub later : List ℕ
  pub joined : b ≡ taken p (opened n hints) cs ++ later
  pub none_later : ((lastly (opened n hints) cs).kept p).over ≡ true → later ≡ []

-- ---- a record's bytes

pub slice_is : (a n : ℕ) (l : List ℕ) → slice a (a + n) l ≡ take n (drop a l)
slice_is zero n l = ap (λ (m : ℕ). take m l) (zero-add n)
slice_is (suc a) n [] = ap (drop (suc a)) (take-nil (suc a + n)) ∙ sym (take-nil n)
slice_is (suc a) n (x ∷ l) = ap (λ (m : ℕ). drop (suc a) (take m (x ∷ l))) (suc-add a n) ∙ slice_is a n l
