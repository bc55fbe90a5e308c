-- The invariant of the loop of the call for the next answer, and what a return has to show. The loop keeps what is known: it speaks of
-- what was kept at entry, and of each stream that is left the bytes from some place on are kept. Assumes nothing.
-- What rests on a step of the machine, or on what is known of a stream, stands in proofs/Going.
use Rattle.std.specs.Prelude.{◌≡◌, refl, ◌≢◌, ℕ, zero, suc, ◌+◌, ◌-◌, ◌/◌, ◌%◌, ◌≤◌, ◌<◌, Bool, true, false, cond, List, [], ◌∷◌, length, get_or, eqb}
use Rattle.std.proofs.Common.{sym, subst, ◌∙◌, arith, ne_eqb}
use Rattle.std.proofs.Math.Path.{ap}
use Rattle.theory.specs.Answer.{Answer, answer}
use Rattle.records_rules.specs.Machine.{Status, gone}
use Rattle.records_rules.specs.View.{status_of, statuses_of, status_at}
use Rattle.records_rules.specs.StateLaws.{room_kept}
use Rattle.feed_rules.specs.Partial.{Turn⁺, next⁺, rest⁺}
use Rattle.feed_rules.specs.Windows.{Kept, known_in, from, Feed, counted, kept_by}
use Rattle.feed_rules.specs.Windows.{turn_in, turn_leaves, next_leaves, turn_answer, next_answer, Alike}
use Rattle.feed_rules.specs.Spans.{dropped, counts, kept_of, feed_of}
use Rattle.feed_rules.specs.Spans.{SlotOk, FeedOk, FeedRoom, feed_arrays, FeedSays, Wanting, FeedNeeds, FedSays}
use Rattle.feed_rules.specs.SpansLaws.{drop_start, drop_fill, drop_ended, kept_one, from_from}
use Rattle.feed_rules.specs.Stores.{not_there, alive}

-- ---- what is kept in the loop

-- y is x from the base of y on
pub record Later (x y : Kept) : Type 0 where
  pub on : x.base ≤ y.base
  pub is : y ≡ from y.base x

-- from a place on of what is kept later
pub later_from : {x y : Kept} → Later x y → (a : ℕ) → y.base ≤ a → {z : Kept} → z ≡ from a y → Later x z
unfolding from
later_from {x} {y} l a h {z} e =
    let b : z.base ≡ a = ap (λ (k : Kept). k.base) e in
    record { on = omega (arith, l.on); is = e ∙ twice ∙ ap (λ (n : ℕ). from n x) (sym b) }
  where
    twice : from a y ≡ from a x
    twice = ap (from a) l.is ∙ from_from x y.base a l.on h

-- the kept of the stream q, in these arrays
abbrev pub kept_at : List ℕ → List ℕ → List ℕ → List ℕ → List ℕ → ℕ → Kept
kept_at window ms cs hs ps q = kept_of window q (get_or ms q 0) (get_or cs q 0) (get_or hs q 0) (get_or ps q 0)

-- this state is sound, the machine goes on from it as from the call's entry, and of each stream that is left the bytes are kept
pub record Keeps⁺ (n : ℕ) (window ms₀ ts₀ cs₀ hs₀ ps₀ : List ℕ) (size : ℕ) (ms ts cs hs hp ps : List ℕ) : Type 0 where
  pub sound : FeedOk n size ms ts cs hs hp ps
  pub same : next⁺ (λ q a. known_in (kept_at window ms₀ cs₀ hs₀ ps₀ q) a) (statuses_of n ms ts cs hs)
      ≡ next⁺ (λ q a. known_in (kept_at window ms₀ cs₀ hs₀ ps₀ q) a) (statuses_of n ms₀ ts₀ cs₀ hs₀)
  pub kept : (q : ℕ) → q < n → get_or ms q 0 ≢ 0 → Later (kept_at window ms₀ cs₀ hs₀ ps₀ q) (kept_at window ms cs hs ps q)

-- the loop's invariant: the arrays keep their lengths, and where the entry was sound this is
pub record Going⁺ (window : List ℕ) (held : ℕ) (ms₀ ts₀ cs₀ hs₀ hp₀ ps₀ : List ℕ) (size : ℕ) (ms ts cs hs hp ps : List ℕ) : Type 0 where
  pub marks : length ms ≡ length ms₀
  pub times : length ts ≡ length ts₀
  pub places : length cs ≡ length cs₀
  pub heads : length hs ≡ length hs₀
  pub heap : length hp ≡ length hp₀
  pub spans : length ps ≡ length ps₀
  pub few : size ≤ held
  -- where more must come first nothing has changed
  pub still : Wanting window held ms₀ hs₀ hp₀ ps₀ → (size ≡ held) × (feed_arrays ms ts cs hs hp ps ≡ feed_arrays ms₀ ts₀ cs₀ hs₀ hp₀ ps₀)
  pub keeps : (n : ℕ) → n ≤ 256 → FeedOk n held ms₀ ts₀ cs₀ hs₀ hp₀ ps₀
      → Keeps⁺ n window ms₀ ts₀ cs₀ hs₀ ps₀ size ms ts cs hs hp ps

-- the arrays have the room still
pub going_room : {window : List ℕ} {held : ℕ} {ms₀ ts₀ cs₀ hs₀ hp₀ ps₀ : List ℕ} {size : ℕ} {ms ts cs hs hp ps : List ℕ}
    → Going⁺ window held ms₀ ts₀ cs₀ hs₀ hp₀ ps₀ size ms ts cs hs hp ps → FeedRoom held ms₀ ts₀ cs₀ hs₀ hp₀ ps₀
    → FeedRoom size ms ts cs hs hp ps
going_room g r = (room_kept r.0 g.few g.marks g.times g.places g.heads g.heap, omega (arith, r.1, g.spans))

from_base : (x : Kept) → x ≡ from x.base x
unfolding from
from_base x = let z : x.base - x.base ≡ 0 = omega arith in rw z (kept_one (omega arith) refl refl refl)

pub going_start⁺ : (window : List ℕ) (held : ℕ) (ms ts cs hs hp ps : List ℕ) → Going⁺ window held ms ts cs hs hp ps held ms ts cs hs hp ps
going_start⁺ window held ms ts cs hs hp ps =
    record {
      marks = refl;
      times = refl;
      places = refl;
      heads = refl;
      heap = refl;
      spans = refl;
      few = omega arith;
      still = λ w. (refl, refl);
      keeps = λ n hn k. record { sound = k; same = refl; kept = λ q l d. record { on = omega arith; is = from_base _ } };
    }

-- ---- a return

pub counts_none : (m h : ℕ) → m ≢ 1 → counts m h ≡ 0
unfolding counts
counts_none m h d = simp (ne_eqb m 1 d)

-- what is kept later, by the status of the stream
kept_status : (window : List ℕ) (q m t a h s c : ℕ) (x : Kept) → Later x (kept_of window q m a h s) → (m ≡ 1 → h % 65536 ≡ c) → m ≢ 0
    → kept_of window q m a h s ≡ kept_by c (status_of m t a h) x
unfolding kept_of counts kept_by status_of
kept_status window q zero t a h s c x l e d = absurd (d refl)
kept_status window q (suc zero) t a h s c x l e d = l.is ∙ ap (λ (k : ℕ). from (a - k) x) (e refl)
kept_status window q (suc (suc m)) t a h s c x l e d =
    let z : a - counts (suc (suc m)) h ≡ a = omega (arith, counts_none (suc (suc m)) h (λ i. omega arith)) in
    l.is ∙ ap (λ (k : ℕ). from k x) z

-- the machine's turn is r, and it leaves these arrays: so are the answer and what is kept
pub says_by : {n : ℕ} {window ms₀ ts₀ cs₀ hs₀ ps₀ ms ts cs hs hp ps : List ℕ} {size : ℕ} (x : Answer) (r : Turn⁺)
    → turn_in (feed_of n window ms₀ ts₀ cs₀ hs₀ ps₀) ≡ r → rest⁺ r ≡ statuses_of n ms ts cs hs
    → ((q : ℕ) → q < n → get_or ms q 0 ≢ 0 → Later (kept_at window ms₀ cs₀ hs₀ ps₀ q) (kept_at window ms cs hs ps q))
    → ((q : ℕ) → q < n → get_or ms q 0 ≡ 1 → get_or hs q 0 % 65536 ≡ counted q r)
    → FeedOk n size ms ts cs hs hp ps
    → (Alike (feed_of n window ms ts cs hs ps) (turn_leaves (feed_of n window ms₀ ts₀ cs₀ hs₀ ps₀) r)
    → x ≡ turn_answer (turn_leaves (feed_of n window ms₀ ts₀ cs₀ hs₀ ps₀) r).kept r)
    → FeedSays n window ms₀ ts₀ cs₀ hs₀ ps₀ x size ms ts cs hs hp ps
unfolding feed_of next_answer next_leaves turn_leaves
says_by {n} {window} {ms₀} {ts₀} {cs₀} {hs₀} {ps₀} {ms} {ts} {cs} {hs} {hp} {ps} {size} x r e rest later count ok hear =
    let like : Alike (feed_of n window ms ts cs hs ps) (turn_leaves F r) = record { statuses = sym rest; kept = keeps } in
    record {
      heard = hear like ∙ ap (λ (t : Turn⁺). turn_answer (turn_leaves F t).kept t) (sym e);
      leaves = subst (λ (t : Turn⁺). Alike (feed_of n window ms ts cs hs ps) (turn_leaves F t)) (sym e) like;
      sound = ok;
    }
  where
    F : Feed
    F = feed_of n window ms₀ ts₀ cs₀ hs₀ ps₀

    keeps : (q : ℕ) → get_or (rest⁺ r) q gone ≢ gone → kept_at window ms cs hs ps q ≡ kept_by (counted q r) (get_or (rest⁺ r) q gone) (F.kept q)
    keeps q d =
        let d' : get_or (statuses_of n ms ts cs hs) q gone ≢ gone = rw (← rest) d in
        let l : q < n = not_there n ms ts cs hs q d' in
        let a = status_at n ms ts cs hs q l in
        let m : get_or ms q 0 ≢ 0 = alive (get_or ms q 0) (get_or ts q 0) (get_or cs q 0) (get_or hs q 0) (rw (← a) d') in
        kept_status window q (get_or ms q 0) (get_or ts q 0) (get_or cs q 0) (get_or hs q 0) (get_or ps q 0) (counted q r) (F.kept q)
        (later q l m) (count q l) m
        ∙ ap (λ (z : Status). kept_by (counted q r) z (F.kept q)) (sym a ∙ ap (λ (ss : List Status). get_or ss q gone) (sym rest))

-- a record is handed out: what is kept stays, and its bytes count from now on
pub kept_handed : (window : List ℕ) (p m b h s : ℕ) → m ≢ 1 → kept_of window p 1 (b + h % 65536) (h % 65536) s ≡ kept_of window p m b h s
unfolding kept_of counts
kept_handed window p m b h s d =
    let z : counts m h ≡ 0 = counts_none m h d in
    let y : b + h % 65536 - h % 65536 % 65536 ≡ b - counts m h = omega (arith, z) in
    kept_one refl y refl refl

pub slot_handed : (m b h s : ℕ) → m ≢ 1 → SlotOk m b h s → SlotOk 1 (b + h % 65536) (h % 65536) s
unfolding counts
slot_handed m b h s d k =
    let z : counts m h ≡ 0 = counts_none m h d in
    record {
      short = k.short;
      ends = k.ends;
      fits = omega (arith, k.fits);
      placed = omega arith;
      most = omega (arith, k.most, z);
    }

pub counts_zero : (m : ℕ) → counts m 0 ≡ 0
unfolding counts
counts_zero m = go (eqb m 1)
  where
    go : (b : Bool) → cond b (0 % 65536) 0 ≡ 0
    go true = refl
    go false = refl

-- the bytes that counted are dropped
pub slot_dropped : (m' a h h' s : ℕ) → SlotOk 1 a h s → counts m' h' ≡ 0 → h' % 65536 ≤ dropped s (h % 65536) / 65536 % 65536
    → SlotOk m' a h' (dropped s (h % 65536))
unfolding counts
slot_dropped m' a h h' s k z f =
    let e₁ = drop_start s (h % 65536) k.fits k.short in
    let e₂ = drop_fill s (h % 65536) k.fits k.short in
    let e₃ = drop_ended s (h % 65536) k.fits k.short in
    record {
      short = omega (arith, e₁, e₂, k.short, k.fits);
      ends = omega (arith, e₃, k.ends);
      fits = f;
      placed = omega (arith, z);
      most = omega (arith, z, e₂, k.most, k.placed, k.fits);
    }

-- what a return has to show
abbrev pub Done⁺ : (window : List ℕ) (held : ℕ) (ms₀ ts₀ cs₀ hs₀ hp₀ ps₀ : List ℕ) (x : Answer) (size : ℕ) (ms ts cs hs hp ps : List ℕ)
    → Type 0
Done⁺ window held ms₀ ts₀ cs₀ hs₀ hp₀ ps₀ x size ms ts cs hs hp ps =
    FedSays window held (feed_arrays ms₀ ts₀ cs₀ hs₀ hp₀ ps₀) x size (feed_arrays ms ts cs hs hp ps)

-- an answer that is not need more, where nothing more had to come first
pub needs_not : {window : List ℕ} {held : ℕ} {ms₀ ts₀ cs₀ hs₀ hp₀ ps₀ : List ℕ} {x : Answer} {size : ℕ} {ms ts cs hs hp ps : List ℕ}
    → ((p : ℕ) → x ≡ answer 0 (p ∷ []) → ⊥) → (Wanting window held ms₀ hs₀ hp₀ ps₀ → ⊥)
    → FeedNeeds window held ms₀ ts₀ cs₀ hs₀ hp₀ ps₀ x size ms ts cs hs hp ps
needs_not f h = record { left = λ p e. absurd (f p e); again = λ w. absurd (h w) }
