-- An opening: what it leaves, and what is lent to it, by the tests. Assumes nothing.
use Rattle.std.specs.Prelude.{◌≡◌, ℕ, zero, suc, ◌+◌, ◌*◌, ◌<◌, ◌≤◌, Bool, true, false, ◌&&◌, ◌||◌, List, [], ◌∷◌, length, get_or, set, eqb, leb}
use Rattle.std.proofs.Math.Path.{refl}
use Rattle.std.proofs.Common.{ap, ◌∙◌, arith, eqb-true, leb-true}
use Rattle.std.proofs.Math.Decide.{ℕ_discrete, dec_lt}
use Rattle.std.proofs.Math.Seq.{slice, slice_empty}
use Rattle.records_rules.specs.State.{arrays_fit, Room, StreamsOpened}
use Rattle.records_rules.specs.Opening.{arrays_room}
use Rattle.feed_rules.specs.Windows.{opened}
use Rattle.feed_rules.specs.Spans.{kept_of, feed_of, SlotOk}
use Rattle.theory.specs.Bools.{both}
use Rattle.feed_rules.specs.SpansLaws.{kept_one}
use Rattle.feed_rules.specs.Stores.{put_set, not_there}
use Rattle.feed_rules.specs.Going.{kept_at, counts_zero}
use Rattle.feed_rules.specs.Adding.{open_fits, right_count, FeedOpened}

kept_zero : (window : List ℕ) (q m : ℕ) → kept_of window q m 0 0 0 ≡ record { at = 1024 * q; base = 0; bytes = []; over = false }
unfolding kept_of
kept_zero window q m =
    let a : 1024 * q + 0 ≡ 1024 * q = omega arith in
    let b : 1024 * q + 0 + 0 ≡ 1024 * q + 0 = omega arith in
    kept_one a (omega arith) (ap (λ (t : ℕ). slice (1024 * q + 0) t window) b ∙ slice_empty (1024 * q + 0) window) refl

slot_zero : (m : ℕ) → SlotOk m 0 0 0
slot_zero m =
    let z = counts_zero m in
    record { short = omega arith; ends = omega arith; fits = omega arith; placed = omega (arith, z); most = omega arith }

pub feed_opened : {n : ℕ} {hints ms ts cs hs hp ps : List ℕ} → n ≤ 256 → length ms ≡ 256 → StreamsOpened n hints ms ts cs hs hp
    → ((q : ℕ) → q < 256 → get_or ps q 0 ≡ 0) → FeedOpened n hints ms ts cs hs hp ps
unfolding feed_of opened
feed_opened {n} {hints} {ms} {ts} {cs} {hs} {hp} {ps} hn long o z =
    record {
      starts = λ window. record { statuses = o.starts; kept = λ q d. kept_at_lem window q (not_there n ms ts cs hs q (rw o.starts d)) };
      sound = record {
        state = o.sound;
        slots = λ q l m. slot_at q l;
        lone = λ q l m d. rw (o.places q (omega arith)).1 refl;
        unused = λ q l. out q l (dec_lt q 256);
      };
      spans = z;
    }
  where
    kept_at_lem : (window : List ℕ) (q : ℕ) → q < n
        → kept_at window ms cs hs ps q ≡ record { at = 1024 * q; base = 0; bytes = []; over = false }
    kept_at_lem window q l = rw ((o.places q (omega arith)).0, (o.places q (omega arith)).1, z q (omega arith)) (kept_zero window q (get_or ms q 0))

    slot_at : (q : ℕ) → q < n → SlotOk (get_or ms q 0) (get_or cs q 0) (get_or hs q 0) (get_or ps q 0)
    slot_at q l = rw ((o.places q (omega arith)).0, (o.places q (omega arith)).1, z q (omega arith)) (slot_zero (get_or ms q 0))

    beyond : (l : List ℕ) (i : ℕ) → length l ≤ i → get_or l i 0 ≡ 0
    beyond [] i h = refl
    beyond (x ∷ l) zero h = absurd (omega arith)
    beyond (x ∷ l) (suc i) h = beyond l i (omega arith)

    out : (q : ℕ) → n ≤ q → Dec (q < 256) → get_or ms q 0 ≡ 0
    out q l (yes h) = (o.unused q l h).0
    out q l (no h) = beyond ms q (omega (arith, h))

-- what is lent to an opening fits, by the tests
module _ (marks times places heads heap spans : ℕ) where
  pub open_none : arrays_fit 0 marks times places heads heap ≡ false → false ≡ open_fits marks times places heads heap spans
  unfolding open_fits
  open_none e = rw e refl

  pub open_spans : arrays_fit 0 marks times places heads heap ≡ true → eqb spans 256 ≡ open_fits marks times places heads heap spans
  unfolding open_fits
  open_spans e = rw e refl

-- one more place is empty
pub emptied : (ps : List ℕ) (i : ℕ) → i < length ps → ((q : ℕ) → q < i → get_or ps q 0 ≡ 0) → (q : ℕ) → q < i + 1
    → get_or (set ps i 0) q 0 ≡ 0
emptied ps i h k q l = go (ℕ_discrete q i)
  where
    go : Dec (q ≡ i) → get_or (set ps i 0) q 0 ≡ 0
    go (yes e) = ap (λ (j : ℕ). get_or (set ps i 0) j 0) e ∙ (put_set ps i 0 h).here
    go (no e) = (put_set ps i 0 h).there q e ∙ k q (omega arith)

marks_256 : (held marks times places heads heap : ℕ) → arrays_fit held marks times places heads heap ≡ true → marks ≡ 256
unfolding arrays_fit
marks_256 held marks times places heads heap e =
    let a = both (leb held 256) (eqb marks 256 && (eqb times 256 && (eqb places 256 && (eqb heads 256 && eqb heap 256)))) e in
    eqb-true marks 256 (both (eqb marks 256) (eqb times 256 && (eqb places 256 && (eqb heads 256 && eqb heap 256))) a.1).0

pub open_room : (ms ts cs hs hp ps : List ℕ) → open_fits (length ms) (length ts) (length cs) (length hs) (length hp) (length ps) ≡ true
    → Room 0 ms ts cs hs hp × (length ps ≡ 256) × (length ms ≡ 256)
unfolding open_fits
open_room ms ts cs hs hp ps e =
    let a = both _ _ e in
    (arrays_room 0 ms ts cs hs hp a.0, eqb-true (length ps) 256 a.1, marks_256 0 (length ms) (length ts) (length cs) (length hs) (length hp) a.0)

pub count_room : (n hints : ℕ) → right_count n hints ≡ true → (1 ≤ n) × (n ≤ 256) × (hints ≤ n)
unfolding right_count
count_room n hints e =
    let a = both _ _ e in
    let b = both _ _ a.1 in
    (leb-true 1 n a.0, leb-true n 256 b.0, either (eqb hints 0) refl b.1)
  where
    either : (x : Bool) → eqb hints 0 ≡ x → (x || eqb hints n) ≡ true → hints ≤ n
    either true z w = omega (arith, eqb-true hints 0 z)
    either false z w = omega (arith, eqb-true hints n w)
