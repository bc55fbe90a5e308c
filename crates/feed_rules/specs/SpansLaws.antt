-- Laws of spans: dropping a span's first bytes is dropping what is kept; a read of the window is what is known. Assumes nothing.
-- What rests on a step of the machine, or on what is known of a stream, stands in proofs/SpansLaws.
use Rattle.std.specs.Prelude.{◌≡◌, ◌≢◌, ℕ, ◌+◌, ◌-◌, ◌*◌, ◌/◌, ◌%◌, ◌<◌, ◌≤◌, Bool, true, not, List, [], ◌∷◌, length, take, drop, eqb}
use Rattle.std.proofs.Math.Path.{refl}
use Rattle.std.proofs.Common.{sym, ap, ◌∙◌, arith, drop-drop}
use Rattle.std.proofs.Math.Bool.{false}
use Rattle.std.proofs.Math.Seq.{slice}
use Rattle.std.proofs.Math.Dec.{ltb}
use borrow.Author.Tests.{lt-ltb, le-ltb, eq-eqb, ne_eqb, eqb-true}
use Rattle.theory.specs.Bools.{both}
use Rattle.theory.specs.Answer.{Answer, answer}
use Rattle.records_rules.specs.State.{arrays_fit}
use Rattle.records_rules.specs.Opening.{full, arrays_room}
use Rattle.feed_rules.specs.Windows.{Kept, from}
use Rattle.feed_rules.specs.Spans.{dropped, counts, bytes_in, kept_of, feed_fits, FeedRoom, feed_arrays, FeedNeeds}

-- ---- a span without its first bytes

less : (q skip : ℕ) → skip ≤ q % 65536 → ((q - skip) % 65536 ≡ q % 65536 - skip) × ((q - skip) / 65536 ≡ q / 65536)
less q skip h = (omega arith, omega arith)

twice : (s : ℕ) → s / 65536 / 65536 ≡ s / 4294967296
twice s = omega arith

pub dropped_none : (s skip : ℕ) → s / 65536 % 65536 < skip → s ≡ dropped s skip
unfolding dropped
dropped_none s skip h = let e : ltb (s / 65536 % 65536) skip ≡ true = lt-ltb (s / 65536 % 65536) skip h in rw e refl

pub dropped_some : (s skip : ℕ) → skip ≤ s / 65536 % 65536 → s - 65535 * skip ≡ dropped s skip
unfolding dropped
dropped_some s skip h = let e : ltb (s / 65536 % 65536) skip ≡ false = le-ltb (s / 65536 % 65536) skip h in rw e refl

pub dropped_zero : (s : ℕ) → dropped s 0 ≡ s
dropped_zero s = sym (dropped_some s 0 (omega arith)) ∙ omega arith

module _ (s skip : ℕ) (h : skip ≤ s / 65536 % 65536) where
  dropped_is : dropped s skip ≡ s - 65535 * skip
  unfolding dropped
  dropped_is = let e : ltb (s / 65536 % 65536) skip ≡ false = le-ltb (s / 65536 % 65536) skip h in rw e refl

  module _ (short : s % 65536 + s / 65536 % 65536 ≤ 1024) where
    pub drop_start : dropped s skip % 65536 ≡ s % 65536 + skip
    drop_start = rw dropped_is (omega arith)

    above : dropped s skip / 65536 ≡ s / 65536 - skip
    above = rw dropped_is (omega arith)

    pub drop_fill : dropped s skip / 65536 % 65536 ≡ s / 65536 % 65536 - skip
    drop_fill = rw above (less (s / 65536) skip h).0

    pub drop_ended : dropped s skip / 4294967296 ≡ s / 4294967296
    drop_ended = sym (twice (dropped s skip)) ∙ ap (λ (n : ℕ). n / 65536) above ∙ (less (s / 65536) skip h).1 ∙ twice s

slice_drop : (f n skip : ℕ) (l : List ℕ) → skip ≤ n → slice (f + skip) (f + skip + (n - skip)) l ≡ drop skip (slice f (f + n) l)
slice_drop f n skip l h =
    let e : f + skip + (n - skip) ≡ f + n = omega arith in
    ap (λ (t : ℕ). drop (f + skip) (take t l)) e ∙ sym (drop-drop skip f (take (f + n) l))

pub kept_one : {x y : Kept} → x.at ≡ y.at → x.base ≡ y.base → x.bytes ≡ y.bytes → x.over ≡ y.over → x ≡ y
kept_one a b c d = λ i. record { at = a i; base = b i; bytes = c i; over = d i }

-- from a place on, and from a later one on
pub from_from : (x : Kept) (c a : ℕ) → x.base ≤ c → c ≤ a → from a (from c x) ≡ from a x
unfolding from
from_from x c a h k =
    let e : c - x.base + (a - c) ≡ a - x.base = omega arith in
    kept_one (omega arith) refl (drop-drop (a - c) (c - x.base) x.bytes ∙ ap (λ (n : ℕ). drop n x.bytes) e) refl

-- the span without the bytes that count, at the place itself
pub kept_dropped : (window : List ℕ) (p place head s mark' head' : ℕ) → head % 65536 ≤ s / 65536 % 65536
    → s % 65536 + s / 65536 % 65536 ≤ 1024
    → head % 65536 ≤ place → counts mark' head' ≡ 0
    → kept_of window p mark' place head' (dropped s (head % 65536)) ≡ from place (kept_of window p 1 place head s)
unfolding kept_of counts from
kept_dropped window p place head s mark' head' h short l z =
    let skip = head % 65536 in
    let e₁ = drop_start s skip h short in
    let e₂ = drop_fill s skip h short in
    let e₃ = drop_ended s skip h short in
    let b : place - (place - skip) ≡ skip = omega arith in
    let u : place - counts mark' head' ≡ place = omega (arith, z) in
    let i : 1024 * p + dropped s skip % 65536 ≡ 1024 * p + s % 65536 + skip = omega arith in
    let a : 1024 * p + (s % 65536 + skip) ≡ 1024 * p + s % 65536 + skip = omega arith in
    let y : bytes_in window p (dropped s skip) ≡ drop skip (bytes_in window p s) =
    rw (e₁, e₂, a) (slice_drop (1024 * p + s % 65536) (s / 65536 % 65536) skip window h) in
    kept_one (i ∙ ap (λ (n : ℕ). 1024 * p + s % 65536 + n) (sym b)) u
    (y ∙ ap (λ (n : ℕ). drop n (bytes_in window p s)) (sym b)) (ap (λ (n : ℕ). not (eqb n 0)) e₃)

-- ---- what is lent fits, by the tests

module _ (held marks times places heads heap spans window : ℕ) where
  abbrev fits : Bool
  fits = arrays_fit held marks times places heads heap

  pub fits_none : fits ≡ false → false ≡ feed_fits held marks times places heads heap spans window
  unfolding feed_fits
  fits_none e = rw e refl

  pub fits_spans : fits ≡ true → spans ≢ 256 → false ≡ feed_fits held marks times places heads heap spans window
  unfolding feed_fits
  fits_spans e d = rw (e, ne_eqb spans 256 d) refl

  pub fits_window : fits ≡ true → spans ≡ 256 → eqb window 262144 ≡ feed_fits held marks times places heads heap spans window
  unfolding feed_fits
  fits_window e d = rw (e, eq-eqb spans 256 d) refl

-- and then there is the room
pub fits_room : (held : ℕ) (ms ts cs hs hp ps window : List ℕ)
    → feed_fits held (length ms) (length ts) (length cs) (length hs) (length hp) (length ps) (length window) ≡ true
    → FeedRoom held ms ts cs hs hp ps × (length window ≡ 262144)
unfolding feed_fits
fits_room held ms ts cs hs hp ps window e =
    let a = both _ _ e in
    let b = both _ _ a.1 in
    ((arrays_room held ms ts cs hs hp a.0, full (length ps) b.0), eqb-true (length window) 262144 b.1)

-- need more, asked again: the same answer, and everything as it was
pub needs_twice : {window : List ℕ} {held : ℕ} {ms ts cs hs hp ps : List ℕ} {x : Answer} {held' : ℕ} {ms' ts' cs' hs' hp' ps' : List ℕ}
    {y : Answer} {held'' : ℕ} {ms'' ts'' cs'' hs'' hp'' ps'' : List ℕ} (p : ℕ) → x ≡ answer 0 (p ∷ [])
    → FeedNeeds window held ms ts cs hs hp ps x held' ms' ts' cs' hs' hp' ps'
    → FeedNeeds window held' ms' ts' cs' hs' hp' ps' y held'' ms'' ts'' cs'' hs'' hp'' ps''
    → (y ≡ x) × (held'' ≡ held') × (feed_arrays ms'' ts'' cs'' hs'' hp'' ps'' ≡ feed_arrays ms' ts' cs' hs' hp' ps')
needs_twice p e a b =
    let l = a.left p e in
    let z = b.again l.1 in
    (z.0 ∙ ap (λ (q : ℕ). answer 0 (q ∷ [])) (sym l.0) ∙ sym e, z.1, z.2)
