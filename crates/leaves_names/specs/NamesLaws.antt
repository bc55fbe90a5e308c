-- The laws of name lists: what well-formed gives place by place, and how the code's walks go.
-- Assumes nothing.
use Prim.Native.Nat.{ℕ, zero, suc, ◌+◌, ◌-◌, ◌≤◌, ◌<◌}
use Rattle.std.specs.Prelude.{List, [], ◌∷◌, Bool, true, false, cond, ◌&&◌, ◌≡◌, refl, leb, eqb, length, get_or, take}
use Rattle.std.proofs.lemmas.Bool.{false≢true}
use Rattle.std.proofs.Common.{ap, ap₂, ◌∙◌, add-one, zero-add, length-take-le}
use Rattle.std.proofs.Math.Path.{sym}
use native.Mathlib.Omega.{arith}
use borrow.Author.Tests.{le-leb, lt-leb, eq-eqb, ne_eqb, leb-true, leb-false, eqb-true}
use Rattle.std.proofs.Math.ListN.{drop}
use Rattle.std.proofs.Math.Seq.{take-take, slice, length-slice}
use Rattle.std.proofs.lemmas.List.Edits.{length-paste}
use Rattle.std.specs.Prelude.{nat_eq}
use Rattle.std.specs.List.{between}
use Rattle.std.proofs.lemmas.Slice.{between_is}
use Rattle.std.specs.Cmp.Lexicographic.{pointwise, same_text, other_text}
use Rattle.leaves_utf8.specs.Utf8.{is_utf8, Upto}
use Rattle.leaves_utf8.specs.Utf8Laws.{plain_is}
use Rattle.theory.specs.Bools.{and_false, and_left, and_right}
use Rattle.leaves_names.specs.Names.{name_start, name_end, name_of, names_from, names_of, is_name, stand_from, well_formed, list_fits, same, least, has_room, name_written, standing, Ordered}

-- ---- the limits

-- lent memory within the limits, and the numbers in use within it
pub record Memory (bytes places names name_bytes : ℕ) : Type 0 where
  pub few : places ≤ 4096
  pub small : bytes ≤ 65536
  pub held : names ≤ places
  pub room : name_bytes ≤ bytes

pub memory : (bytes places names name_bytes : ℕ) → list_fits bytes places names name_bytes ≡ true → Memory bytes places names name_bytes
unfolding list_fits
memory bytes places names name_bytes e =
    let p = and_left (leb places 4096 && leb bytes 65536 && leb names places) (leb name_bytes bytes) e in
    let q = and_left (leb places 4096 && leb bytes 65536) (leb names places) p in
    record {
      few = leb-true _ _ (and_left (leb places 4096) (leb bytes 65536) q);
      small = leb-true _ _ (and_right (leb places 4096) (leb bytes 65536) q);
      held = leb-true _ _ (and_right (leb places 4096 && leb bytes 65536) (leb names places) p);
      room = leb-true _ _ (and_right (leb places 4096 && leb bytes 65536 && leb names places) (leb name_bytes bytes) e);
    }

-- and back
pub memory_so : (bytes places names name_bytes : ℕ) → Memory bytes places names name_bytes → list_fits bytes places names name_bytes ≡ true
unfolding list_fits
memory_so bytes places names name_bytes m = rw (le-leb _ _ m.few, le-leb _ _ m.small, le-leb _ _ m.held) (le-leb _ _ m.room)

-- no place is left
pub room_none : (bytes places names name_bytes size : ℕ) → Memory bytes places names name_bytes → places ≤ names → false ≡ has_room bytes places names name_bytes size
unfolding has_room
room_none bytes places names name_bytes size m h =
    rw (lt-leb (names + 1) places (omega arith), and_false (leb (names + 1) 4096 && leb (name_bytes + size) 65536))

room_yes : (bytes places names name_bytes size : ℕ) → Memory bytes places names name_bytes → names < places → size ≤ bytes - name_bytes → true ≡ has_room bytes places names name_bytes size
unfolding has_room
room_yes bytes places names name_bytes size m h k =
    let r = m.room in
    let s = m.small in
    let f = m.few in
    rw (le-leb (names + 1) 4096 (omega arith), le-leb (name_bytes + size) 65536 (omega arith), le-leb (names + 1) places (omega arith), le-leb (name_bytes + size) bytes (omega arith))

room_no : (bytes places names name_bytes size : ℕ) → Memory bytes places names name_bytes → bytes - name_bytes < size → false ≡ has_room bytes places names name_bytes size
unfolding has_room
room_no bytes places names name_bytes size m k =
    rw (lt-leb (name_bytes + size) bytes (omega arith), and_false (leb (names + 1) 4096 && leb (name_bytes + size) 65536 && leb (names + 1) places))

-- a place is left: the bytes decide
pub room_some : (bytes places names name_bytes size : ℕ) → Memory bytes places names name_bytes → names < places → leb size (bytes - name_bytes) ≡ has_room bytes places names name_bytes size
room_some bytes places names name_bytes size m h = go (leb size (bytes - name_bytes)) refl
  where
    go : (t : Bool) → leb size (bytes - name_bytes) ≡ t → t ≡ has_room bytes places names name_bytes size
    go true e = room_yes bytes places names name_bytes size m h (leb-true _ _ e)
    go false e = room_no bytes places names name_bytes size m (leb-false _ _ e)

-- ---- the walk that checks a list

pub start_next : (ends : List ℕ) (n : ℕ) → name_start ends (n + 1) ≡ get_or ends n 0
unfolding name_start
start_next ends n = rw add-one

pub start_first : (ends : List ℕ) {n : ℕ} → n ≡ 0 → 0 ≡ name_start ends n
unfolding name_start
start_first ends e = rw e

pub start_after : (ends : List ℕ) {n : ℕ} → (n ≡ 0 → ⊥) → get_or ends (n - 1) 0 ≡ name_start ends n
start_after ends {n} h =
    let e : n - 1 + 1 ≡ n = omega arith in
    sym (start_next ends (n - 1)) ∙ ap (name_start ends) e

stand_next : (bytes ends : List ℕ) (name_bytes : ℕ) {n names : ℕ} → n < names
    → stand_from bytes ends name_bytes n (names - n) ≡ (leb (name_start ends n) (name_end ends n) && is_name (name_of bytes ends n) && stand_from bytes ends name_bytes (n + 1) (names - (n + 1)))
unfolding stand_from
stand_next bytes ends name_bytes {n} {names} h =
    let e : names - n ≡ suc (names - (n + 1)) = omega arith in
    rw (e, add-one)

past_on : (bytes ends : List ℕ) (name_bytes n k : ℕ) (t : Bool) → leb (name_start ends n) (name_end ends n) ≡ t → name_bytes < name_start ends n
    → (name_bytes < name_start ends (suc n) → stand_from bytes ends name_bytes (suc n) k ≡ false) → stand_from bytes ends name_bytes n (suc k) ≡ false
unfolding stand_from name_start
past_on bytes ends name_bytes n k true e h on =
    let l : name_start ends n ≤ get_or ends n 0 = leb-true _ _ e in
    rw (e, on (omega arith)) (and_false (is_name (name_of bytes ends n)))
past_on bytes ends name_bytes n k false e h on = rw e

-- a name that begins past the bytes in use: no list
past : (bytes ends : List ℕ) (name_bytes n k : ℕ) → name_bytes < name_start ends n → stand_from bytes ends name_bytes n k ≡ false
unfolding stand_from
past bytes ends name_bytes n zero h = ne_eqb (name_start ends n) name_bytes (λ e. omega arith)
past bytes ends name_bytes n (suc k) h = past_on bytes ends name_bytes n k (leb (name_start ends n) (name_end ends n)) refl h (past bytes ends name_bytes (suc n) k)

stands_not : (bytes ends : List ℕ) (name_bytes n k : ℕ) (t u : Bool) → leb (name_start ends n) (name_end ends n) ≡ t → leb (name_end ends n) name_bytes ≡ u
    → standing bytes name_bytes (name_start ends n) (name_end ends n) ≡ false → (leb (name_start ends n) (name_end ends n) && is_name (name_of bytes ends n) && stand_from bytes ends name_bytes (n + 1) k) ≡ false
unfolding standing name_of
stands_not bytes ends name_bytes n k true true e f h = rw (e, rw (e, f) at h)
stands_not bytes ends name_bytes n k true false e f h =
    let l : name_bytes < get_or ends n 0 = leb-false _ _ f in
    let p : name_bytes < name_start ends (n + 1) = rw (start_next ends n) l in
    rw (e, past bytes ends name_bytes (n + 1) k p) (and_false (is_name (slice (name_start ends n) (name_end ends n) bytes)))
stands_not bytes ends name_bytes n k false u e f h = rw e

stands_so : (bytes ends : List ℕ) (name_bytes n k : ℕ) (t u : Bool) → leb (name_start ends n) (name_end ends n) ≡ t → leb (name_end ends n) name_bytes ≡ u
    → standing bytes name_bytes (name_start ends n) (name_end ends n) ≡ true
    → (leb (name_start ends n) (name_end ends n) && is_name (name_of bytes ends n) && stand_from bytes ends name_bytes (n + 1) k) ≡ stand_from bytes ends name_bytes (n + 1) k
unfolding standing name_of
stands_so bytes ends name_bytes n k true true e f h = rw (e, rw (e, f) at h)
stands_so bytes ends name_bytes n k true false e f h = let z : false ≡ true = rw (e, f) at h in absurd (false≢true z)
stands_so bytes ends name_bytes n k false u e f h = let z : false ≡ true = rw e at h in absurd (false≢true z)

-- the bytes in use alone are asked
pub standing_used : (bytes : List ℕ) (name_bytes start end : ℕ) → name_bytes ≤ length bytes
    → standing (take name_bytes bytes) (length (take name_bytes bytes)) start end ≡ standing bytes name_bytes start end
unfolding standing
standing_used bytes name_bytes start end h = rw (length-take-le name_bytes bytes h) (go (leb end name_bytes) refl)
  where
    go : (t : Bool) → leb end name_bytes ≡ t
        → (leb start end && leb end name_bytes && is_name (slice start end (take name_bytes bytes))) ≡ (leb start end && leb end name_bytes && is_name (slice start end bytes))
    go true e = ap (λ (s : List ℕ). leb start end && leb end name_bytes && is_name (drop start s)) (take-take end name_bytes bytes (leb-true _ _ e))
    go false e = rw (e, and_false (leb start end))

-- n names were passed, the last of which ends at start; what is left to check is what there was
pub record Walked (bytes ends : List ℕ) (names name_bytes start n : ℕ) : Type 0 where
  pub upto : n ≤ names
  pub begins : start ≡ name_start ends n
  pub left : well_formed bytes ends names name_bytes ≡ stand_from bytes ends name_bytes n (names - n)

pub walk_none : (bytes ends : List ℕ) (names name_bytes : ℕ) → Walked bytes ends names name_bytes 0 0
unfolding well_formed name_start
walk_none bytes ends names name_bytes =
    let e : names ≡ names - 0 = omega arith in
    record { upto = omega arith; begins = refl; left = ap (stand_from bytes ends name_bytes 0) e }

pub walk_turn : {bytes ends : List ℕ} {names name_bytes start end n : ℕ} {f : Bool} → Walked bytes ends names name_bytes start n → n < names → end ≡ get_or ends n 0
    → f ≡ standing bytes name_bytes start end → f ≡ true → Walked bytes ends names name_bytes end (n + 1)
walk_turn {bytes} {ends} {names} {name_bytes} {start} {end} {n} w h e s t =
    let st : standing bytes name_bytes (name_start ends n) (name_end ends n) ≡ true = cc in
    record {
      upto = omega arith;
      begins = e ∙ sym (start_next ends n);
      left = w.left ∙ stand_next bytes ends name_bytes h ∙ stands_so bytes ends name_bytes n (names - (n + 1)) _ _ refl refl st;
    }

pub walk_stop : {bytes ends : List ℕ} {names name_bytes start end n : ℕ} {f : Bool} → Walked bytes ends names name_bytes start n → n < names → end ≡ get_or ends n 0
    → f ≡ standing bytes name_bytes start end → f ≡ false → false ≡ well_formed bytes ends names name_bytes
walk_stop {bytes} {ends} {names} {name_bytes} {start} {end} {n} w h e s t =
    let st : standing bytes name_bytes (name_start ends n) (name_end ends n) ≡ false = cc in
    sym (w.left ∙ stand_next bytes ends name_bytes h ∙ stands_not bytes ends name_bytes n (names - (n + 1)) _ _ refl refl st)

pub walk_end : {bytes ends : List ℕ} {names name_bytes start n : ℕ} → Walked bytes ends names name_bytes start n → names ≤ n → eqb start name_bytes ≡ well_formed bytes ends names name_bytes
unfolding stand_from
walk_end {bytes} {ends} {names} {name_bytes} {start} {n} w h =
    let z : names - n ≡ 0 = omega arith in
    ap (λ (x : ℕ). eqb x name_bytes) w.begins ∙ sym (w.left ∙ ap (stand_from bytes ends name_bytes n) z)

-- ---- what well-formed says of each name

-- the names in use, name by name: no end falls or passes the bytes in use, each name is valid, and the last ends where those bytes do
pub record Formed (bytes ends : List ℕ) (names name_bytes : ℕ) : Type 0 where
  pub rising : (n : ℕ) → n < names → name_start ends n ≤ name_end ends n
  pub under : (n : ℕ) → n < names → name_end ends n ≤ name_bytes
  pub valid : (n : ℕ) → n < names → is_name (name_of bytes ends n) ≡ true
  pub last : name_start ends names ≡ name_bytes

module _ (bytes ends : List ℕ) (name_bytes : ℕ) where
  reach : (n k : ℕ) → stand_from bytes ends name_bytes n k ≡ true → name_start ends n ≤ name_bytes
  reach n k e = go (leb (name_start ends n) name_bytes) refl
    where
      go : (t : Bool) → leb (name_start ends n) name_bytes ≡ t → name_start ends n ≤ name_bytes
      go true l = leb-true _ _ l
      go false l = absurd (false≢true (sym (past bytes ends name_bytes n k (leb-false _ _ l)) ∙ e))

  module _ (names : ℕ) (w : well_formed bytes ends names name_bytes ≡ true) where
    suffix : (n : ℕ) → n ≤ names → stand_from bytes ends name_bytes n (names - n) ≡ true
    unfolding well_formed
    suffix zero h = let e : names - 0 ≡ names = omega arith in rw e w
    suffix (suc n) h =
        let e = sym (stand_next bytes ends name_bytes h) ∙ suffix n (omega arith) in
        rw (← (add-one n)) (and_right (leb (name_start ends n) (name_end ends n) && is_name (name_of bytes ends n)) (stand_from bytes ends name_bytes (n + 1) (names - (n + 1))) e)

    first_two : {n : ℕ} → n < names → (leb (name_start ends n) (name_end ends n) && is_name (name_of bytes ends n)) ≡ true
    first_two {n} h =
        and_left (leb (name_start ends n) (name_end ends n) && is_name (name_of bytes ends n)) (stand_from bytes ends name_bytes (n + 1) (names - (n + 1)))
        (sym (stand_next bytes ends name_bytes h) ∙ suffix n (omega arith))

    pub formed : Formed bytes ends names name_bytes
    unfolding stand_from
    formed =
        record {
          rising = λ n h. leb-true _ _ (and_left (leb (name_start ends n) (name_end ends n)) (is_name (name_of bytes ends n)) (first_two h));
          under =
              λ n h. let l : name_start ends (n + 1) ≤ name_bytes = reach (n + 1) (names - (n + 1)) (suffix (n + 1) (omega arith)) in
              rw (start_next ends n) at l;
          valid = λ n h. and_right (leb (name_start ends n) (name_end ends n)) (is_name (name_of bytes ends n)) (first_two h);
          last = let z : names - names ≡ 0 = omega arith in let l = suffix names (omega arith) in eqb-true _ _ (rw z at l);
        }

  -- and back
  module _ (names : ℕ) (f : Formed bytes ends names name_bytes) where
    stands_on : (k n : ℕ) → n + k ≡ names → stand_from bytes ends name_bytes n k ≡ true
    unfolding stand_from
    stands_on zero n e =
        let q : n ≡ names = omega arith in
        eq-eqb (name_start ends n) name_bytes (ap (name_start ends) q ∙ f.last)
    stands_on (suc k) n e =
        rw (le-leb _ _ (f.rising n (omega arith)), f.valid n (omega arith)) (stands_on k (suc n) (omega arith))

    pub well_formed_lem : well_formed bytes ends names name_bytes ≡ true
    unfolding well_formed
    well_formed_lem = stands_on names 0 (omega arith)

-- a well-formed list in lent memory: its names lie one after another within the bytes lent
pub ordered : {bytes ends : List ℕ} {names name_bytes : ℕ} → Memory (length bytes) (length ends) names name_bytes → Formed bytes ends names name_bytes → Ordered bytes ends names
ordered m f =
    let r = m.room in
    record { places = m.held; rising = f.rising; inside = λ n h. let u = f.under n h in omega arith }

pub ordered_list : (bytes ends : List ℕ) (names name_bytes : ℕ) → list_fits (length bytes) (length ends) names name_bytes ≡ true
    → well_formed bytes ends names name_bytes ≡ true → Ordered bytes ends names
ordered_list bytes ends names name_bytes fits wf = ordered (memory _ _ _ _ fits) (formed _ _ _ _ wf)

-- ---- one name

pub name_long : (s : List ℕ) (from to : ℕ) → to ≤ length s → 255 < to - from → false ≡ is_name (slice from to s)
unfolding is_name
name_long s from to k h = rw (length-slice from to s k, lt-leb (to - from) 255 h)

pub name_short : (s : List ℕ) (from to : ℕ) → to ≤ length s → to - from ≤ 255 → is_utf8 (slice from to s) ≡ is_name (slice from to s)
unfolding is_name
name_short s from to k h = rw (length-slice from to s k, le-leb (to - from) 255 h)

and_true : (t : Bool) → t ≡ (t && true)
and_true true = refl
and_true false = refl

pub name_plain : (s : List ℕ) (all from to : ℕ) → Upto s 0 all 0x7F → from ≤ to → to ≤ all → all ≤ length s → leb (to - from) 255 ≡ is_name (slice from to s)
unfolding is_name
name_plain s all from to u a b l =
    rw (length-slice from to s (omega arith), plain_is s 0 all from to u (omega arith) a b l) (and_true (leb (to - from) 255))

-- ---- the same bytes

pub same_refl : (s : List ℕ) → same s s ≡ true
unfolding same
same_refl [] = refl
same_refl (a ∷ s) = rw (eq-eqb a a refl) (same_refl s)

same_head : (a b : ℕ) (s t : List ℕ) (u : Bool) → eqb a b ≡ u → (same s t ≡ true → s ≡ t) → same (a ∷ s) (b ∷ t) ≡ true → a ∷ s ≡ b ∷ t
unfolding same
same_head a b s t true e on h = ap₂ (λ (x : ℕ) (l : List ℕ). x ∷ l) (eqb-true a b e) (on (rw e at h))
same_head a b s t false e on h = let z : false ≡ true = rw e at h in absurd (false≢true z)

pub same_eq : (s t : List ℕ) → same s t ≡ true → s ≡ t
unfolding same
same_eq [] [] h = refl
same_eq [] (b ∷ t) h = absurd (false≢true h)
same_eq (a ∷ s) [] h = absurd (false≢true h)
same_eq (a ∷ s) (b ∷ t) h = same_head a b s t (eqb a b) refl (same_eq s t) h

-- the library's equality of lists says the same
pub part_same : (bytes text : List ℕ) (start end : ℕ) {f : Bool} → f ≡ pointwise nat_eq (between start end bytes) text → f ≡ true → same text (slice start end bytes) ≡ true
part_same bytes text start end h e =
    let q : slice start end bytes ≡ text = sym (between_is bytes start end) ∙ same_text (between start end bytes) text (sym e ∙ h) in
    rw q (same_refl text)

pub part_other : (bytes text : List ℕ) (start end : ℕ) {f : Bool} → f ≡ pointwise nat_eq (between start end bytes) text → f ≡ false → same text (slice start end bytes) ≡ false
part_other bytes text start end h e = go (same text (slice start end bytes)) refl
  where
    go : (f : Bool) → same text (slice start end bytes) ≡ f → f ≡ false
    go true q =
        absurd (other_text (between start end bytes) text (sym e ∙ h) (between_is bytes start end ∙ sym (same_eq text (slice start end bytes) q)))
    go false q = refl

-- ---- the walk that looks for a name

names_next : (bytes ends : List ℕ) {n names : ℕ} → n < names → names_from bytes ends n (names - n) ≡ name_of bytes ends n ∷ names_from bytes ends (n + 1) (names - (n + 1))
unfolding names_from
names_next bytes ends {n} {names} h =
    let e : names - n ≡ suc (names - (n + 1)) = omega arith in
    rw (e, add-one)

least_cons : (name x : List ℕ) (xs : List (List ℕ)) → least name (x ∷ xs) ≡ cond (same name x) 0 (suc (least name xs))
unfolding least
least_cons name x xs = refl

least_none : (name : List ℕ) → least name [] ≡ 0
unfolding least
least_none name = refl

-- the n names before start differ from a name; what is left to look at is what there was
pub record Sought (bytes ends : List ℕ) (names : ℕ) (name : List ℕ) (start n : ℕ) : Type 0 where
  pub upto : n ≤ names
  pub begins : start ≡ name_start ends n
  pub left : least name (names_of bytes ends names) ≡ n + least name (names_from bytes ends n (names - n))

pub seek_none : (bytes ends : List ℕ) (names : ℕ) (name : List ℕ) → Sought bytes ends names name 0 0
unfolding names_of name_start
seek_none bytes ends names name =
    let e : names - 0 ≡ names = omega arith in
    record { upto = omega arith; begins = refl; left = rw (e, zero-add) }

seek_next : (bytes ends : List ℕ) (name : List ℕ) (start end n names : ℕ) (f : Bool) → n < names → start ≡ name_start ends n → end ≡ get_or ends n 0 → f ≡ same name (slice start end bytes)
    → least name (names_from bytes ends n (names - n)) ≡ cond f 0 (suc (least name (names_from bytes ends (n + 1) (names - (n + 1)))))
unfolding name_of
seek_next bytes ends name start end n names f h b e s =
    let r : same name (slice (name_start ends n) (name_end ends n) bytes) ≡ f = cc in
    ap (least name) (names_next bytes ends h) ∙ least_cons name (name_of bytes ends n) (names_from bytes ends (n + 1) (names - (n + 1))) ∙ rw r

module _ {bytes ends : List ℕ} {names : ℕ} {name : List ℕ} {start n : ℕ} (w : Sought bytes ends names name start n) where
  pub seek_turn : {end : ℕ} {f : Bool} → n < names → end ≡ get_or ends n 0 → f ≡ same name (slice start end bytes) → f ≡ false → Sought bytes ends names name end (n + 1)
  seek_turn {end} {f} h e s t =
      let r = seek_next bytes ends name start end n names f h w.begins e s in
      let q : least name (names_from bytes ends n (names - n)) ≡ suc (least name (names_from bytes ends (n + 1) (names - (n + 1)))) = rw t at r in
      record { upto = omega arith; begins = e ∙ sym (start_next ends n); left = w.left ∙ omega arith }

  pub seek_found : {end : ℕ} {f : Bool} → n < names → end ≡ get_or ends n 0 → f ≡ same name (slice start end bytes) → f ≡ true → n ≡ least name (names_of bytes ends names)
  seek_found {end} {f} h e s t =
      let r = seek_next bytes ends name start end n names f h w.begins e s in
      let q : least name (names_from bytes ends n (names - n)) ≡ 0 = rw t at r in
      let l = w.left in
      omega arith

  pub seek_end : names ≤ n → names ≡ least name (names_of bytes ends names)
  unfolding names_from
  seek_end h =
      let z : names - n ≡ 0 = omega arith in
      let q : least name (names_from bytes ends n (names - n)) ≡ 0 = rw z (least_none name) in
      let l = w.left in
      let u = w.upto in
      omega arith

-- ---- a name that is written

pub copied_length : (bytes text : List ℕ) (at from to : ℕ) → to ≤ length text → at + (to - from) ≤ length bytes → length (name_written bytes at (slice from to text)) ≡ length bytes
unfolding name_written
copied_length bytes text at from to k l =
    let e = length-slice from to text k in
    length-paste bytes at (slice from to text) (length (slice from to text)) (omega arith) (omega arith)
