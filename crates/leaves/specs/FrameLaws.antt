-- What stands at a place and what a record's bytes ask for, one law for each case; and the smallest inputs at each border, computed.
-- Assumes nothing.
use Rattle.std.specs.Prelude.{◌≡◌, refl, ◌≢◌, ℕ, ◌+◌, ◌-◌, ◌/◌, ◌%◌, ◌≤◌, ◌<◌, min, length, take, replicate, Option, Some, None, Result, Ok, Err}
use Rattle.std.proofs.Math.Path.{sym, ap}
use Rattle.std.proofs.Common.{◌∙◌, arith, length-take, length-drop}
use mathlib.Core.List.{List, [], ◌∷◌, ◌++◌}
use Rattle.std.proofs.Math.Seq.{slice, take-length}
use borrow.Author.Tests.{lt-ltb, le-ltb, eq-eqb, ne_eqb}
use Rattle.theory.specs.Answer.{answer}
use Rattle.theory.specs.Fields.{field, field_slice}
use Rattle.leaves.specs.Refusal.{reason_number, number_of, refused}
use Rattle.leaves.specs.RefusalLaws.{reason_one, refused_not_done, refused_one}
use Rattle.leaves.specs.declared.refusal.Refusal.{Refusal}
use Rattle.leaves.specs.Frame.{Read, whole, ended, damaged, judged, record_at, frame_at, read_found}
use Rattle.leaves.specs.Frame.{Mapped, other, symbol, not_one, mapping_start, of_kind, one_record, mapped_in, mapped_of, head_of, frame_of, mapping_of}
use Rattle.leaves.specs.declared.frame.Head.{Head}
use Rattle.leaves.specs.declared.frame.Mapping.{Mapping}
use Rattle.leaves.specs.declared.refusal.Reason.{Reason}

-- the tests of a frame, by their facts
module _ (left size : ℕ) (r : Read) where
  pub judged_ended : left ≡ 0 → judged left size r ≡ ended
  unfolding judged
  judged_ended h = simp (eq-eqb left 0 h)

  module _ (some : left ≢ 0) where
    pub judged_short : left < 16 → judged left size r ≡ damaged 1
    unfolding judged
    judged_short h = simp (ne_eqb left 0 some, lt-ltb left 16 h)

  module _ (enough : 16 ≤ left) where
    some : left ≢ 0
    some e = omega arith

    pub judged_low : size < 16 → judged left size r ≡ damaged 2
    unfolding judged
    judged_low h = simp (ne_eqb left 0 some, le-ltb left 16 enough, lt-ltb size 16 h)

    pub judged_high : 1024 < size → judged left size r ≡ damaged 2
    unfolding judged
    judged_high h = simp (ne_eqb left 0 some, le-ltb left 16 enough, le-ltb size 16 (omega arith), lt-ltb 1024 size h)

    pub judged_past : 16 ≤ size → size ≤ 1024 → left < size → judged left size r ≡ damaged 3
    unfolding judged
    judged_past l u h = simp (ne_eqb left 0 some, le-ltb left 16 enough, le-ltb size 16 l, le-ltb 1024 size u, lt-ltb left size h)

    pub judged_whole : 16 ≤ size → size ≤ 1024 → size ≤ left → judged left size r ≡ r
    unfolding judged
    judged_whole l u h = simp (ne_eqb left 0 some, le-ltb left 16 enough, le-ltb size 16 l, le-ltb 1024 size u, le-ltb left size h)

-- what a `Head` found, by its number
module _ (found : ℕ) (r : Read) where
  pub found_ended : found ≡ 0 → read_found found r ≡ ended
  unfolding read_found
  found_ended h = simp (eq-eqb found 0 h)

  pub found_damaged : found ≢ 0 → found < 4 → read_found found r ≡ damaged found
  unfolding read_found
  found_damaged d h = simp (ne_eqb found 0 d, lt-ltb found 4 h)

  pub found_whole : 4 ≤ found → read_found found r ≡ r
  unfolding read_found
  found_whole h = simp (ne_eqb found 0 (λ e. omega arith), le-ltb found 4 h)

-- a place of a part of a buffer: the bytes left there, and the frame read from the buffer itself
module _ (b : List ℕ) (from to place left : ℕ) (e : left ≡ min to (length b) - from - place) where
  abbrev rest : ℕ
  rest = length (slice from to b) - place

  abbrev size : ℕ
  size = field 2 (slice from to b) place

  r : Read
  r = record_at (slice from to b) place

  left_is : rest ≡ left
  left_is = simp (length-drop, length-take) (sym e)

  pub within_ended : left ≡ 0 → frame_at (slice from to b) place ≡ ended
  unfolding frame_at r
  within_ended h = judged_ended rest size r (left_is ∙ h)

  pub within_short : left ≢ 0 → left < 16 → frame_at (slice from to b) place ≡ damaged 1
  unfolding frame_at r
  within_short d h = judged_short rest size r (λ z. d (omega (arith, left_is))) (omega (arith, left_is))

  module _ (enough : 16 ≤ left) where
    field_is : (width at : ℕ) → at + width ≤ 16 → field width (slice from to b) (place + at) ≡ field width b (from + place + at)
    field_is width at h = field_slice width b from to (place + at) (omega arith) ∙ ap (field width b) (omega arith)

    size_is : size ≡ field 2 b (from + place)
    size_is = field_slice 2 b from to place (omega arith)

    more : 16 ≤ rest
    more = omega (arith, left_is)

    pub within_low : field 2 b (from + place) < 16 → frame_at (slice from to b) place ≡ damaged 2
    unfolding frame_at r
    within_low h = judged_low rest size r more (omega (arith, size_is))

    pub within_high : 1024 < field 2 b (from + place) → frame_at (slice from to b) place ≡ damaged 2
    unfolding frame_at r
    within_high h = judged_high rest size r more (omega (arith, size_is))

    module _ (low : 16 ≤ field 2 b (from + place)) (high : field 2 b (from + place) ≤ 1024) where
      pub within_past : left < field 2 b (from + place) → frame_at (slice from to b) place ≡ damaged 3
      unfolding frame_at r
      within_past h = judged_past rest size r more (omega (arith, size_is)) (omega (arith, size_is)) (omega (arith, size_is, left_is))

      pub within_whole : field 2 b (from + place) ≤ left
          → frame_at (slice from to b) place ≡ whole (field 2 b (from + place)) (field 2 b (from + place + 2)) (field 4 b (from + place + 4)) (field 8 b (from + place + 8))
      unfolding frame_at record_at r
      within_whole h =
          judged_whole rest size r more (omega (arith, size_is)) (omega (arith, size_is)) (omega (arith, size_is, left_is))
          ∙ cc (size_is, field_is 2 2 (omega arith), field_is 4 4 (omega arith), field_is 8 8 (omega arith))

-- the whole of a buffer as its part
pub slice_all : (b : List ℕ) → slice 0 (length b) b ≡ b
slice_all b = take-length b

-- what a record's bytes ask for, by what stands at their front
module _ (b : List ℕ) (x : Result (Option Head) Reason) (e : head_of x ≡ frame_at (slice 0 (length b) b) 0) where
  here : {y : Result (Option Head) Reason} → x ≡ y → mapped_in b ≡ one_record b (head_of y)
  unfolding mapped_in
  here h = ap (one_record b) (ap (λ (l : List ℕ). frame_at l 0) (sym (slice_all b)) ∙ sym e ∙ ap head_of h)

  pub mapping_none : x ≡ Ok None → mapped_in b ≡ not_one 1
  unfolding one_record
  mapping_none h = here h

  pub mapping_damaged : {why : Reason} → x ≡ Err why → mapped_in b ≡ not_one (reason_number why)
  unfolding one_record
  mapping_damaged h = here h

  module _ {h : Head} (found : x ≡ Ok (Some h)) where
    pub mapping_over : h.length ≢ length b → mapped_in b ≡ not_one 3
    unfolding one_record
    mapping_over d = here found ∙ simp (ne_eqb h.length (length b) d)

    module _ (s : h.length ≡ length b) where
      kinds : mapped_in b ≡ of_kind b h.kind h.instrument
      unfolding one_record
      kinds = here found ∙ simp (eq-eqb h.length (length b) s)

      pub mapping_other : h.kind ≢ 2 → mapped_in b ≡ other
      unfolding of_kind
      mapping_other d = kinds ∙ simp (ne_eqb h.kind 2 d)

      pub mapping_short : h.kind ≡ 2 → length b < 32 → mapped_in b ≡ not_one 4
      unfolding of_kind
      mapping_short k l = kinds ∙ simp (eq-eqb h.kind 2 k, lt-ltb (length b - 16) 16 (omega arith))

      pub mapping_symbol : h.kind ≡ 2 → 32 ≤ length b → mapped_in b ≡ symbol h.instrument (mapping_start (field 8 b 16)) (field 8 b 24)
      unfolding of_kind
      mapping_symbol k l = kinds ∙ simp (eq-eqb h.kind 2 k, le-ltb (length b - 16) 16 (omega arith))

-- the other way round: what was asked for, by its answer
pub mapped_other : (n : ℕ) (m : Mapped) → answer 0 [] ≡ mapped_of n m → m ≡ other
mapped_other n other e = refl
mapped_other n (symbol i s t) e = let z : ◌≡◌ {A = ℕ} 0 1 = cc in absurd (omega arith)
mapped_other n (not_one r) e = let z : ◌≡◌ {A = ℕ} 0 13 = cc in absurd (omega arith)

pub mapped_symbol : (n instrument start end from to : ℕ) (m : Mapped) → answer 0 (instrument ∷ start ∷ end ∷ from ∷ to ∷ []) ≡ mapped_of n m
    → (m ≡ symbol instrument start end) × (from ≡ 32) × (to ≡ n)
mapped_symbol n j b u f l other e = let z : ◌≡◌ {A = ℕ} 0 1 = cc in absurd (omega arith)
mapped_symbol n j b u f l (symbol i s t) e = (cc, cc, cc)
mapped_symbol n j b u f l (not_one r) e = let z : ◌≡◌ {A = ℕ} 0 13 = cc in absurd (omega arith)

pub mapped_refused : (n : ℕ) (m : Mapped) (r : Refusal) → refused r ≡ mapped_of n m → (reason : ℕ) × (m ≡ not_one reason)
mapped_refused n other r e = let z : number_of r ≡ 0 = cc in absurd (refused_not_done r z)
mapped_refused n (symbol i s t) r e = let z : number_of r ≡ 0 = cc in absurd (refused_not_done r z)
mapped_refused n (not_one reason) r e = (reason, refl)

-- ---- only one answer fits: an answer in the rules' numbers comes from one value alone

head_by : ℕ → ℕ → ℕ → ℕ → Head
head_by size kind instrument time = record { length = size; kind = kind; instrument = instrument; time = time }

pub frame_one : (x y : Result (Option Head) Reason) → frame_of x ≡ frame_of y → x ≡ y
unfolding head_by
frame_one (Ok (Some g)) (Ok (Some h)) z =
    let e : head_by g.length g.kind g.instrument g.time ≡ head_by h.length h.kind h.instrument h.time = cc in ap (λ (k : Head). Ok (Some k)) e
frame_one (Ok (Some g)) (Ok None) z = let n : ◌≡◌ {A = ℕ} 0 1 = cc in absurd (omega arith)
frame_one (Ok (Some g)) (Err q) z = let n : ◌≡◌ {A = ℕ} 0 13 = cc in absurd (omega arith)
frame_one (Ok None) (Ok (Some h)) z = let n : ◌≡◌ {A = ℕ} 0 1 = cc in absurd (omega arith)
frame_one (Ok None) (Ok None) z = refl
frame_one (Ok None) (Err q) z = let n : ◌≡◌ {A = ℕ} 0 13 = cc in absurd (omega arith)
frame_one (Err q) (Ok (Some h)) z = let n : ◌≡◌ {A = ℕ} 0 13 = cc in absurd (omega arith)
frame_one (Err q) (Ok None) z = let n : ◌≡◌ {A = ℕ} 0 13 = cc in absurd (omega arith)
frame_one (Err p) (Err q) z = ap Err (reason_one p q cc)

mapping_by : ℕ → ℕ → ℕ → ℕ → ℕ → Mapping
mapping_by instrument start end from to =
    record { instrument = instrument; start = start; end = end; name_from = from; name_to = to }

pub mapping_one : (x y : Result (Option Mapping) Refusal) → mapping_of x ≡ mapping_of y → x ≡ y
unfolding mapping_by
mapping_one (Ok None) (Ok None) z = refl
mapping_one (Ok None) (Ok (Some m)) z = let n : ◌≡◌ {A = ℕ} 0 1 = cc in absurd (omega arith)
mapping_one (Ok None) (Err q) z = let n : number_of q ≡ 0 = cc in absurd (refused_not_done q n)
mapping_one (Ok (Some m)) (Ok None) z = let n : ◌≡◌ {A = ℕ} 0 1 = cc in absurd (omega arith)
mapping_one (Ok (Some m)) (Ok (Some k)) z =
    let e : mapping_by m.instrument m.start m.end m.name_from m.name_to ≡ mapping_by k.instrument k.start k.end k.name_from k.name_to = cc in
    ap (λ (x : Mapping). Ok (Some x)) e
mapping_one (Ok (Some m)) (Err q) z = let n : number_of q ≡ 0 = cc in absurd (refused_not_done q n)
mapping_one (Err q) (Ok None) z = let n : number_of q ≡ 0 = cc in absurd (refused_not_done q n)
mapping_one (Err q) (Ok (Some m)) z = let n : number_of q ≡ 0 = cc in absurd (refused_not_done q n)
mapping_one (Err p) (Err q) z = ap Err (refused_one p q z)

-- ---- computed: the borders of each rule

-- a record's first 16 bytes, the instrument 7 and the time 5
head : ℕ → ℕ → List ℕ
head size kind = size % 256 ∷ size / 256 ∷ kind % 256 ∷ kind / 256 ∷ 7 ∷ 0 ∷ 0 ∷ 0 ∷ 5 ∷ 0 ∷ 0 ∷ 0 ∷ 0 ∷ 0 ∷ 0 ∷ 0 ∷ []

-- no bytes; 15; lengths 15, 1,025, 17 and 16 on 16 bytes; 3 bytes behind a record
frames : (frame_at [] 0 ≡ ended) × (frame_at (take 15 (head 16 3)) 0 ≡ damaged 1) × (frame_at (head 15 3) 0 ≡ damaged 2) × (frame_at (head 1025 3) 0 ≡ damaged 2)
    × (frame_at (head 17 3) 0 ≡ damaged 3) × (frame_at (head 16 3) 0 ≡ whole 16 3 7 5) × (frame_at (head 16 3) 16 ≡ ended)
    × (frame_at (head 16 3 ++ 1 ∷ 2 ∷ 3 ∷ []) 16 ≡ damaged 1) × (frame_at (head 1024 3 ++ replicate 1008 9) 0 ≡ whole 1024 3 7 5)
unfolding frame_at field head
frames = (refl, refl, refl, refl, refl, refl, refl, refl, refl)

-- no bytes; one byte left over; another kind, 258 among them; kind 2 with 15 bytes of body, and with 16: a missing start, a missing end, an empty name
mappings : (mapped_in [] ≡ not_one 1) × (mapped_in (head 16 2 ++ 0 ∷ []) ≡ not_one 3) × (mapped_in (head 16 3) ≡ other) × (mapped_in (head 16 258) ≡ other)
    × (mapped_in (head 31 2 ++ replicate 15 0) ≡ not_one 4)
    × (mapped_in (head 32 2 ++ replicate 16 255) ≡ symbol 7 0 18446744073709551615)
unfolding mapped_in field head
mappings = (refl, refl, refl, refl, refl, refl)
