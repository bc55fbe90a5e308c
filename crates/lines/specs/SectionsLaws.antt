-- Laws on sections: the equation without a count, and the loop that takes a bundle apart, turn by turn.
-- Assumes nothing.
use Rattle.std.specs.Prelude.{Some, None, ◌≡◌, refl, ℕ, zero, suc, ◌+◌, ◌-◌, ◌*◌, ◌≤◌, ◌<◌, Bool, true, false, ◌&&◌, cond, length, leb, eqb}
use Rattle.std.proofs.Math.Path.{sym, ap, ap₂}
use Rattle.std.proofs.Common.{◌∙◌, zero-le, add-one, arith}
use Rattle.std.proofs.Math.Nat.{sub-zero}
use Rattle.std.proofs.Math.Decide.{ℕ_discrete}
use Rattle.std.proofs.Math.Option.{Option, none, some}
use mathlib.Core.List.{List, [], ◌∷◌, ◌++◌, append_assoc, append-nil}
use Rattle.std.proofs.Math.ListN.{get_or, set, take, drop, length-append, length-drop, get_or-append}
use Rattle.std.proofs.Math.Seq.{slice, paste, take-nil, drop-drop, drop_at, take-append-le, length-take-le, take-take, get_or-set_same, get_or-set_other, get_or-append_seam}
use Rattle.std.proofs.lemmas.List.Edits.{take-paste, length-paste}
use Rattle.std.proofs.lemmas.Slice.{put_mid-paste}
use borrow.Rule.Slice.PartMut.{put_mid}
use borrow.Author.Tests.{le-leb, lt-leb, eq-eqb, ne_eqb}
use Rattle.lines.specs.Parts.{size_of, is_part, part_size, part_yes, Sized, rest_from, none_at, some_at}
use Rattle.lines.specs.Sections.{stream_of, ahead, sections_f, sections, few, streams_in, stream_at, cut_out, Cuts, Apart}

-- ---- sections, with no count

same : (f g : ℕ) (s : List ℕ) → length s < f → length s < g → sections_f f s ≡ sections_f g s
unfolding sections_f
same zero g s h k = absurd (omega arith)
same (suc f) zero s h k = absurd (omega arith)
same (suc f) (suc g) s h k = go (eqb (length s) 0) (is_part 1 s) refl (λ i j. same f g (drop (size_of s) s) i j)
  where
    go : (a b : Bool) → is_part 1 s ≡ b
        → (length (drop (size_of s) s) < f → length (drop (size_of s) s) < g → sections_f f (drop (size_of s) s) ≡ sections_f g (drop (size_of s) s))
        → cond a (some []) (cond b (ahead (stream_of s ∷ []) (sections_f f (drop (size_of s) s))) none)
        ≡ cond a (some []) (cond b (ahead (stream_of s ∷ []) (sections_f g (drop (size_of s) s))) none)
    go true b w ih = refl
    go false false w ih = refl
    go false true w ih =
        let p = part_yes 1 s w in
        ap (ahead (stream_of s ∷ [])) (ih (simp length-drop (omega (arith, p.size, p.head))) (simp length-drop (omega (arith, p.size, p.head))))

-- no bytes, no sections; bytes that begin with no section can't be taken apart; else one stream, and the rest's
pub sections_end : (s : List ℕ) → length s ≡ 0 → sections s ≡ some []
unfolding sections sections_f
sections_end s e = rw (eq-eqb (length s) 0 e)

pub sections_bad : (s : List ℕ) → 0 < length s → is_part 1 s ≡ false → sections s ≡ none
unfolding sections sections_f
sections_bad s h w = rw (ne_eqb (length s) 0 (λ e. omega arith), w)

pub sections_more : (s : List ℕ) → 0 < length s → is_part 1 s ≡ true → sections s ≡ ahead (stream_of s ∷ []) (sections (drop (size_of s) s))
unfolding sections sections_f
sections_more s h w =
    let p = part_yes 1 s w in
    let l : length (drop (size_of s) s) < length s = simp length-drop (omega (arith, p.size, p.head)) in
    rw (ne_eqb (length s) 0 (λ e. omega arith), w)
    (ap (ahead (stream_of s ∷ [])) (same (length s) (suc (length (drop (size_of s) s))) (drop (size_of s) s) l (omega arith)))

pub ahead_join : (xs ys : List (List ℕ)) (o : Option (List (List ℕ))) → ahead xs (ahead ys o) ≡ ahead (xs ++ ys) o
unfolding ahead
ahead_join xs ys none = refl
ahead_join xs ys (some zs) = ap some (sym (append_assoc xs ys zs))

-- ---- streams cut out of a buffer

pub slice_take : (f t : ℕ) (l : List ℕ) → f ≤ t → slice f t l ≡ take (t - f) (drop f l)
slice_take zero t l h = ap (λ (n : ℕ). take n l) (sym (sub-zero t))
slice_take (suc f) zero l h = absurd (omega arith)
slice_take (suc f) (suc t) [] h = sym (take-nil (suc t - suc f))
slice_take (suc f) (suc t) (x ∷ l) h =
    let e : t - f ≡ suc t - suc f = omega arith in
    slice_take f t l (omega arith) ∙ ap (λ (n : ℕ). take n (drop f l)) e

pub length_cut_out : (b cs : List ℕ) (n : ℕ) → length (cut_out b cs n) ≡ n
unfolding cut_out
length_cut_out b cs zero = refl
length_cut_out b cs (suc n) = length-append (cut_out b cs n) (stream_at b cs n ∷ []) ∙ omega (arith, length_cut_out b cs n)

pub get_d_cut_out : (b cs : List ℕ) (n p : ℕ) → p < n → get_or (cut_out b cs n) p [] ≡ stream_at b cs p
unfolding cut_out
get_d_cut_out b cs zero p h = absurd (omega arith)
get_d_cut_out b cs (suc n) p h = go (ℕ_discrete p n) (λ k. get_d_cut_out b cs n p k)
  where
    go : Dec (p ≡ n) → (p < n → get_or (cut_out b cs n) p [] ≡ stream_at b cs p) → get_or (cut_out b cs n ++ (stream_at b cs n ∷ [])) p [] ≡ stream_at b cs p
    go (yes e) ih =
        ap (λ (i : ℕ). get_or (cut_out b cs n ++ (stream_at b cs n ∷ [])) i []) (e ∙ sym (length_cut_out b cs n))
        ∙ get_or-append_seam (cut_out b cs n) (stream_at b cs n) [] []
        ∙ ap (stream_at b cs) (sym e)
    go (no d) ih =
        let l : p < n = omega arith in
        get_or-append (cut_out b cs n) (stream_at b cs n ∷ []) [] p (omega (arith, length_cut_out b cs n)) ∙ ih l

pub cut_out_same : (n : ℕ) (b b' cs cs' : List ℕ) → ((p : ℕ) → p < n → stream_at b' cs' p ≡ stream_at b cs p) → cut_out b' cs' n ≡ cut_out b cs n
unfolding cut_out
cut_out_same zero b b' cs cs' h = refl
cut_out_same (suc n) b b' cs cs' h =
    ap₂ (λ (xs : List (List ℕ)) (x : List ℕ). xs ++ (x ∷ [])) (cut_out_same n b b' cs cs' (λ p k. h p (omega arith))) (h n (omega arith))

-- ---- the loop that takes a bundle apart

-- so far: `at` bytes of the bundle are read, `bytes` laid in the buffer, `count` streams cut; the rest decides the rest
pub record Taking (bundle buffer cuts : List ℕ) (at bytes count : ℕ) : Type 0 where
  pub within : at ≤ length bundle
  pub laid : bytes + 6 * count ≡ at
  pub few : count ≤ 256
  pub cut : Cuts cuts count bytes
  pub below : (p : ℕ) → p ≤ count → get_or cuts p 0 ≤ bytes
  pub same : sections bundle ≡ ahead (cut_out buffer cuts count) (sections (drop at bundle))

pub taking_start : (bundle buffer cuts : List ℕ) → get_or cuts 0 0 ≡ 0 → Taking bundle buffer cuts 0 0 0
unfolding cut_out ahead
taking_start bundle buffer cuts e = record {
  within = zero-le;
  laid = omega arith;
  few = zero-le;
  cut = record { first = e; last = e; rises = λ p h. absurd (omega arith) };
  below = λ p h. let z : p ≡ 0 = omega arith in rw z (omega arith);
  same = go (sections bundle);
}
  where
    go : (o : Option (List (List ℕ))) → o ≡ ahead [] o
    go none = refl
    go (some xs) = refl

module _ {bundle buffer cuts : List ℕ} {at bytes count size : ℕ} (t : Taking bundle buffer cuts at bytes count)
    (more : at < length bundle) (z : Sized 1 (drop at bundle) size) (small : length bundle ≤ 60000)
    (room : 60000 ≤ length buffer) (places : 257 ≤ length cuts) (below : (count ≡ 256) → ⊥) where
  rest : List ℕ
  rest = drop (at + 6) bundle

  k : ℕ
  k = size - 6

  buffer' : List ℕ
  unfolding rest k
  buffer' = paste buffer bytes rest k

  cuts' : List ℕ
  unfolding k
  cuts' = set cuts (count + 1) (bytes + k)

  left : length (drop at bundle) ≡ length bundle - at
  left = length-drop at bundle

  whole_size : (6 ≤ size) × (at + size ≤ length bundle)
  whole_size = (omega (arith, z.part.size, z.size), omega (arith, z.part.ends, z.size, left))

  long : k ≤ length rest
  unfolding rest k
  long = simp length-drop (omega (arith, whole_size))

  fits : bytes ≤ length buffer
  fits = omega (arith, t.laid, t.within)

  old_cut : (p : ℕ) → p ≤ count → get_or cuts' p 0 ≡ get_or cuts p 0
  unfolding cuts'
  old_cut p h = get_or-set_other cuts (count + 1) p (bytes + k) 0 (λ e. omega arith)

  new_cut : get_or cuts' (count + 1) 0 ≡ bytes + k
  unfolding cuts'
  new_cut = get_or-set_same cuts (count + 1) (bytes + k) 0 (omega (arith, t.few, places))

  old_stream : (p : ℕ) → p < count → stream_at buffer' cuts' p ≡ stream_at buffer cuts p
  unfolding stream_at buffer'
  old_stream p h =
      let e0 : get_or cuts' p 0 ≡ get_or cuts p 0 = old_cut p (omega arith) in
      let e1 : get_or cuts' (p + 1) 0 ≡ get_or cuts (p + 1) 0 = old_cut (p + 1) (omega arith) in
      let b1 : get_or cuts (p + 1) 0 ≤ bytes = t.below (p + 1) (omega arith) in
      let c = get_or cuts (p + 1) 0 in
      rw (e0, e1) (ap (drop (get_or cuts p 0)) (
      take-append-le c (take bytes buffer ++ take k rest) (drop (bytes + k) buffer) (omega (arith, length-append (take bytes buffer) (take k rest), length-take-le bytes buffer fits))
      ∙ take-append-le c (take bytes buffer) (take k rest) (omega (arith, length-take-le bytes buffer fits))
      ∙ take-take c bytes buffer b1
      ))

  new_stream : stream_at buffer' cuts' count ≡ stream_of (drop at bundle)
  unfolding stream_at stream_of buffer' rest k
  new_stream =
      let e0 : get_or cuts' count 0 ≡ bytes = old_cut count (omega arith) ∙ t.cut.last in
      rw (e0, new_cut) (
      ap (drop bytes) (take-paste buffer bytes rest k fits long)
      ∙ drop_at (take bytes buffer) (take k rest) bytes (length-take-le bytes buffer fits)
      ∙ ap (take k) (sym (drop-drop 6 at bundle))
      ∙ ap (λ (n : ℕ). take (n - 6) (drop 6 (drop at bundle))) z.size
      ∙ sym (slice_take 6 (size_of (drop at bundle)) (drop at bundle) z.part.size)
      )

  pub taking_turn : Taking bundle (paste buffer bytes (drop (at + 6) bundle) (size - 6)) (set cuts (count + 1) (bytes + (size - 6))) (at + size) (bytes + (size - 6)) (count + 1)
  unfolding buffer' cuts' rest k cut_out
  taking_turn = record {
    within = whole_size.1;
    laid = omega (arith, t.laid, whole_size.0);
    few = omega (arith, t.few);
    cut = record {
      first = old_cut 0 (omega arith) ∙ t.cut.first;
      last = new_cut;
      rises = λ p h. rise p h (ℕ_discrete p count);
    };
    below = λ p h. low p h (ℕ_discrete p (count + 1));
    same =
        t.same
        ∙ ap (ahead (cut_out buffer cuts count)) (
        sections_more (drop at bundle) (omega (arith, left)) z.stands
        ∙ ap (λ (s : List ℕ). ahead (stream_of (drop at bundle) ∷ []) (sections s)) (ap (λ (n : ℕ). drop n (drop at bundle)) (sym z.size) ∙ drop-drop size at bundle)
        )
        ∙ ahead_join (cut_out buffer cuts count) (stream_of (drop at bundle) ∷ []) (sections (drop (at + size) bundle))
        ∙ ap (λ (xs : List (List ℕ)). ahead xs (sections (drop (at + size) bundle))) (sym (cuts_more ∙ ap₂ (λ (xs : List (List ℕ)) (x : List ℕ). xs ++ (x ∷ [])) (cut_out_same count buffer buffer' cuts cuts' old_stream) new_stream));
  }
    where
      cuts_more : cut_out buffer' cuts' (count + 1) ≡ cut_out buffer' cuts' count ++ (stream_at buffer' cuts' count ∷ [])
      cuts_more = ap (cut_out buffer' cuts') (add-one count)

      rise : (p : ℕ) → p < count + 1 → Dec (p ≡ count) → get_or cuts' p 0 ≤ get_or cuts' (p + 1) 0
      rise p h (yes e) = rw e (omega (arith, old_cut count (omega arith), t.cut.last, new_cut))
      rise p h (no d) = omega (arith, old_cut p (omega arith), old_cut (p + 1) (omega arith), t.cut.rises p (omega arith))

      low : (p : ℕ) → p ≤ count + 1 → Dec (p ≡ count + 1) → get_or cuts' p 0 ≤ bytes + k
      low p h (yes e) = rw e (omega (arith, new_cut))
      low p h (no d) = omega (arith, old_cut p (omega arith), t.below p (omega arith))

-- a section's content laid behind what the buffer has
module _ (buffer bundle : List ℕ) (at bytes size : ℕ) {ys : List ℕ} (h : 6 ≤ size) (l : at + size ≤ length bundle)
    (f : ys ≡ take (at + size - (at + 6)) (drop (at + 6) bundle)) where
  content : List ℕ
  content = drop (at + 6) bundle

  content_long : size - 6 ≤ length content
  unfolding content
  content_long = omega (arith, length-drop (at + 6) bundle)

  pub laid_part : put_mid bytes (bytes + size - 6 - bytes) buffer ys ≡ paste buffer bytes (drop (at + 6) bundle) (size - 6)
  unfolding content
  laid_part =
      let n : at + size - (at + 6) ≡ size - 6 = omega arith in
      put_mid-paste bytes (bytes + size - 6 - bytes) buffer ys (take (size - 6) content) (size - 6) (f ∙ ap (λ (j : ℕ). take j content) n) (omega arith)
      (sym (length-take-le (size - 6) content content_long))
      ∙ ap (λ (xs : List ℕ). take bytes buffer ++ xs ++ drop (bytes + (size - 6)) buffer) (take-take (size - 6) (size - 6) content (omega arith))

  pub part_kept : bytes + (size - 6) ≤ length buffer → length (put_mid bytes (bytes + size - 6 - bytes) buffer ys) ≡ length buffer
  unfolding content
  part_kept r = ap length laid_part ∙ length-paste buffer bytes content (size - 6) r content_long

-- ---- how the loop ends

few_bad : (xs : List (List ℕ)) (o : Option (List (List ℕ))) → ((ys : List (List ℕ)) → o ≡ some ys → 256 < length (xs ++ ys)) → few (ahead xs o) ≡ none
unfolding few ahead
few_bad xs none h = refl
few_bad xs (some ys) h = rw (lt-leb (length (xs ++ ys)) 256 (h ys refl)) (go (leb 1 (length (xs ++ ys))))
  where
    go : (b : Bool) → cond (b && false) (some (xs ++ ys)) none ≡ none
    go true = refl
    go false = refl

sections_some : (s : List ℕ) → 0 < length s → (ys : List (List ℕ)) → sections s ≡ some ys → 0 < length ys
unfolding ahead
sections_some s h ys e = go (is_part 1 s) refl
  where
    one : (o : Option (List (List ℕ))) → ahead (stream_of s ∷ []) o ≡ some ys → 0 < length ys
    one none e' = let z : ◌≡◌ {A = ℕ} 0 1 = cc in absurd (omega arith)
    one (some zs) e' = let f : stream_of s ∷ zs ≡ ys = cc in rw (← f) (omega arith)

    go : (b : Bool) → is_part 1 s ≡ b → 0 < length ys
    go true w = one (sections (drop (size_of s) s)) (sym (sections_more s h w) ∙ e)
    go false w = let n : none ≡ some ys = sym (sections_bad s h w) ∙ e in let z : ◌≡◌ {A = ℕ} 0 1 = cc in absurd (omega arith)

-- too many bytes
pub bad_long : (b : List ℕ) → 60000 < length b → streams_in b ≡ none
unfolding streams_in
bad_long b h = rw (lt-leb (length b) 60000 h)

module _ {bundle buffer cuts : List ℕ} {at bytes count : ℕ} (t : Taking bundle buffer cuts at bytes count) (small : length bundle ≤ 60000) where
  judged : streams_in bundle ≡ few (ahead (cut_out buffer cuts count) (sections (drop at bundle)))
  unfolding streams_in
  judged = rw (le-leb (length bundle) 60000 small) (ap few t.same)

  -- a section after the 256th
  pub bad_many : at < length bundle → count ≡ 256 → streams_in bundle ≡ none
  bad_many more e =
      judged
      ∙ few_bad (cut_out buffer cuts count) (sections (drop at bundle))
      (λ ys f. omega (
        arith,
        length-append (cut_out buffer cuts count) ys,
        length_cut_out buffer cuts count,
        sections_some (drop at bundle) (omega (arith, length-drop at bundle)) ys f,
      ))

  -- no section where one should stand
  pub bad_section : at < length bundle → None ≡ part_size 1 (rest_from bundle at) → streams_in bundle ≡ none
  unfolding few ahead
  bad_section more e =
      judged ∙ ap (λ (o : Option (List (List ℕ))). few (ahead (cut_out buffer cuts count) o)) (sections_bad (drop at bundle) (omega (arith, length-drop at bundle)) (none_at 1 bundle at e))

  ended : length bundle ≤ at → streams_in bundle ≡ few (some (cut_out buffer cuts count))
  unfolding ahead
  ended done =
      judged
      ∙ ap (λ (o : Option (List (List ℕ))). few (ahead (cut_out buffer cuts count) o)) (sections_end (drop at bundle) (omega (arith, length-drop at bundle)))
      ∙ ap (λ (xs : List (List ℕ)). few (some xs)) (append-nil (cut_out buffer cuts count))

  -- no section at all
  pub bad_none : length bundle ≤ at → count ≡ 0 → streams_in bundle ≡ none
  unfolding few
  bad_none done e = ended done ∙ rw (length_cut_out buffer cuts count, e)

  pub apart : length bundle ≤ at → (count ≡ 0 → ⊥) → Apart bundle buffer cuts count bytes
  unfolding few
  apart done d = record {
    streams = ended done ∙ rw (length_cut_out buffer cuts count, le-leb 1 count (omega arith), le-leb count 256 t.few);
    cut = t.cut;
    some = omega arith;
    few = t.few;
    fits = omega (arith, t.laid, t.within);
  }
