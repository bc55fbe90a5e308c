-- Bytes of a stream laid at the front of its part of the window, and then those of a portion. Assumes nothing.
use Rattle.std.specs.Prelude.{◌≡◌, ℕ, ◌+◌, ◌-◌, ◌*◌, ◌/◌, ◌%◌, ◌<◌, ◌≤◌, List, ◌++◌, length, get_or, take, drop}
use Rattle.std.proofs.Common.{sym, ap, ◌∙◌, arith, append_assoc, length-drop, length-append, take-append-drop, length-take-le, take-add, drop_at, get_or-take, get_or-drop, ext_get_or}
use Rattle.std.proofs.Math.Decide.{dec_lt}
use Rattle.std.proofs.Math.ListN.{get_or-append}
use Rattle.std.proofs.Math.Seq.{slice, paste, length-slice}
use Rattle.std.proofs.lemmas.List.Edits.{length-paste, take-paste, drop-paste}
use Rattle.feed_rules.specs.Spans.{bytes_in}
use Rattle.feed_rules.specs.Portions.{slice_is}
use Rattle.feed_rules.specs.Adding.{laid_window}

pub paste_other : (d : List ℕ) (at : ℕ) (s : List ℕ) (n i : ℕ) → at + n ≤ length d → n ≤ length s → (at ≤ i → i < at + n → ⊥)
    → get_or (paste d at s n) i 0 ≡ get_or d i 0
paste_other d at s n i hd hs out = go (dec_lt i at)
  where
    front : length (take at d) ≡ at
    front = length-take-le at d (omega arith)

    go : Dec (i < at) → get_or (paste d at s n) i 0 ≡ get_or d i 0
    go (yes h) =
        get_or-append (take at d ++ take n s) (drop (at + n) d) 0 i (omega (arith, length-append (take at d) (take n s), front))
        ∙ get_or-append (take at d) (take n s) 0 i (omega (arith, front))
        ∙ get_or-take at d i 0 h
    go (no h) =
        let k : at + n ≤ i = above (dec_lt i (at + n)) (omega (arith, h)) in
        let e : at + n + (i - (at + n)) ≡ i = omega arith in
        ap (λ (j : ℕ). get_or (paste d at s n) j 0) (sym e)
        ∙ sym (get_or-drop (at + n) (paste d at s n) (i - (at + n)) 0)
        ∙ ap (λ (l : List ℕ). get_or l (i - (at + n)) 0) (drop-paste d at s n (omega arith) hs)
        ∙ get_or-drop (at + n) d (i - (at + n)) 0
        ∙ ap (λ (j : ℕ). get_or d j 0) e
      where
        above : Dec (i < at + n) → at ≤ i → at + n ≤ i
        above (yes l) m = absurd (out m l)
        above (no l) m = omega (arith, l)

-- bytes laid where they stand
pub paste_self : (d : List ℕ) (at start n : ℕ) → start ≡ 0 → d ≡ paste d at (drop (at + start) d) n
paste_self d at start n e =
    let z : at + start ≡ at = omega arith in
    sym (take-append-drop (at + n) d)
    ∙ ap (λ (l : List ℕ). l ++ drop (at + n) d) (take-add at n d)
    ∙ ap (λ (k : ℕ). paste d at (drop k d) n) (sym z)

pub slice_same : (f t : ℕ) (w w' : List ℕ) → length w' ≡ length w → t ≤ length w → ((i : ℕ) → f ≤ i → i < t → get_or w' i 0 ≡ get_or w i 0)
    → slice f t w' ≡ slice f t w
slice_same f t w w' e h k =
    ext_get_or 0 (slice f t w') (slice f t w) (length-slice f t w' (omega arith) ∙ sym (length-slice f t w h))
    (λ i l.
    let b : f + i < t = omega (arith, length-slice f t w' (omega arith)) in
    get_or-drop f (take t w') i 0 ∙ get_or-take t w' (f + i) 0 b ∙ k (f + i) (omega arith) b ∙ sym (get_or-take t w (f + i) 0 b)
    ∙ sym (get_or-drop f (take t w) i 0))

module _ (window : List ℕ) (p s : ℕ) (xs : List ℕ) (k : ℕ) (long : length window ≡ 262144) (hp : p < 256)
    (short : s % 65536 + s / 65536 % 65536 ≤ 1024) (room : s / 65536 % 65536 + k ≤ 1024) (enough : k ≤ length xs) where
  abbrev f : ℕ
  f = 1024 * p

  abbrev moved : List ℕ
  moved = paste window f (drop (f + s % 65536) window) (s / 65536 % 65536)

  tail : s / 65536 % 65536 ≤ length (drop (f + s % 65536) window)
  tail = omega (arith, length-drop (f + s % 65536) window)

  length_moved : length moved ≡ 262144
  length_moved = length-paste window f (drop (f + s % 65536) window) (s / 65536 % 65536) (omega arith) tail ∙ long

  pub length_laid : length (laid_window window p s xs k) ≡ length window
  length_laid = length-paste moved (f + s / 65536 % 65536) xs k (omega (arith, length_moved)) enough ∙ length_moved ∙ sym long

  -- every byte but those kept then is as it was
  pub laid_other : (i : ℕ) → (f ≤ i → i < f + (s / 65536 % 65536 + k) → ⊥) → get_or (laid_window window p s xs k) i 0 ≡ get_or window i 0
  laid_other i out =
      paste_other moved (f + s / 65536 % 65536) xs k i (omega (arith, length_moved)) enough (λ l u. out (omega arith) (omega arith))
      ∙ paste_other window f (drop (f + s % 65536) window) (s / 65536 % 65536) i (omega arith) tail (λ l u. out l (omega arith))

  pub laid_bytes : slice f (f + (s / 65536 % 65536 + k)) (laid_window window p s xs k) ≡ bytes_in window p s ++ take k xs
  laid_bytes =
      let n = s / 65536 % 65536 in
      let A : List ℕ = take n (drop (f + s % 65536) window) in
      let B : List ℕ = take k xs in
      let e : f + (n + k) ≡ f + n + k = omega arith in
      ap (λ (t : ℕ). drop f (take t (laid_window window p s xs k))) e
      ∙ ap (drop f) (take-paste moved (f + n) xs k (omega (arith, length_moved)) enough)
      ∙ ap (λ (l : List ℕ). drop f (l ++ B)) (take-paste window f (drop (f + s % 65536) window) n (omega arith) tail)
      ∙ ap (drop f) (append_assoc (take f window) A B)
      ∙ drop_at (take f window) (A ++ B) f (length-take-le f window (omega arith))
      ∙ ap (λ (l : List ℕ). l ++ B) (sym (slice_is (f + s % 65536) n window))

-- a span at the front of its part
pub fresh_span : (n : ℕ) → n ≤ 1024 → (65536 * n % 65536 ≡ 0) × (65536 * n / 65536 % 65536 ≡ n) × (65536 * n / 4294967296 ≡ 0)
fresh_span n h =
    let e : 65536 * n / 65536 ≡ n = omega arith in
    (omega arith, rw e (omega arith), omega arith)
