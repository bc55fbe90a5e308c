-- Laws on a replay's text: how many lines it can have, and the loop that writes it, answer by answer. Assumes nothing.
use Rattle.std.specs.Prelude.{◌≡◌, refl, ℕ, zero, suc, ◌+◌, ◌-◌, ◌*◌, ◌≤◌, ◌<◌, Bool, true, false, not, ◌||◌, length, get_or, take, drop, replicate, T, eqb, ltb}
use Rattle.std.proofs.Common.{sym, ◌∙◌, add-one, arith, length-take, length-drop, take-take, get_or-take, length-take-le}
use Rattle.std.proofs.Math.Path.{ap}
use Rattle.std.proofs.Math.Decide.{dec_lt}
use mathlib.Core.List.{List, [], ◌∷◌, ◌++◌, append_assoc, append-nil}
use Rattle.std.proofs.Math.ListN.{get_or-eq_default}
use Rattle.std.proofs.Math.Seq.{slice, drop-nil}
use Rattle.std.proofs.Math.Facts.{ltb_no}
use Rattle.theory.specs.RunsTools.{cond_case}
use Rattle.theory.specs.Fields.{field}
use Rattle.leaves.specs.Frame.{Read, whole, ended, damaged, judged, record_at, frame_at}
use Rattle.records_rules.specs.Machine.{Fits, Stream, Said, own_on, own_f, own}
use Rattle.records_rules.specs.Machine.{Status, Answer, says, end, Turn, turn, next, answer, rest, up_to, start}
use Rattle.records_rules.specs.Bytes.{bytes_of, frame_fits, streams_of}
use Rattle.records_rules.specs.Literal.{literal_run}
use Rattle.records_rules.proofs.Literal.{told_run}
use Rattle.records_rules.specs.Kept.{size, left_of, sum_by, total, TurnOk}
use Rattle.records_rules.proofs.Kept.{next_ok}
use Rattle.records_rules.specs.Whole.{run, all_from}
use Rattle.records_rules.proofs.Whole.{all_step, run_all}
use Rattle.lines.specs.Sections.{stream_at, cut_out, Cuts, Apart}
use Rattle.lines.specs.SectionsLaws.{cut_out_same, length_cut_out, get_d_cut_out}
use Rattle.lines.specs.Lines.{end_line, laid, Lays}
use Rattle.lines.specs.LinesLaws.{lays_then, lays_same}
use Rattle.replay_text.specs.Replay.{among, line_of, lines_of, text_of, replay_text, lines_left}

-- ---- how many answers streams of so many bytes can give: a record takes 16 bytes at least, and damage is said once

-- a record that stands somewhere has 16 bytes at least
abbrev Sixteen : Read → Type 0
Sixteen ended = Unit {0}
Sixteen (damaged reason) = Unit {0}
Sixteen (whole size kind instrument time) = 16 ≤ size

first_no : (x y : Bool) → T (not (x || y)) → T (not x)
first_no true y h = absurd h
first_no false y h = tt

sixteen : (s : List ℕ) (a : ℕ) → Sixteen (frame_at s a)
unfolding frame_at judged record_at
sixteen s a =
    cond_case P (eqb (length s - a) 0) _ _ (λ h. tt)
    (λ h. cond_case P (ltb (length s - a) 16) _ _ (λ h. tt)
    (λ h. cond_case P (ltb (field 2 s a) 16 || ltb 1024 (field 2 s a)) _ _ (λ h. tt)
    (λ h. cond_case P (ltb (length s - a) (field 2 s a)) _ _ (λ h. tt) (λ k. ltb_no (first_no (ltb (field 2 s a) 16) (ltb 1024 (field 2 s a)) h)))))
  where
    P : Read → Type 0
    P r = Sixteen r

own_f_few : (f : ℕ) (s : List ℕ) (a : ℕ) → 16 * length (own_f f (bytes_of s) a) ≤ length s - a + 15
unfolding own_f own_on bytes_of
own_f_few zero s a = omega arith
own_f_few (suc f) s a = go (frame_at s a) (frame_fits s a) (sixteen s a) (λ c. own_f_few f s c)
  where
    go : (r : Read) → Fits (length s) a r → Sixteen r → ((c : ℕ) → 16 * length (own_f f (bytes_of s) c) ≤ length s - c + 15)
        → 16 * length (own_on (λ c. own_f f (bytes_of s) c) a r) ≤ length s - a + 15
    go ended h k ih = omega arith
    go (damaged r) h k ih = omega arith
    go (whole l κ ι t) h k ih = omega (arith, ih (a + l), h.1)

own_few : (s : List ℕ) → 16 * length (own (bytes_of s) 0) ≤ length s + 15
unfolding own
own_few s = omega (arith, own_f_few (bytes_of s).size s 0)

-- the bytes of all streams
unfoldable pub bytes_in : List (List ℕ) → ℕ
bytes_in [] = 0
bytes_in (s ∷ ss) = length s + bytes_in ss

pub answers_few : (ss : List (List ℕ)) → 16 * total (among ss) (start (replicate (length ss) 0)) ≤ bytes_in ss + 15 * length ss
unfolding total sum_by start left_of among bytes_in
answers_few [] = omega arith
answers_few (s ∷ ss) = omega (arith, own_few s, answers_few ss)

bytes_more : (ss : List (List ℕ)) (s : List ℕ) → bytes_in (ss ++ (s ∷ [])) ≡ bytes_in ss + length s
unfolding bytes_in
bytes_more [] s = omega arith
bytes_more (x ∷ ss) s = omega (arith, bytes_more ss s)

slice_short : (f t : ℕ) (l : List ℕ) → length (slice f t l) ≤ t - f
slice_short f t l = simp (length-drop, length-take) (omega arith)

-- of streams that cuts mark: no more than up to the last cut
pub bytes_cut : (buffer cuts : List ℕ) (n : ℕ) → get_or cuts 0 0 ≡ 0 → ((p : ℕ) → p < n → get_or cuts p 0 ≤ get_or cuts (p + 1) 0)
    → bytes_in (cut_out buffer cuts n) ≤ get_or cuts n 0
unfolding cut_out bytes_in stream_at
bytes_cut buffer cuts zero first rises = omega arith
bytes_cut buffer cuts (suc n) first rises =
    let e : get_or cuts (n + 1) 0 ≡ get_or cuts (suc n) 0 = ap (λ (i : ℕ). get_or cuts i 0) (add-one n) in
    omega (
      arith,
      bytes_more (cut_out buffer cuts n) (stream_at buffer cuts n),
      slice_short (get_or cuts n 0) (get_or cuts (n + 1) 0) buffer,
      rises n (omega arith),
      bytes_cut buffer cuts n first (λ p h. rises p (omega arith)),
    )

-- ---- a run, answer by answer

-- at the start these are the lines of the run
pub left_start : (b : ℕ → Stream) (hs : List ℕ) → lines_left b (start hs) ≡ lines_of (run b hs)
unfolding lines_left
left_start b hs = ap lines_of (sym (run_all b hs))

module _ (b : ℕ → Stream) (ss ss' : List Status) where
  onward : {x : Answer} → next b ss ≡ turn x ss' → lines_left b ss ≡ lines_of (up_to x (all_from b ss'))
  unfolding lines_left answer rest
  onward e = ap lines_of (all_step b ss ∙ ap (λ (r : Turn). up_to (answer r) (all_from b (rest r))) e)

  -- an answer's line, and those to come; one answer less is to come
  pub left_says : (p : ℕ) (y : Said) → next b ss ≡ turn (says p y) ss'
      → (lines_left b ss ≡ line_of (says p y) ++ lines_left b ss') × (suc (total b ss') ≡ total b ss)
  unfolding lines_left lines_of up_to size
  left_says p y e =
      let w : TurnOk b ss (turn (says p y) ss') = rw e at (next_ok b ss) in
      (onward e, omega (arith, w.0.less))

  -- the end's line
  pub left_end : next b ss ≡ turn end ss' → lines_left b ss ≡ end_line
  unfolding lines_of up_to line_of
  left_end e = onward e ∙ append-nil end_line

-- ---- the loop that writes

-- so far: what is written, with the lines to come, is the whole, and these have room, 63 bytes a line, the last one too
pub record Writing (b : ℕ → Stream) (whole text₀ : List ℕ) (ss : List Status) (text : List ℕ) (at : ℕ) : Type 0 where
  pub done : List ℕ
  pub lays : Lays text₀ 0 done at text
  pub same : done ++ lines_left b ss ≡ whole
  pub room : at + 63 * total b ss + 63 ≤ length text₀
  pub long : length text ≡ length text₀

pub writing_start : (b : ℕ → Stream) (text : List ℕ) (ss : List Status) → 63 * total b ss + 63 ≤ length text
    → Writing b (lines_left b ss) text ss text 0
unfolding laid
writing_start b text ss h = record { done = []; lays = record { behind = refl; whole = refl }; same = refl; room = omega arith; long = refl }

module _ {b : ℕ → Stream} {whole text₀ : List ℕ} {ss : List Status} {text : List ℕ} {at : ℕ} (w : Writing b whole text₀ ss text at) where
  pub writing_says : {ss' : List Status} {p : ℕ} {y : Said} {r : ℕ} {text' : List ℕ} → next b ss ≡ turn (says p y) ss'
      → Lays text at (line_of (says p y)) r text' → r ≤ at + 63 → length text' ≡ length text → Writing b whole text₀ ss' text' r
  writing_says {ss'} {p} {y} {r} {text'} e l h k =
      let z = left_says b ss ss' p y e in
      record {
        done = w.done ++ line_of (says p y);
        lays = lays_then (omega arith) w.lays l;
        same = append_assoc w.done (line_of (says p y)) (lines_left b ss') ∙ ap (λ (x : List ℕ). w.done ++ x) (sym z.0) ∙ w.same;
        room = omega (arith, w.room, z.1);
        long = k ∙ w.long;
      }

  pub writing_end : {ss' : List Status} {r : ℕ} {text' : List ℕ} → next b ss ≡ turn end ss' → Lays text at end_line r text' → Lays text₀ 0 whole r text'
  writing_end {ss'} {r} {text'} e l =
      let z : w.done ++ end_line ≡ whole = ap (λ (x : List ℕ). w.done ++ x) (sym (left_end b ss ss' e)) ∙ w.same in
      lays_same z (lays_then (omega arith) w.lays l)

-- ---- the streams that were cut out, as the merge reads them

-- a cut is no more than the last one
cut_below : (cuts : List ℕ) (n : ℕ) → ((p : ℕ) → p < n → get_or cuts p 0 ≤ get_or cuts (p + 1) 0)
    → (k p : ℕ) → p + k ≡ n → get_or cuts p 0 ≤ get_or cuts n 0
cut_below cuts n rises zero p e = let z : p ≡ n = omega arith in rw z (omega arith)
cut_below cuts n rises (suc k) p e = omega (arith, rises p (omega arith), cut_below cuts n rises k (p + 1) (omega arith))

module _ (buffer cuts : List ℕ) (n bytes : ℕ) (c : Cuts cuts n bytes) where
  old : (p : ℕ) → p ≤ n → get_or (take (n + 1) cuts) p 0 ≡ get_or cuts p 0
  old p h = get_or-take (n + 1) cuts p 0 (omega arith)

  -- the buffer and the cuts may be cut down to what is in use
  pub cut_down : cut_out (take bytes buffer) (take (n + 1) cuts) n ≡ cut_out buffer cuts n
  unfolding stream_at
  cut_down = cut_out_same n buffer (take bytes buffer) cuts (take (n + 1) cuts) (λ p h.
      rw (old p (omega arith), old (p + 1) (omega arith))
      (ap (drop (get_or cuts p 0)) (take-take (get_or cuts (p + 1) 0) bytes buffer (omega (arith, c.last, cut_below cuts n c.rises (n - (p + 1)) (p + 1) (omega arith))))))

  pub cs_cuts : Cuts (take (n + 1) cuts) n bytes
  cs_cuts = record {
    first = old 0 (omega arith) ∙ c.first;
    last = old n (omega arith) ∙ c.last;
    rises = λ p h. rw (old p (omega arith), old (p + 1) (omega arith)) (c.rises p h);
  }

-- cuts of n streams, and no more: the merge's streams are those that are cut out
pub among_cuts : (buffer cs : List ℕ) (n : ℕ) → length cs ≡ n + 1 → among (cut_out buffer cs n) ≡ streams_of buffer cs
unfolding among streams_of stream_at
among_cuts buffer cs n e = λ i p. same p (dec_lt p n) i
  where
    same : (p : ℕ) → Dec (p < n) → bytes_of (get_or (cut_out buffer cs n) p []) ≡ bytes_of (slice (get_or cs p 0) (get_or cs (p + 1) 0) buffer)
    same p (yes h) = ap bytes_of (get_d_cut_out buffer cs n p h)
    same p (no d) =
        let z : get_or cs (p + 1) 0 ≡ 0 = get_or-eq_default cs 0 (omega arith) in
        let f : slice (get_or cs p 0) (get_or cs (p + 1) 0) buffer ≡ [] = rw z (drop-nil (get_or cs p 0)) in
        ap bytes_of (get_or-eq_default (cut_out buffer cs n) [] (omega (arith, length_cut_out buffer cs n)) ∙ sym f)

-- the text of a bundle that was taken apart
pub apart_text : (bundle buffer cuts : List ℕ) (n bytes : ℕ) → (a : Apart bundle buffer cuts n bytes) → n + 1 ≤ length cuts
    → replay_text bundle ≡ lines_left (streams_of (take bytes buffer) (take (n + 1) cuts)) (start (replicate n 0))
unfolding replay_text text_of
apart_text bundle buffer cuts n bytes a h =
    let b = take bytes buffer in
    let c = take (n + 1) cuts in
    ap text_of a.streams
    ∙ ap (λ (ss : List (List ℕ)). lines_of (literal_run (among ss) (replicate (length ss) 0))) (sym (cut_down buffer cuts n bytes a.cut))
    ∙ ap (λ (k : ℕ). lines_of (literal_run (among (cut_out b c n)) (replicate k 0))) (length_cut_out b c n)
    ∙ ap (λ (f : ℕ → Stream). lines_of (literal_run f (replicate n 0))) (among_cuts b c n (length-take-le (n + 1) cuts h))
    ∙ ap lines_of (told_run (streams_of b c) (replicate n 0))
    ∙ sym (left_start (streams_of b c) (replicate n 0))

-- and it fits: 60,000 / 16 records, 256 damage reports and the end, 63 bytes each
pub apart_room : (bundle buffer cuts : List ℕ) (n bytes : ℕ) → (a : Apart bundle buffer cuts n bytes) → n + 1 ≤ length cuts
    → 63 * total (streams_of (take bytes buffer) (take (n + 1) cuts)) (start (replicate n 0)) + 63 ≤ 252441
apart_room bundle buffer cuts n bytes a h =
    let b = take bytes buffer in
    let c = take (n + 1) cuts in
    let k = cs_cuts buffer cuts n bytes a.cut in
    let f = answers_few (cut_out b c n) in
    let l : length (cut_out b c n) ≡ n = length_cut_out b c n in
    let g : 16 * total (among (cut_out b c n)) (start (replicate n 0)) ≤ bytes_in (cut_out b c n) + 15 * n = rw l at f in
    let w : 16 * total (streams_of b c) (start (replicate n 0)) ≤ bytes_in (cut_out b c n) + 15 * n = rw (among_cuts b c n (length-take-le (n + 1) cuts h)) at g in
    omega (arith, bytes_cut b c n k.first k.rises, k.last, a.few, a.fits)
