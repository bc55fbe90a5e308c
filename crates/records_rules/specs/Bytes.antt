-- Bytes as a stream: what stands at each of their places is a frame. Streams in one buffer are its parts between the cuts. Assumes nothing.
use Rattle.std.specs.Prelude.{◌≡◌, refl, ◌≢◌, ℕ, ◌+◌, ◌-◌, ◌≤◌, Bool, true, false, not, ◌||◌, List, length, get_or, T, eqb, ltb}
use Rattle.std.proofs.Common.{arith, length-take, length-drop}
use Rattle.std.proofs.Math.Seq.{slice}
use Rattle.std.proofs.Math.Facts.{ltb_no, eqb_yes, eqb_no}
use Rattle.theory.specs.RunsTools.{cond_case}
use Rattle.theory.specs.Fields.{field}
use Rattle.leaves.specs.Frame.{Read, whole, judged, record_at, frame_at}
use Rattle.records_rules.specs.Machine.{Fits, Stream}

pub neither : (x y : Bool) → T (not (x || y)) → T (not x) × T (not y)
neither true y h = absurd h
neither false true h = absurd h
neither false false h = (tt, tt)

judged_fits : (n a size kind instrument time : ℕ) → Fits n a (judged (n - a) size (whole size kind instrument time))
unfolding judged
judged_fits n a size kind instrument time =
    cond_case P (eqb (n - a) 0) _ _ (λ h. let e : n - a ≡ 0 = eqb_yes h in omega arith)
    (λ h. let e : n - a ≢ 0 = eqb_no h in
    cond_case P (ltb (n - a) 16) _ _ (λ h. omega arith)
    (λ h. cond_case P (ltb size 16 || ltb 1024 size) _ _ (λ h. omega arith)
    (λ h₁. cond_case P (ltb (n - a) size) _ _ (λ h. omega arith)
    (λ h₂. let l : 16 ≤ size = ltb_no (neither (ltb size 16) (ltb 1024 size) h₁).0 in let k : size ≤ n - a = ltb_no h₂ in (omega arith, omega arith)))))
  where
    P : Read → Type 0
    P r = Fits n a r

pub frame_fits : (s : List ℕ) (a : ℕ) → Fits (length s) a (frame_at s a)
unfolding frame_at record_at
frame_fits s a = judged_fits (length s) a (field 2 s a) (field 2 s (a + 2)) (field 4 s (a + 4)) (field 8 s (a + 8))

-- a stream's bytes
unfoldable pub bytes_of : List ℕ → Stream
bytes_of s = record { size = length s; read = frame_at s; fits = frame_fits s }

-- the streams of a buffer: stream p is its part from cut p to the next one
unfoldable pub streams_of : List ℕ → List ℕ → ℕ → Stream
unfolding bytes_of
streams_of buffer cuts p = bytes_of (slice (get_or cuts p 0) (get_or cuts (p + 1) 0) buffer)

pub stream_short : (buffer cuts : List ℕ) (p : ℕ) → (streams_of buffer cuts p).size ≤ length buffer
unfolding streams_of bytes_of
stream_short buffer cuts p = simp (length-drop, length-take) (omega arith)

pub stream_read : (buffer cuts : List ℕ) (p a : ℕ) → (streams_of buffer cuts p).read a ≡ frame_at (slice (get_or cuts p 0) (get_or cuts (p + 1) 0) buffer) a
unfolding streams_of bytes_of
stream_read buffer cuts p a = refl
