-- Laws of spans: dropping a span's first bytes is dropping what is kept; a read of the window is what is known. Assumes nothing.
use Rattle.std.specs.Prelude.{◌≡◌, ℕ, ◌+◌, ◌-◌, ◌<◌, Bool, true, cond, ◌||◌, List, length, eqb}
use Rattle.std.proofs.Math.Path.{refl}
use Rattle.std.proofs.Common.{◌∙◌, arith}
use Rattle.std.proofs.Math.Bool.{false}
use Rattle.std.proofs.Math.Option.{Option, none, some}
use Rattle.std.proofs.Math.Dec.{ltb}
use Rattle.std.proofs.Math.Facts.{ltb_yes, eqb_yes}
use borrow.Author.Tests.{lt-ltb}
use Rattle.theory.specs.RunsTools.{cond_case}
use Rattle.theory.specs.Bools.{T_true, T_false}
use Rattle.theory.specs.Fields.{field}
use Rattle.leaves.specs.Frame.{Read, whole, ended, damaged, judged, record_at, frame_at}
use Rattle.feed_rules.specs.Partial.{part, so_far, known_at}
use Rattle.feed_rules.specs.Spans.{settled}

-- ---- a read

-- what is known of a stream that has not been ended, from what a read of its bytes finds
known_of : Read → Option Read
known_of ended = none
known_of (damaged r) = cond (eqb r 2) (some (damaged r)) none
known_of (whole l κ ι t) = some (whole l κ ι t)

known_judged : (left size l κ ι t : ℕ) → so_far left size (whole l κ ι t) ≡ known_of (judged left size (whole l κ ι t))
unfolding so_far judged known_of
known_judged left size l κ ι t =
    cond_case P (eqb left 0) ended _ (λ h. let e : left ≡ 0 = eqb_yes h in short (omega arith))
    (λ h. cond_case P (ltb left 16) (damaged 1) _ (λ h₁. short (ltb_yes h₁))
    (λ h₁. cond_case P (ltb size 16 || ltb 1024 size) (damaged 2) _
    (λ h₂. rw (T_false (ltb left 16) h₁, T_true (ltb size 16 || ltb 1024 size) h₂) refl)
    (λ h₂. cond_case P (ltb left size) (damaged 3) (whole l κ ι t)
    (λ h₃. rw (T_false (ltb left 16) h₁, T_false (ltb size 16 || ltb 1024 size) h₂, T_true (ltb left size) h₃) refl)
    (λ h₃. rw (T_false (ltb left 16) h₁, T_false (ltb size 16 || ltb 1024 size) h₂, T_false (ltb left size) h₃) refl))))
  where
    P : Read → Type 0
    P r = so_far left size (whole l κ ι t) ≡ known_of r

    short : left < 16 → so_far left size (whole l κ ι t) ≡ none
    short h = let e : ltb left 16 ≡ true = lt-ltb left 16 h in rw e refl

known_frame : (bs : List ℕ) (o : Bool) → known_at (part bs o) 0 ≡ cond o (some (frame_at bs 0)) (known_of (frame_at bs 0))
unfolding known_at frame_at record_at
known_frame bs true = refl
known_frame bs false = known_judged (length bs - 0) (field 2 bs 0) (field 2 bs 0) (field 2 bs (0 + 2)) (field 4 bs (0 + 4)) (field 8 bs (0 + 8))

-- a read of the bytes is what is known of them
pub known_read : (bs : List ℕ) (over : Bool) → known_at (part bs over) 0 ≡ cond (settled over (frame_at bs 0)) (some (frame_at bs 0)) none
unfolding settled known_of
known_read bs over = known_frame bs over ∙ go over (frame_at bs 0)
  where
    go : (o : Bool) (r : Read) → cond o (some r) (known_of r) ≡ cond (settled o r) (some r) none
    go true ended = refl
    go true (damaged k) = refl
    go true (whole l κ ι t) = refl
    go false ended = refl
    go false (damaged k) = refl
    go false (whole l κ ι t) = refl
