-- When "need more of stream p" is answered: exactly when the next step must read from p and it is not known what stands there; never where
-- every stream that waits has been ended; and whoever is asked for more has room. Then the answers to the end. Assumes nothing.
-- What rests on a step of the machine, or on what is known of a stream, stands in proofs/Needs.
use Rattle.std.specs.Prelude.{◌≡◌, true, ◌||◌, ltb}
use Rattle.std.proofs.Math.Path.{refl}
use Rattle.std.proofs.Common.{sym, arith}
use Prim.Native.Nat.{ℕ, ◌≤◌, ◌<◌}
use Rattle.std.proofs.Math.Option.{Option, none, some}
use mathlib.Core.List.{List, [], ◌++◌}
use Rattle.std.proofs.Math.Facts.{ltb_yes, ltb_no}
use Rattle.theory.specs.RunsTools.{cond_case}
use Rattle.leaves.specs.Frame.{Read, damaged, frame_at}
use Rattle.records_rules.specs.Bytes.{neither}
use Rattle.feed_rules.specs.Partial.{Part, so_far, known_at}
use Rattle.feed_rules.specs.PartialLaws.{never_some}

-- ---- never

pub known_over : (s : Part) (a : ℕ) → s.over ≡ true → known_at s a ≡ some (frame_at s.bytes a)
unfolding known_at
known_over s a e = rw e refl

-- ---- room

-- where it is not known what stands there, fewer than a longest record's bytes are left
pub few_left : (left size : ℕ) (r : Read) → so_far left size r ≡ none → left < 1024
unfolding so_far
few_left left size r =
    cond_case P (ltb left 16) none _ (λ c e. let h : left < 16 = ltb_yes c in omega arith)
    (λ c. cond_case P (ltb size 16 || ltb 1024 size) (some (damaged 2)) _ (λ d e. never_some (sym e))
    (λ d. cond_case P (ltb left size) none (some r)
    (λ f e. let h : left < size = ltb_yes f in let g : size ≤ 1024 = ltb_no (neither (ltb size 16) (ltb 1024 size) d).1 in omega arith)
    (λ f e. never_some (sym e))))
  where
    P : Option Read → Type 0
    P o = o ≡ none → left < 1024

-- ---- parts of streams

-- what has come begins the stream, and is all of it where the stream has been ended
pub record Begins (s : Part) (b : List ℕ) : Type 0 where
  pub later : List ℕ
  pub joined : b ≡ s.bytes ++ later
  pub none_later : s.over ≡ true → later ≡ []
