-- The machine of portions is the machine of whole streams: it answers what that one does, as far as it answers, and where all is known
-- it is that one. What is known of a stream stays so when more comes. And the rules that code cites. Assumes nothing.
-- What rests on a step of the machine, or on what is known of a stream, stands in proofs/PartialLaws.
use Rattle.std.specs.Prelude.{◌≡◌, Bool, ◌||◌, length, T}
use Rattle.std.proofs.Math.Path.{refl}
use Rattle.std.proofs.Common.{◌∙◌, arith}
use Prim.Native.Nat.{ℕ, zero, suc, ◌+◌, ◌-◌, ◌≤◌, ◌<◌}
use Rattle.std.proofs.Math.Bool.{true, false}
use Rattle.std.proofs.Math.Option.{Option, none, some}
use mathlib.Core.List.{List, ◌++◌}
use Rattle.std.proofs.Math.ListN.{get_or, length-append, get_or-append}
use Rattle.std.proofs.Math.Dec.{ltb}
use Rattle.std.proofs.Math.Facts.{ltb_yes, ltb_no}
use Rattle.theory.specs.RunsTools.{cond_case}
use Rattle.theory.specs.Fields.{field, field_same}
use Rattle.leaves.specs.Frame.{Read, damaged, record_at, frame_at}
use Rattle.leaves.specs.FrameLaws.{judged_low, judged_high, judged_whole}
use Rattle.records_rules.specs.Bytes.{neither}
use Rattle.records_rules.specs.Machine.{Stream}
use Rattle.records_rules.specs.Machine.{Status, waiting, standing, gone, First, nobody, first, least}
use Rattle.records_rules.specs.Machine.{Step, done, again, after_read, chosen, step_at, step}
use Rattle.records_rules.specs.Machine.{turn, onward, next_f, next}
use Rattle.records_rules.specs.Kept.{waits}
use Rattle.feed_rules.specs.Partial.{so_far, Step⁺, moved, wants, found⁺, chosen⁺, step_at⁺, step⁺}
use Rattle.feed_rules.specs.Partial.{Turn⁺, replies, needs, onward⁺, next_f⁺, next⁺}
use Rattle.feed_rules.specs.Partial.{all, lifted, Wants}

-- ---- it is the machine on the streams that will have come

abbrev pub Same : (ℕ → Stream) → List Status → Turn⁺ → Type 0
Same b ss (replies x ss') = next b ss ≡ turn x ss'
Same b ss (needs p ss') = next b ss ≡ next b ss'

-- ---- what is known stays so when more comes

some_one : {x y : Read} → some x ≡ some y → x ≡ y
some_one e = cc

pub never_some : {X : Type 0} {r : Read} → none ≡ some r → X
never_some e = let z : ◌≡◌ {A = ℕ} 0 1 = cc in absurd (omega arith)

module _ (s t : List ℕ) (a : ℕ) where
  grown_field : (w d : ℕ) → a + d + w ≤ length s → field w (s ++ t) (a + d) ≡ field w s (a + d)
  grown_field w d h = field_same w s (s ++ t) (a + d) (λ x l u. get_or-append s t 0 x (omega arith))

  module _ (enough : 16 ≤ length s - a) where
    long : 16 ≤ length (s ++ t) - a
    long = omega (arith, length-append s t)

    size_same : field 2 (s ++ t) a ≡ field 2 s a
    size_same = field_same 2 s (s ++ t) a (λ x l u. get_or-append s t 0 x (omega arith))

    grown_bad : (x y : Bool) → (T x → field 2 s a < 16) → (T y → 1024 < field 2 s a) → T (x || y) → frame_at (s ++ t) a ≡ damaged 2
    unfolding frame_at
    grown_bad true y f g h =
        judged_low (length (s ++ t) - a) (field 2 (s ++ t) a) (record_at (s ++ t) a) long (omega (arith, size_same, f tt))
    grown_bad false true f g h =
        judged_high (length (s ++ t) - a) (field 2 (s ++ t) a) (record_at (s ++ t) a) long (omega (arith, size_same, g tt))
    grown_bad false false f g h = absurd h

    grown_whole : 16 ≤ field 2 s a → field 2 s a ≤ 1024 → field 2 s a ≤ length s - a → frame_at (s ++ t) a ≡ record_at s a
    unfolding frame_at record_at
    grown_whole l u h =
        judged_whole (length (s ++ t) - a) (field 2 (s ++ t) a) (record_at (s ++ t) a) long
        (omega (arith, size_same)) (omega (arith, size_same)) (omega (arith, size_same, length-append s t))
        ∙ rw (size_same, grown_field 2 2 (omega arith), grown_field 4 4 (omega arith), grown_field 8 8 (omega arith))

  -- what is known of a stream that has not been ended is so of every stream that begins with what has come
  pub grown : (r : Read) → so_far (length s - a) (field 2 s a) (record_at s a) ≡ some r → frame_at (s ++ t) a ≡ r
  unfolding so_far
  grown r =
      cond_case P (ltb (length s - a) 16) none _ (λ c e. never_some e)
      (λ c. cond_case P (ltb (field 2 s a) 16 || ltb 1024 (field 2 s a)) (some (damaged 2)) _
      (λ d e. grown_bad (ltb_no c) (ltb (field 2 s a) 16) (ltb 1024 (field 2 s a)) (λ x. ltb_yes x) (λ x. ltb_yes x) d ∙ some_one e)
      (λ d. cond_case P (ltb (length s - a) (field 2 s a)) none (some (record_at s a)) (λ f e. never_some e)
      (λ f e.
      let n = neither (ltb (field 2 s a) 16) (ltb 1024 (field 2 s a)) d in
      grown_whole (ltb_no c) (ltb_no n.0) (ltb_no n.1) (ltb_no f) ∙ some_one e)))
    where
      P : Option Read → Type 0
      P o = o ≡ some r → frame_at (s ++ t) a ≡ r

-- ---- nothing changes where all is there: the machine of whole buffers is this one

whole_F : (f : ℕ) (b : ℕ → Stream) (ss : List Status) → next_f⁺ f (all b) ss ≡ lifted (next_f f b ss)
unfolding next_f⁺ next_f onward onward⁺ step step_at step⁺ step_at⁺ chosen chosen⁺ found⁺ lifted
whole_F zero b ss = refl
whole_F (suc f) b ss = pick (least ss) (λ ss'. whole_F f b ss')
  where
    Later : Type 0
    Later = (ss' : List Status) → next_f⁺ f (all b) ss' ≡ lifted (next_f f b ss')

    go : (s : Step) → Later → onward⁺ (λ l. next_f⁺ f (all b) l) ss (moved s) ≡ lifted (onward (λ l. next_f f b l) s)
    go (done x ss') ih = refl
    go (again ss') ih = ih ss'

    on : (p : ℕ) (s : Status) → Later
        → onward⁺ (λ l. next_f⁺ f (all b) l) ss (chosen⁺ (all b) ss p s) ≡ lifted (onward (λ l. next_f f b l) (chosen b ss p s))
    on p (waiting t a) ih = go (after_read ss p a ((b p).read a)) ih
    on p (standing a r) ih = refl
    on p gone ih = refl

    pick : (r : First) → Later
        → onward⁺ (λ l. next_f⁺ f (all b) l) ss (step_at⁺ (all b) ss r) ≡ lifted (onward (λ l. next_f f b l) (step_at b ss r))
    pick nobody ih = refl
    pick (first t p) ih = on p (get_or ss p gone) ih

-- the extension is conservative
pub whole_buffer : (b : ℕ → Stream) (ss : List Status) → next⁺ (all b) ss ≡ lifted (next b ss)
unfolding next⁺ next
whole_buffer b ss = whole_F (suc (length ss)) b ss

-- ---- a step

-- a read: one stream fewer waits, and those that wait still wait as they did
pub record AgainOk⁺ (ss ss' : List Status) : Type 0 where
  pub fewer : waits ss' < waits ss
  pub still : (q t a : ℕ) → get_or ss' q gone ≡ waiting t a → get_or ss q gone ≡ waiting t a

abbrev pub StepOk⁺ : (ℕ → ℕ → Option Read) → List Status → Step⁺ → Type 0
StepOk⁺ k ss (moved (done x ss')) = Unit {0}
StepOk⁺ k ss (moved (again ss')) = AgainOk⁺ ss ss'
StepOk⁺ k ss (wants p) = Wants k ss p
