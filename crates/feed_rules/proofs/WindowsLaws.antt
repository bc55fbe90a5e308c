-- What is kept of a stream tells what the stream does: dropping what was read changes nothing that is still to be read; a call keeps the
-- places within what is kept; whoever is asked for more has room. Assumes nothing.
use Rattle.std.specs.Prelude.{◌≡◌, Bool, cond, get_or, set, drop, ltb}
use Rattle.std.proofs.Math.Path.{refl, ap}
use Rattle.std.proofs.Common.{sym, ◌∙◌, length-drop, get_or-set_other, le-ltb}
use Prim.Native.Nat.{ℕ, zero, suc, ◌+◌, ◌-◌, ◌≤◌, ◌<◌, ◌^◌}
use Rattle.std.proofs.Math.Decide.{ℕ_discrete}
use native.Mathlib.Omega.{arith}
use Rattle.std.proofs.Math.Bool.{true, false}
use Rattle.std.proofs.Math.Option.{Option, none, some}
use mathlib.Core.List.{List, [], append-nil}
use Rattle.std.proofs.Math.ListN.{length}
use Rattle.std.proofs.Math.Seq.{get_or-set_same}
use Rattle.std.proofs.Math.Dec.{eqb}
use Rattle.std.proofs.Math.Facts.{eqb_yes}
use Rattle.leaves.specs.Frame.{Read, whole, ended, damaged, frame_at}
use Rattle.records_rules.specs.Machine.{rec, Fits, record_at_lem, damage_at, Status, waiting, standing, gone, First, nobody, first, least}
use Rattle.records_rules.specs.Machine.{says, end, done, again, after_read}
use Rattle.records_rules.specs.Least.{LeastOk, least_ok}
use Rattle.records_rules.specs.Kept.{inside}
use Rattle.records_rules.specs.Bytes.{frame_fits}
use Rattle.feed_rules.specs.PartialLaws.{never_some}
use Rattle.feed_rules.specs.Partial.{Part, part, known_at, Step⁺, moved, wants, found⁺, chosen⁺, step_at⁺, step⁺}
use Rattle.feed_rules.specs.Partial.{Turn⁺, replies, needs, onward⁺, next_f⁺, next⁺, rest⁺, Wants}
use Rattle.feed_rules.specs.Needs.{known_over}
use Rattle.feed_rules.proofs.Needs.{known_part, needs_only, never_needs, unknown}
use Rattle.feed_rules.specs.Windows.{Kept, known_in, from, Feed, known, closed, taking}
use Rattle.feed_rules.specs.Windows.{is_gone, counted, kept_by, turn_in, turn_leaves, next_leaves, In, Within}
use Rattle.feed_rules.specs.WindowsLaws.{known_drop, known_base, Counts, kept_in}

-- ---- dropping what was read

-- from the place a on the same is known as before
pub known_from : (x : Kept) (a c : ℕ) → x.base ≤ a → a ≤ c → known_in (from a x) c ≡ known_in x c
unfolding known_in from
known_from x a c h k =
    let e : c - x.base - (a - x.base) ≡ c - a = omega arith in
    let d : known_at (part (drop (a - x.base) x.bytes) x.over) (c - a) ≡ known_at (part x.bytes x.over) (c - x.base) =
    ap (known_at (part (drop (a - x.base) x.bytes) x.over)) (sym e)
    ∙ known_drop x.bytes (a - x.base) (c - x.base) (omega arith) x.over in
    let y : ltb c a ≡ false = le-ltb c a k in
    let z : ltb c x.base ≡ false = le-ltb c x.base (omega arith) in
    rw (y, z) d

-- what is known stands in the bytes
pub known_frame : (s : Part) (a : ℕ) (r : Read) → known_at s a ≡ some r → frame_at s.bytes a ≡ r
known_frame s a r e = known_part s s.bytes (record { later = []; joined = sym (append-nil s.bytes); none_later = λ o. refl }) a r e

-- a record that is known lies in what is kept
pub known_fits : (x : Kept) (a l κ ι t : ℕ) → known_in x a ≡ some (whole l κ ι t) → (x.base ≤ a) × (a + l ≤ x.base + length x.bytes)
known_fits x a l κ ι t e =
    let k = known_base x a (whole l κ ι t) e in
    let f : frame_at x.bytes (a - x.base) ≡ whole l κ ι t =
    known_frame (part x.bytes x.over) (a - x.base) (whole l κ ι t) k.1 in
    let z : Fits (length x.bytes) (a - x.base) (whole l κ ι t) = rw f at (frame_fits x.bytes (a - x.base)) in
    let b : x.base ≤ a = k.0 in
    let c : a - x.base + l ≤ length x.bytes = z.1 in
    (b, omega arith)

-- ---- places stay within what is kept

counts_none : (x : Kept) (s : Status) → In x s → Counts 0 x s
counts_none x (waiting t a) i = (omega (arith, i.0), i.1)
counts_none x (standing a r) i = i
counts_none x gone i = tt

module _ (kept : ℕ → Kept) where
  abbrev k : ℕ → ℕ → Option Read
  k p a = known_in (kept p) a

  within_set : (ss : List Status) (p : ℕ) (s : Status) → p < length ss → Within kept ss → In (kept p) s → Within kept (set ss p s)
  within_set ss p s h w i q = go (ℕ_discrete q p)
    where
      go : Dec (q ≡ p) → In (kept q) (get_or (set ss p s) q gone)
      go (yes d) = rw (d, get_or-set_same ss p s gone h) i
      go (no d) = rw (get_or-set_other ss p q s gone d) (w q)

  -- what a turn leaves; a record that it hands out lies in what is kept, and its stream waits behind it
  abbrev pub TurnIn : Turn⁺ → Type 0
  TurnIn (replies (says p (record_at_lem a r)) ss) =
      Within kept ss × ((kept p).base ≤ a) × (get_or ss p gone ≡ waiting r.time (a + r.size))
  TurnIn (replies (says p (damage_at a reason)) ss) = Within kept ss
  TurnIn (replies end ss) = Within kept ss
  TurnIn (needs p ss) = Within kept ss

  abbrev StepIn : List Status → Step⁺ → Type 0
  StepIn ss (wants p) = Unit {0}
  StepIn ss (moved (done x ss')) = TurnIn (replies x ss')
  StepIn ss (moved (again ss')) = Within kept ss'

  module _ (ss : List Status) (w : Within kept ss) where
    found_in : (p t a : ℕ) → p < length ss → (o : Option Read) → k p a ≡ o → StepIn ss (found⁺ ss p a o)
    unfolding found⁺ after_read
    found_in p t a h none e = tt
    found_in p t a h (some ended) e = within_set ss p gone h w tt
    found_in p t a h (some (damaged r)) e = within_set ss p gone h w tt
    found_in p t a h (some (whole l κ ι u)) e = within_set ss p (standing a (rec l κ ι u)) h w (known_fits (kept p) a l κ ι u e)

    chosen_in : (p : ℕ) → p < length ss → (s : Status) → get_or ss p gone ≡ s → StepIn ss (chosen⁺ k ss p s)
    unfolding chosen⁺
    chosen_in p h (waiting t a) e = found_in p t a h (k p a) refl
    chosen_in p h (standing a r) e =
        let i : In (kept p) (standing a r) = rw e at (w p) in
        let b : (kept p).base ≤ a = i.0 in
        let c : a + r.size ≤ (kept p).base + length (kept p).bytes = i.1 in
        (within_set ss p (waiting r.time (a + r.size)) h w (omega arith, c), b, get_or-set_same ss p (waiting r.time (a + r.size)) gone h)
    chosen_in p h gone e = w

    step_in : StepIn ss (step⁺ k ss)
    unfolding step⁺ step_at⁺
    step_in = pick (least ss) (least_ok ss)
      where
        pick : (r : First) → LeastOk ss r → StepIn ss (step_at⁺ k ss r)
        pick nobody f = w
        pick (first t p) f = chosen_in p (inside ss p t f.has) (get_or ss p gone) refl

  turn_in_f : (f : ℕ) (ss : List Status) → Within kept ss → TurnIn (next_f⁺ f k ss)
  unfolding next_f⁺ onward⁺
  turn_in_f zero ss w = w
  turn_in_f (suc f) ss w = go (step⁺ k ss) (step_in ss w) (λ ss' w'. turn_in_f f ss' w')
    where
      go : (s : Step⁺) → StepIn ss s → ((ss' : List Status) → Within kept ss' → TurnIn (next_f⁺ f k ss'))
          → TurnIn (onward⁺ (λ l. next_f⁺ f k l) ss s)
      go (wants p) z ih = w
      go (moved (done x ss')) z ih = z
      go (moved (again ss')) z ih = ih ss' z

  pub turn_in_lem : (ss : List Status) → Within kept ss → TurnIn (next⁺ k ss)
  unfolding next⁺
  turn_in_lem ss w = turn_in_f (suc (length ss)) ss w

  pub rest_in : (r : Turn⁺) → TurnIn r → Within kept (rest⁺ r)
  unfolding rest⁺
  rest_in (replies (says p (record_at_lem a r)) ss) z = z.0
  rest_in (replies (says p (damage_at a reason)) ss) z = z
  rest_in (replies end ss) z = z
  rest_in (needs p ss) z = z

  pub counted_in : (r : Turn⁺) → TurnIn r → (q : ℕ) → Counts (counted q r) (kept q) (get_or (rest⁺ r) q gone)
  unfolding counted rest⁺
  counted_in (replies (says p (record_at_lem a r)) ss) z q = go (eqb q p) refl
    where
      go : (b : Bool) → eqb q p ≡ b → Counts (cond b r.size 0) (kept q) (get_or ss q gone)
      go true e =
          let d : q ≡ p = eqb_yes (rw e tt) in
          let i : In (kept p) (waiting r.time (a + r.size)) = rw z.2 at (z.0 p) in
          let c : Counts r.size (kept p) (waiting r.time (a + r.size)) = (omega (arith, z.1), i.1) in
          rw (d, z.2) c
      go false e = counts_none (kept q) (get_or ss q gone) (z.0 q)
  counted_in (replies (says p (damage_at a reason)) ss) z q = counts_none (kept q) (get_or ss q gone) (z q)
  counted_in (replies end ss) z q = counts_none (kept q) (get_or ss q gone) (z q)
  counted_in (needs p ss) z q = counts_none (kept q) (get_or ss q gone) (z q)

-- ---- the calls keep the places within what is kept

pub next_within : (F : Feed) → Within F.kept F.statuses → Within (next_leaves F).kept (next_leaves F).statuses
unfolding next_leaves turn_leaves
next_within F w q =
    let r = turn_in F in
    kept_in (counted q r) (F.kept q) (get_or (rest⁺ r) q gone) (counted_in F.kept r (turn_in_lem F.kept F.statuses w) q)

-- ---- who is asked for more has room

in_known : (x : Kept) (a : ℕ) → x.base ≤ a → known_in x a ≡ known_at (part x.bytes x.over) (a - x.base)
unfolding known_in
in_known x a h = let z : ltb a x.base ≡ false = le-ltb a x.base h in rw z refl

needs_left : (F : Feed) (ss' : List Status) (p t a : ℕ) → get_or ss' p gone ≡ waiting t a → (F.kept p).base ≤ a → (F.kept p).over ≡ false
    → length (F.kept p).bytes - (a - (F.kept p).base) < 1024
    → (closed (turn_leaves F (needs p ss')) p ≡ false) × (length ((turn_leaves F (needs p ss')).kept p).bytes < 1024)
unfolding turn_leaves counted kept_by rest⁺ from closed is_gone
needs_left F ss' p t a e h o l = rw e (o, omega (arith, length-drop (a - 0 - (F.kept p).base) (F.kept p).bytes))

-- no deadlock: the stream p that is asked for more can take it, and has fewer than 1,024 bytes kept
pub needs_kept : (F : Feed) → Within F.kept F.statuses → (p : ℕ) (ss' : List Status) → turn_in F ≡ needs p ss'
    → (closed (next_leaves F) p ≡ false) × (length ((next_leaves F).kept p).bytes < 1024)
unfolding next_leaves
needs_kept F w p ss' e =
    let z : TurnIn F.kept (needs p ss') = rw e at (turn_in_lem F.kept F.statuses w) in
    let n : Wants (known F) ss' p = (needs_only (known F) F.statuses ss' p e).1 in
    let i : In (F.kept p) (waiting n.time n.place) = rw n.waits at (z p) in
    let u = unknown (part (F.kept p).bytes (F.kept p).over) (n.place - (F.kept p).base) (sym (in_known (F.kept p) n.place i.0)
    ∙ n.unknown) in
    rw e (needs_left F ss' p n.time n.place n.waits i.0 u.0 u.1)

-- so below 2^63 a portion that is not empty is taken from
pub takes_some : (size : ℕ) (x : Kept) → 0 < size → length x.bytes < 1024 → x.base + length x.bytes < 2 ^ 63 → 0 < taking size x
unfolding taking
takes_some size x h k l = omega arith

-- every stream that waits has been ended: nothing more is needed
pub ended_kept : (F : Feed) → Within F.kept F.statuses
    → ((p t a : ℕ) → get_or F.statuses p gone ≡ waiting t a → (F.kept p).over ≡ true)
    → (p : ℕ) (ss' : List Status) → turn_in F ≡ needs p ss' → ⊥
ended_kept F w h = never_needs (known F) F.statuses go
  where
    go : (p t a : ℕ) → get_or F.statuses p gone ≡ waiting t a → known_in (F.kept p) a ≡ none → ⊥
    go p t a e u =
        let i : In (F.kept p) (waiting t a) = rw e at (w p) in
        let x = F.kept p in
        never_some (sym u ∙ in_known x a i.0 ∙ known_over (part x.bytes x.over) (a - x.base) (h p t a e))
