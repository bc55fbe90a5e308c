-- When "need more of stream p" is answered: exactly when the next step must read from p and it is not known what stands there; never where
-- every stream that waits has been ended; and whoever is asked for more has room. Then the answers to the end. Assumes nothing.
use Rattle.std.specs.Prelude.{◌≡◌, Bool, true, false, cond, length, get_or}
use Rattle.std.proofs.Math.Path.{refl}
use Rattle.std.proofs.Common.{sym, ap, ◌∙◌}
use Prim.Native.Nat.{ℕ, zero, suc, ◌-◌, ◌<◌}
use Rattle.std.proofs.Math.Option.{Option, none, some}
use mathlib.Core.List.{List, [], ◌∷◌, ◌++◌, append-nil}
use Rattle.theory.specs.Fields.{field}
use Rattle.leaves.specs.Frame.{Read, record_at, frame_at}
use Rattle.records_rules.specs.Machine.{Stream, Status, waiting, gone, first}
use Rattle.records_rules.specs.Machine.{Answer, says, end, done, again, Turn, turn, next}
use Rattle.records_rules.specs.Machine.{answer, rest, answers_f, up_to, until_end, run_f, start}
use Rattle.records_rules.specs.Least.{LeastOk, least_ok}
use Rattle.records_rules.specs.Bytes.{bytes_of}
use Rattle.records_rules.specs.Whole.{Ends, all_from, run}
use Rattle.records_rules.proofs.Whole.{all_step, run_all}
use Rattle.feed_rules.specs.Partial.{Part, so_far, known_at, Step⁺, moved, wants, step⁺, Turn⁺, replies, needs, onward⁺, next_f⁺, next⁺}
use Rattle.feed_rules.specs.Partial.{Knows, Heard, Reads, here, onto, Wants}
use Rattle.feed_rules.specs.PartialLaws.{never_some, grown, StepOk⁺}
use Rattle.feed_rules.proofs.PartialLaws.{heard_are, step_ok⁺, next_again⁺, rule_wants⁺}
use Rattle.feed_rules.specs.Needs.{known_over, few_left, Begins}

-- ---- exactly when

abbrev NeedsOk : (ℕ → ℕ → Option Read) → List Status → Turn⁺ → Type 0
NeedsOk k ss (replies x ss') = Unit {0}
NeedsOk k ss (needs p ss') = Reads k ss ss' × Wants k ss' p

module _ (k : ℕ → ℕ → Option Read) where
  needs_ok : (f : ℕ) (ss : List Status) → NeedsOk k ss (next_f⁺ f k ss)
  unfolding next_f⁺ onward⁺
  needs_ok zero ss = tt
  needs_ok (suc f) ss = go (step⁺ k ss) refl (step_ok⁺ k ss) (λ ss'. needs_ok f ss')
    where
      later : (ss' : List Status) → step⁺ k ss ≡ moved (again ss') → (r : Turn⁺) → NeedsOk k ss' r → NeedsOk k ss r
      later ss' e (replies x ss'') z = tt
      later ss' e (needs p ss'') (z, w) = (onto e z, w)

      go : (s : Step⁺) → step⁺ k ss ≡ s → StepOk⁺ k ss s → ((ss' : List Status) → NeedsOk k ss' (next_f⁺ f k ss'))
          → NeedsOk k ss (onward⁺ (λ l. next_f⁺ f k l) ss s)
      go (wants p) e z ih = (here, z)
      go (moved (done x ss')) e z ih = tt
      go (moved (again ss')) e z ih = later ss' e (next_f⁺ f k ss') (ih ss')

  -- more is needed only where the next step must read from p, after the reads that the call made before ..
  pub needs_only : (ss ss' : List Status) (p : ℕ) → next⁺ k ss ≡ needs p ss' → Reads k ss ss' × Wants k ss' p
  unfolding next⁺
  needs_only ss ss' p e = let z : NeedsOk k ss (needs p ss') = rw e at (needs_ok (suc (length ss)) ss) in z

  -- .. and there always
  pub needs_there : (ss ss' : List Status) (p : ℕ) → Reads k ss ss' → Wants k ss' p → next⁺ k ss ≡ needs p ss'
  needs_there ss ss' p here w =
      let f : LeastOk ss (first w.time p) = rw w.firstly at (least_ok ss) in
      rule_wants⁺ k ss w.time p f w.time w.place w.waits w.unknown
  needs_there ss ss' p (onto {ss' = mid} e m) w = next_again⁺ k ss mid e ∙ needs_there mid ss' p m w

  pub needs_exactly : (ss ss' : List Status) (p : ℕ)
      → (next⁺ k ss ≡ needs p ss' → Reads k ss ss' × Wants k ss' p) × (Reads k ss ss' × Wants k ss' p → next⁺ k ss ≡ needs p ss')
  needs_exactly ss ss' p = (needs_only ss ss' p, λ z. needs_there ss ss' p z.0 z.1)

  -- who waits in the end has waited from the start, at the same time and place
  pub reads_still : (ss ss' : List Status) → Reads k ss ss' → (q t a : ℕ) → get_or ss' q gone ≡ waiting t a → get_or ss q gone ≡ waiting t a
  reads_still ss ss' here q t a e = e
  reads_still ss ss' (onto {ss' = mid} d m) q t a e =
      let z : StepOk⁺ k ss (moved (again mid)) = rw d at (step_ok⁺ k ss) in
      z.still q t a (reads_still mid ss' m q t a e)

  -- called again without more, it answers the same and leaves the same
  pub needs_again : (ss ss' : List Status) (p : ℕ) → next⁺ k ss ≡ needs p ss' → next⁺ k ss' ≡ needs p ss'
  needs_again ss ss' p e = needs_there ss' ss' p here (needs_only ss ss' p e).1

-- ---- never

-- where what stands before each stream that waits is known, nothing more is needed
pub never_needs : (k : ℕ → ℕ → Option Read) (ss : List Status) → ((p t a : ℕ) → get_or ss p gone ≡ waiting t a → k p a ≡ none → ⊥)
    → (p : ℕ) (ss' : List Status) → next⁺ k ss ≡ needs p ss' → ⊥
never_needs k ss h p ss' e =
    let n = needs_only k ss ss' p e in
    let w = n.1 in
    h p w.time w.place (reads_still k ss ss' n.0 p w.time w.place w.waits) w.unknown

-- every stream that waits has been ended: nothing more is needed
pub no_needs : (s : ℕ → Part) (ss : List Status) → ((p t a : ℕ) → get_or ss p gone ≡ waiting t a → (s p).over ≡ true)
    → (p : ℕ) (ss' : List Status) → next⁺ (λ q a. known_at (s q) a) ss ≡ needs p ss' → ⊥
no_needs s ss h =
    never_needs (λ q a. known_at (s q) a) ss (λ p t a w u. never_some (sym u ∙ known_over (s p) a (h p t a w)))

-- ---- room

-- and the stream has not been ended
pub unknown : (s : Part) (a : ℕ) → known_at s a ≡ none → (s.over ≡ false) × (length s.bytes - a < 1024)
unfolding known_at
unknown s a = go s.over
  where
    go : (o : Bool) → cond o (some (frame_at s.bytes a)) (so_far (length s.bytes - a) (field 2 s.bytes a) (record_at s.bytes a)) ≡ none
        → (o ≡ false) × (length s.bytes - a < 1024)
    go true e = never_some (sym e)
    go false e = (refl, few_left (length s.bytes - a) (field 2 s.bytes a) (record_at s.bytes a) e)

-- no deadlock: who is asked for more waits, has not been ended, and has fewer than 1,024 bytes that are still to be read
pub needs_room : (s : ℕ → Part) (ss ss' : List Status) (p : ℕ) → next⁺ (λ q a. known_at (s q) a) ss ≡ needs p ss'
    → (t : ℕ) × (a : ℕ) × (get_or ss' p gone ≡ waiting t a) × ((s p).over ≡ false) × (length (s p).bytes - a < 1024)
needs_room s ss ss' p e =
    let w = (needs_only (λ q a. known_at (s q) a) ss ss' p e).1 in
    let u = unknown (s p) w.place w.unknown in
    (w.time, w.place, w.waits, u.0, u.1)

-- ---- parts of streams

pub known_part : (s : Part) (b : List ℕ) → Begins s b → (a : ℕ) (r : Read) → known_at s a ≡ some r → frame_at b a ≡ r
unfolding known_at
known_part s b g a r = go s.over refl
  where
    one : {x y : Read} → some x ≡ some y → x ≡ y
    one e = cc

    go : (o : Bool) → s.over ≡ o
        → cond o (some (frame_at s.bytes a)) (so_far (length s.bytes - a) (field 2 s.bytes a) (record_at s.bytes a)) ≡ some r
        → frame_at b a ≡ r
    go true o e =
        ap (λ (x : List ℕ). frame_at x a) (g.joined ∙ ap (λ (x : List ℕ). s.bytes ++ x) (g.none_later o) ∙ append-nil s.bytes) ∙ one e
    go false o e = ap (λ (x : List ℕ). frame_at x a) g.joined ∙ grown s.bytes g.later a r e

pub knows_parts : (s : ℕ → Part) (b : ℕ → List ℕ) → ((p : ℕ) → Begins (s p) (b p)) → Knows (λ p a. known_at (s p) a) (λ p. bytes_of (b p))
unfolding bytes_of
knows_parts s b h p a r e = known_part (s p) (b p) (h p) a r e

-- ---- to the end

until_ends : (xs : List Answer) → Ends xs → until_end xs ≡ xs
unfolding until_end up_to
until_ends [] h = absurd h
until_ends (says p y ∷ xs) h = ap (λ (l : List Answer). says p y ∷ l) (until_ends xs h)
until_ends (end ∷ xs) h = ap (λ (l : List Answer). end ∷ l) (sym h)

-- so many calls that the end has come: they are all
run_whole : (f : ℕ) (b : ℕ → Stream) (ss : List Status) → Ends (run_f f b ss) → run_f f b ss ≡ all_from b ss
unfolding run_f until_end up_to answers_f answer rest
run_whole zero b ss h = absurd h
run_whole (suc f) b ss h = go (next b ss) h (λ ss' z. run_whole f b ss' z) ∙ sym (all_step b ss)
  where
    go : (r : Turn) → Ends (up_to (answer r) (run_f f b (rest r)))
        → ((ss' : List Status) → Ends (run_f f b ss') → run_f f b ss' ≡ all_from b ss')
        → up_to (answer r) (run_f f b (rest r)) ≡ up_to (answer r) (all_from b (rest r))
    go (turn (says p y) ss') z ih = ap (λ (l : List Answer). says p y ∷ l) (ih ss' z)
    go (turn end ss') z ih = refl

-- where the last answer is the first end, the answers are a run of the whole buffer: what is proved of runs is so of them
pub heard_run : {b : ℕ → Stream} (hs : List ℕ) {xs : List Answer} → Heard b (start hs) xs → Ends xs → xs ≡ run b hs
unfolding run_f
heard_run {b} hs {xs} h e =
    let a : xs ≡ answers_f (length xs) b (start hs) = heard_are h in
    let u : until_end xs ≡ run_f (length xs) b (start hs) = ap until_end a in
    let r : xs ≡ run_f (length xs) b (start hs) = sym (until_ends xs e) ∙ u in
    let z : Ends (run_f (length xs) b (start hs)) = rw r at e in
    r ∙ run_whole (length xs) b (start hs) z ∙ sym (run_all b hs)
