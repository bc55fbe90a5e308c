-- A whole run from the hints: how many calls it takes, that it ends in End and stays there, and the two theorems for it.
-- Assumes nothing.
use Rattle.std.specs.Prelude.{◌≡◌, refl, ◌≢◌, ℕ, zero, suc, ◌+◌, ◌<◌, List, [], ◌∷◌, length, get_or, set}
use Rattle.std.proofs.Math.Path.{sym}
use Rattle.std.proofs.Common.{ap, ◌∙◌, arith, ne_eqb}
use Rattle.std.proofs.Math.Option.{none}
use Rattle.leaves.specs.Frame.{Read, whole, ended, damaged}
use Rattle.records_rules.specs.Machine.{rec, Stream, record_at_lem, damage_at, own}
use Rattle.records_rules.specs.Machine.{Status, waiting, standing, gone, key, First, nobody, first, least}
use Rattle.records_rules.specs.Machine.{Answer, says, end, after_read, chosen, step_at, step, Turn, turn, onward, next_f, next, answer, rest, up_to, run_f, start, tell, mine}
use Rattle.records_rules.specs.Least.{least_none}
use Rattle.records_rules.specs.Kept.{size, left, left_of, sum_by, total, TurnOk, closed_left}
use Rattle.records_rules.proofs.Kept.{next_ok, nothing_lost}
use Rattle.records_rules.specs.Order.{Rising, Rises, Sorted}
use Rattle.records_rules.proofs.Order.{sorted}
use Rattle.records_rules.specs.Whole.{bytes, total_start, Ends, set_gone, run, counted, all_from}

-- ---- how much a stream can say: each saying takes a byte at least

closed_total : (b : ℕ → Stream) (ss : List Status) → ((q : ℕ) → key (get_or ss q gone) ≡ none) → total b ss ≡ 0
unfolding total sum_by
closed_total b [] h = refl
closed_total b (s ∷ ss) h = omega (arith, ap length (closed_left b 0 s (h 0)), closed_total (λ p. b (suc p)) ss (λ q. h (suc q)))

-- ---- the calls

pub calls : (f : ℕ) (b : ℕ → Stream) (ss : List Status) → total b ss < f → length (run_f f b ss) ≡ suc (total b ss)
unfolding run_f up_to answer rest size total
calls zero b ss h = absurd (omega arith)
calls (suc f) b ss h = go (next b ss) (next_ok b ss) (λ ss' k. calls f b ss' k)
  where
    go : (r : Turn) → TurnOk b ss r → ((ss' : List Status) → total b ss' < f → length (run_f f b ss') ≡ suc (total b ss'))
        → length (up_to (answer r) (run_f f b (rest r))) ≡ suc (total b ss)
    go (turn (says q y) ss') (k, c) ih = omega (arith, k.less, ih ss' (omega (arith, k.less)))
    go (turn end ss') (k, c) ih = omega (arith, k.less, closed_total b ss' c)

pub ends : (f : ℕ) (b : ℕ → Stream) (ss : List Status) → total b ss < f → Ends (run_f f b ss)
unfolding run_f up_to answer rest size
ends zero b ss h = absurd (omega arith)
ends (suc f) b ss h = go (next b ss) (next_ok b ss) (λ ss' k. ends f b ss' k)
  where
    go : (r : Turn) → TurnOk b ss r → ((ss' : List Status) → total b ss' < f → Ends (run_f f b ss')) → Ends (up_to (answer r) (run_f f b (rest r)))
    go (turn (says q y) ss') (k, c) ih = ih ss' (omega (arith, k.less))
    go (turn end ss') (k, c) ih = refl

-- End stays
pub stays : (b : ℕ → Stream) (ss ss' : List Status) → next b ss ≡ turn end ss' → next b ss' ≡ turn end ss'
unfolding next next_f step step_at onward
stays b ss ss' e =
    let k : TurnOk b ss (turn end ss') = rw e at (next_ok b ss) in
    ap (λ (r : First). onward (λ tt'. next_f (length ss') b tt') (step_at b ss' r)) (least_none ss' k.1)

-- ---- damage: "13 in the merge closes its stream and keeps what the same call read in others before it"

-- what a call leaves where it reports damage of the stream p
abbrev Shut : Turn → Type 0
Shut (turn (says p (record_at_lem a r)) ss') = Unit {0}
Shut (turn (says p (damage_at a k)) ss') = get_or ss' p gone ≡ gone
Shut (turn end ss') = Unit {0}

shut_f : (f : ℕ) (b : ℕ → Stream) (ss : List Status) → Shut (next_f f b ss)
unfolding next_f onward step step_at chosen after_read
shut_f zero b ss = tt
shut_f (suc f) b ss = pick (least ss) (λ ss'. shut_f f b ss')
  where
    found : (p a : ℕ) (r : Read) → ((ss' : List Status) → Shut (next_f f b ss')) → Shut (onward (λ ss'. next_f f b ss') (after_read ss p a r))
    found p a ended ih = ih (set ss p gone)
    found p a (damaged k) ih = set_gone ss p
    found p a (whole l κ ι t) ih = ih (set ss p (standing a (rec l κ ι t)))

    on : (p : ℕ) (s : Status) → ((ss' : List Status) → Shut (next_f f b ss')) → Shut (onward (λ ss'. next_f f b ss') (chosen b ss p s))
    on p (waiting t a) ih = found p a ((b p).read a) ih
    on p (standing a r) ih = tt
    on p gone ih = tt

    pick : (r : First) → ((ss' : List Status) → Shut (next_f f b ss')) → Shut (onward (λ ss'. next_f f b ss') (step_at b ss r))
    pick nobody ih = tt
    pick (first t p) ih = on p (get_or ss p gone) ih

module _ (b : ℕ → Stream) (ss ss' : List Status) (p a k : ℕ) (e : next b ss ≡ turn (says p (damage_at a k)) ss') where
  -- its stream is closed
  pub damage_closes : get_or ss' p gone ≡ gone
  unfolding next
  damage_closes = let z : Shut (turn (says p (damage_at a k)) ss') = rw e at (shut_f (suc (length ss)) b ss) in z

  -- and of every other stream the same is yet to come
  pub damage_keeps : (q : ℕ) → q ≢ p → left b q ss' ≡ left b q ss
  unfolding tell
  damage_keeps q d =
      let z : TurnOk b ss (turn (says p (damage_at a k)) ss') = rw e at (next_ok b ss) in
      let w : tell q (says p (damage_at a k)) (left b q ss') ≡ left b q ss' = simp (ne_eqb p q (λ x. d (sym x))) in
      sym w ∙ z.0.kept q

-- ---- a whole run

left_start : (b : ℕ → Stream) (hs : List ℕ) (p : ℕ) → p < length hs → left b p (start hs) ≡ own (b p) 0
unfolding left left_of start
left_start b [] p h = absurd (omega arith)
left_start b (x ∷ hs) zero h = refl
left_start b (x ∷ hs) (suc p) h = left_start (λ q. b (suc q)) hs p (omega arith)

pub run_keeps : (b : ℕ → Stream) (hs : List ℕ) (p : ℕ) → p < length hs → mine p (run b hs) ≡ own (b p) 0
unfolding run
run_keeps b hs p h = nothing_lost (suc (bytes b (length hs))) b (start hs) (omega (arith, total_start b hs)) p ∙ left_start b hs p h

rises_start : (b : ℕ → Stream) (hs : List ℕ) → ((p : ℕ) → p < length hs → Rising (get_or hs p 0) (own (b p) 0)) → (p : ℕ) → Rises (b p) (get_or (start hs) p gone)
unfolding start
rises_start b [] h p = tt
rises_start b (x ∷ hs) h zero = h 0 (omega arith)
rises_start b (x ∷ hs) h (suc p) = rises_start (λ q. b (suc q)) hs (λ q k. h (suc q) (omega arith)) p

pub run_sorted : (b : ℕ → Stream) (hs : List ℕ) → ((p : ℕ) → p < length hs → Rising (get_or hs p 0) (own (b p) 0)) → Sorted (run b hs)
unfolding run
run_sorted b hs h = sorted (suc (bytes b (length hs))) b (start hs) (rises_start b hs h)

pub run_ends : (b : ℕ → Stream) (hs : List ℕ) → Ends (run b hs)
unfolding run
run_ends b hs = ends (suc (bytes b (length hs))) b (start hs) (omega (arith, total_start b hs))

total_counted : (b : ℕ → Stream) (hs : List ℕ) → total b (start hs) ≡ counted b (length hs)
unfolding total sum_by start counted left_of
total_counted b [] = refl
total_counted b (h ∷ hs) = ap (λ (n : ℕ). length (own (b 0) 0) + n) (total_counted (λ p. b (suc p)) hs)

pub run_calls : (b : ℕ → Stream) (hs : List ℕ) → length (run b hs) ≡ suc (counted b (length hs))
unfolding run
run_calls b hs =
    calls (suc (bytes b (length hs))) b (start hs) (omega (arith, total_start b hs)) ∙ ap suc (total_counted b hs)

-- ---- the answers from a state on, with no count: what a loop over `next` cites

pub run_same : (f g : ℕ) (b : ℕ → Stream) (ss : List Status) → total b ss < f → total b ss < g → run_f f b ss ≡ run_f g b ss
unfolding run_f up_to answer rest size
run_same zero g b ss h k = absurd (omega arith)
run_same (suc f) zero b ss h k = absurd (omega arith)
run_same (suc f) (suc g) b ss h k = go (next b ss) (next_ok b ss) (λ ss' i j. run_same f g b ss' i j)
  where
    go : (r : Turn) → TurnOk b ss r → ((ss' : List Status) → total b ss' < f → total b ss' < g → run_f f b ss' ≡ run_f g b ss')
        → up_to (answer r) (run_f f b (rest r)) ≡ up_to (answer r) (run_f g b (rest r))
    go (turn (says q y) ss') (z, c) ih = ap (λ (xs : List Answer). says q y ∷ xs) (ih ss' (omega (arith, z.less)) (omega (arith, z.less)))
    go (turn end ss') (z, c) ih = refl

pub all_step : (b : ℕ → Stream) (ss : List Status) → all_from b ss ≡ up_to (answer (next b ss)) (all_from b (rest (next b ss)))
unfolding all_from run_f up_to answer rest size
all_step b ss = go (next b ss) (next_ok b ss)
  where
    go : (r : Turn) → TurnOk b ss r → up_to (answer r) (run_f (total b ss) b (rest r)) ≡ up_to (answer r) (run_f (suc (total b (rest r))) b (rest r))
    go (turn (says q y) ss') (z, c) =
        ap (λ (xs : List Answer). says q y ∷ xs) (run_same (total b ss) (suc (total b ss')) b ss' (omega (arith, z.less)) (omega arith))
    go (turn end ss') (z, c) = refl

pub run_all : (b : ℕ → Stream) (hs : List ℕ) → run b hs ≡ all_from b (start hs)
unfolding run all_from
run_all b hs = run_same (suc (bytes b (length hs))) (suc (total b (start hs))) b (start hs) (omega (arith, total_start b hs)) (omega arith)
