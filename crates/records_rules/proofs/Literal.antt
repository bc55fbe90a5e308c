-- The machine as the rules tell it, with `last`: whose record the call before handed out. A call reads on there first.
-- It answers as the shorter machine of `Machine` does, where a stream whose record is handed out waits at that record's time.
-- Assumes nothing.
use Rattle.std.specs.Prelude.{◌≡◌, ℕ, zero, suc, ◌+◌, ◌≤◌, ◌<◌, List, [], ◌∷◌, get_or, set}
use Rattle.std.proofs.Math.Path.{refl, ap}
use Rattle.std.proofs.Common.{sym, ◌∙◌, arith, get_or-set_same, set-set}
use Rattle.std.proofs.Math.Option.{Option, none, some}
use Rattle.std.proofs.Math.ListN.{length, length-set}
use Rattle.leaves.specs.Frame.{Read, whole, ended, damaged}
use Rattle.records_rules.specs.Machine.{Rec, rec, Stream, record_at_lem, damage_at}
use Rattle.records_rules.specs.Machine.{Status, waiting, standing, gone, key, First, nobody, first, least}
use Rattle.records_rules.specs.Machine.{says, Step, done, again, after_read, chosen, step_at, step, Turn, turn, onward, next_f, next, answer, rest, up_to, run_f, start, mine}
use Rattle.records_rules.specs.Least.{IsFirst, LeastOk, least_ok}
use Rattle.records_rules.specs.Machine.{own}
use Rattle.records_rules.specs.Order.{Rising, Sorted}
use Rattle.records_rules.specs.Whole.{bytes, run}
use Rattle.records_rules.proofs.Whole.{run_keeps, run_sorted}
use Rattle.records_rules.specs.Kept.{inside, waits, waits_le, unread, sum_by, StepOk}
use Rattle.records_rules.proofs.Kept.{step_ok}
use Rattle.records_rules.specs.Literal.{Reply, reply, read_on, take_up, choose_at, choose_f, choose, resume, call, answered, statuses, last, calls_f, handed, view, seen, least_set, literal_run}

-- ---- the same as the shorter machine

-- the stream that handed out its record is still the first
pub record Handed (ss : List Status) (p : ℕ) : Type 0 where
  pub place : ℕ
  pub held : Rec
  pub stands : get_or ss p gone ≡ standing place held
  pub firstly : least ss ≡ first held.time p

abbrev pub LastOk : List Status → Option ℕ → Type 0
LastOk ss none = Unit {0}
LastOk ss (some p) = Handed ss p

choose_seen : (f : ℕ) (b : ℕ → Stream) (ss : List Status) → seen (choose_f f b ss) ≡ next_f f b ss
unfolding seen view choose_f choose_at take_up read_on handed next_f onward step step_at chosen after_read
choose_seen zero b ss = refl
choose_seen (suc f) b ss = pick (least ss) (λ ss'. choose_seen f b ss')
  where
    found : (p a : ℕ) (r : Read) → ((ss' : List Status) → seen (choose_f f b ss') ≡ next_f f b ss')
        → seen (read_on (λ ss'. choose_f f b ss') ss p a r) ≡ onward (λ ss'. next_f f b ss') (after_read ss p a r)
    found p a ended ih = ih (set ss p gone)
    found p a (damaged r) ih = refl
    found p a (whole l κ ι t) ih = ih (set ss p (standing a (rec l κ ι t)))

    on : (p : ℕ) (s : Status) → get_or ss p gone ≡ s → ((ss' : List Status) → seen (choose_f f b ss') ≡ next_f f b ss')
        → seen (take_up (λ ss'. choose_f f b ss') b ss p s) ≡ onward (λ ss'. next_f f b ss') (chosen b ss p s)
    on p (waiting h a) e ih = found p a ((b p).read a) ih
    on p (standing a r) e ih = ap (λ (s : Status). turn (says p (record_at_lem a r)) (set ss p (handed s))) e
    on p gone e ih = refl

    pick : (r : First) → ((ss' : List Status) → seen (choose_f f b ss') ≡ next_f f b ss')
        → seen (choose_at (λ ss'. choose_f f b ss') b ss r) ≡ onward (λ ss'. next_f f b ss') (step_at b ss r)
    pick nobody ih = refl
    pick (first t p) ih = on p (get_or ss p gone) refl ih

choose_last : (f : ℕ) (b : ℕ → Stream) (ss : List Status) → LastOk (statuses (choose_f f b ss)) (last (choose_f f b ss))
unfolding choose_f choose_at take_up read_on statuses last key
choose_last zero b ss = tt
choose_last (suc f) b ss = pick (least ss) refl (least_ok ss) (λ ss'. choose_last f b ss')
  where
    Good : Reply → Type 0
    Good r = LastOk (statuses r) (last r)

    found : (p a : ℕ) (r : Read) → ((ss' : List Status) → Good (choose_f f b ss')) → Good (read_on (λ ss'. choose_f f b ss') ss p a r)
    found p a ended ih = ih (set ss p gone)
    found p a (damaged r) ih = tt
    found p a (whole l κ ι t) ih = ih (set ss p (standing a (rec l κ ι t)))

    on : (t p : ℕ) → least ss ≡ first t p → IsFirst ss t p → (s : Status) → get_or ss p gone ≡ s → ((ss' : List Status) → Good (choose_f f b ss'))
        → Good (take_up (λ ss'. choose_f f b ss') b ss p s)
    on t p e k (waiting h a) d ih = found p a ((b p).read a) ih
    on t p e k (standing a r) d ih =
        let n : key (get_or ss p gone) ≡ some r.time = ap key d in
        let m : t ≡ r.time = cc k.has in
        record { place = a; held = r; stands = d; firstly = e ∙ ap (λ (v : ℕ). first v p) m }
    on t p e k gone d ih = tt

    pick : (r : First) → least ss ≡ r → LeastOk ss r → ((ss' : List Status) → Good (choose_f f b ss')) → Good (choose_at (λ ss'. choose_f f b ss') b ss r)
    pick nobody e k ih = tt
    pick (first t p) e k ih = on t p e k (get_or ss p gone) refl ih

-- any count that is large enough gives the same
pub next_same : (f g : ℕ) (b : ℕ → Stream) (ss : List Status) → waits ss < f → waits ss < g → next_f f b ss ≡ next_f g b ss
unfolding next_f onward
next_same zero g b ss h k = absurd (omega arith)
next_same (suc f) zero b ss h k = absurd (omega arith)
next_same (suc f) (suc g) b ss h k = go (step b ss) (step_ok b ss) (λ ss' i j. next_same f g b ss' i j)
  where
    go : (r : Step) → StepOk b ss r → ((ss' : List Status) → waits ss' < f → waits ss' < g → next_f f b ss' ≡ next_f g b ss')
        → onward (λ ss'. next_f f b ss') r ≡ onward (λ ss'. next_f g b ss') r
    go (done x ss') s ih = refl
    go (again ss') s ih = ih ss' (omega (arith, s.read)) (omega (arith, s.read))

-- the stream p does not wait: fewer than all do
waits_set : (ss : List Status) (p : ℕ) (s : Status) → p < length ss → unread s ≡ 0 → waits (set ss p s) < length ss
unfolding waits sum_by unread
waits_set [] p s h e = absurd (omega arith)
waits_set (x ∷ ss) zero s h e = omega (arith, waits_le ss)
waits_set (x ∷ ss) (suc p) s h e = omega (arith, one x, waits_set ss p s (omega arith) e)
  where
    one : (x : Status) → unread x ≤ 1
    one (waiting n a) = omega arith
    one (standing a r) = omega arith
    one gone = omega arith

abbrev Good : Reply → Type 0
Good r = LastOk (statuses r) (last r)

module _ (b : ℕ → Stream) (ss : List Status) (p t c : ℕ) (h : p < length ss) where
  -- the stream p waits, as the shorter machine has it
  held : List Status
  held = set ss p (waiting t c)

  settle : (s : Status) → unread s ≡ 0 → (seen (choose b (set ss p s)) ≡ next_f (length held) b (set held p s)) × Good (choose b (set ss p s))
  unfolding choose held
  settle s e =
      let n : length (set ss p s) ≡ length ss = length-set ss p s in
      let m : length (set ss p (waiting t c)) ≡ length ss = length-set ss p (waiting t c) in
      let w : waits (set ss p s) < length ss = waits_set ss p s h e in (
        choose_seen (suc (length (set ss p s))) b (set ss p s)
            ∙ next_same (suc (length (set ss p s))) (length (set ss p (waiting t c))) b (set ss p s) (omega arith) (omega arith)
            ∙ ap (next_f (length (set ss p (waiting t c))) b) (sym (set-set ss p (waiting t c) s)),
        choose_last (suc (length (set ss p s))) b (set ss p s),
      )

  found : (r : Read) → (seen (read_on (choose b) ss p c r) ≡ onward (λ ss'. next_f (length held) b ss') (after_read held p c r))
      × Good (read_on (choose b) ss p c r)
  unfolding read_on after_read onward unread seen view held statuses last
  found ended = settle gone refl
  found (damaged r) = (ap (turn (says p (damage_at c r))) (sym (set-set ss p (waiting t c) gone)), tt)
  found (whole l κ ι u) = settle (standing c (rec l κ ι u)) refl

  reads_first : least ss ≡ first t p → key (get_or ss p gone) ≡ some t → step b held ≡ after_read held p c ((b p).read c)
  unfolding step step_at chosen held key
  reads_first e k =
      ap (step_at b held) (least_set ss p (waiting t c) (sym k) ∙ e)
      ∙ ap (chosen b held p) (get_or-set_same ss p (waiting t c) gone h)

call_ok : (b : ℕ → Stream) (ss : List Status) (o : Option ℕ) → LastOk ss o
    → (seen (call b ss o) ≡ next b (view ss o)) × Good (call b ss o)
unfolding call choose next view handed resume next_f held key
call_ok b ss none k = (choose_seen (suc (length ss)) b ss, choose_last (suc (length ss)) b ss)
call_ok b ss (some p) k =
    let t : ℕ = k.held.time in
    let e : key (get_or ss p gone) ≡ some t = ap key k.stands in
    let h : p < length ss = inside ss p t e in
    let c : ℕ = k.place + k.held.size in
    let r : Read = (b p).read c in
    rw k.stands (
      (found b ss p t c h r).0
          ∙ ap (onward (λ ss'. next_f (length (held b ss p t c h)) b ss')) (sym (reads_first b ss p t c h k.firstly e)),
      (found b ss p t c h r).1,
    )

-- THE THEOREM: call after call, both give the same answers
pub calls_same : (f : ℕ) (b : ℕ → Stream) (ss : List Status) (o : Option ℕ) → LastOk ss o → calls_f f b ss o ≡ run_f f b (view ss o)
unfolding calls_f run_f answered statuses last seen answer rest
calls_same zero b ss o k = refl
calls_same (suc f) b ss o k =
    go (call b ss o) (call_ok b ss o k).1 (λ ss' o' i. calls_same f b ss' o' i)
    ∙ ap (λ (r : Turn). up_to (answer r) (run_f f b (rest r))) (call_ok b ss o k).0
  where
    go : (r : Reply) → Good r → ((ss' : List Status) (o' : Option ℕ) → LastOk ss' o' → calls_f f b ss' o' ≡ run_f f b (view ss' o'))
        → up_to (answered r) (calls_f f b (statuses r) (last r)) ≡ up_to (answer (seen r)) (run_f f b (rest (seen r)))
    go (reply x ss' o') i ih = ap (up_to x) (ih ss' o' i)

-- from the hints, with nothing handed out yet
pub calls_start : (f : ℕ) (b : ℕ → Stream) (hs : List ℕ) → calls_f f b (start hs) none ≡ run_f f b (start hs)
unfolding view
calls_start f b hs = calls_same f b (start hs) none tt

-- ---- so the theorems hold of the rules' machine

pub told_run : (b : ℕ → Stream) (hs : List ℕ) → literal_run b hs ≡ run b hs
unfolding literal_run run
told_run b hs = calls_start (suc (bytes b (length hs))) b hs

pub told_keeps : (b : ℕ → Stream) (hs : List ℕ) (p : ℕ) → p < length hs → mine p (literal_run b hs) ≡ own (b p) 0
told_keeps b hs p h = ap (mine p) (told_run b hs) ∙ run_keeps b hs p h

pub told_sorted : (b : ℕ → Stream) (hs : List ℕ) → ((p : ℕ) → p < length hs → Rising (get_or hs p 0) (own (b p) 0)) → Sorted (literal_run b hs)
told_sorted b hs h = rw told_run (run_sorted b hs h)
