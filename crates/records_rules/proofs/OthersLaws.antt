-- One stream leaves the others alone (RULES, Requests, No. 11), of the machine: a run's other answers are those of the run in which the
-- stream p is gone from the start, and streams that differ in p alone run alike once it is gone. Assumes nothing.
use Rattle.std.specs.Prelude.{◌≡◌, ◌≢◌, Bool, length, set}
use Rattle.std.proofs.Math.Path.{refl, sym, ap}
use Rattle.std.proofs.Common.{ap₂, ◌∙◌, arith, suc-ne-zero, get_or-set_other, set-set, eq-eqb}
use Prim.Native.Nat.{ℕ, zero, suc, ◌+◌, ◌*◌, ◌≤◌, ◌<◌}
use Rattle.std.proofs.Math.Decide.{ℕ_discrete}
use Rattle.std.proofs.Math.Nat.{suc_inj}
use Rattle.std.proofs.Math.Bool.{cond}
use Rattle.std.proofs.Math.Option.{Option, none, some}
use mathlib.Core.List.{List, [], ◌∷◌}
use Rattle.std.proofs.Math.ListN.{get_or}
use Rattle.std.proofs.lemmas.List.{set_comm}
use Rattle.leaves.specs.Frame.{Read, whole, ended, damaged}
use Rattle.records_rules.specs.Machine.{rec, Stream, Said, record_at_lem, damage_at}
use Rattle.records_rules.specs.Machine.{Status, waiting, standing, gone, key, First, nobody, first, least}
use Rattle.records_rules.specs.Machine.{Answer, says, end, Step, done, again, after_read, chosen, step_at, step, Turn, turn, next, answer, rest, up_to, start, next_f, onward, run_f}
use Rattle.records_rules.specs.Least.{Upto, IsFirst, LeastOk, least_ok, least_is, least_none}
use Rattle.records_rules.specs.Kept.{inside, total, waits, unread, sum_set, size, StepOk}
use Rattle.records_rules.proofs.Kept.{step_ok}
use Rattle.records_rules.proofs.Rules.{next_done, next_again}
use Rattle.records_rules.specs.Others.{without, others, records, reports}
use Rattle.records_rules.specs.Whole.{all_from, set_gone, run, Ends}
use Rattle.records_rules.proofs.Whole.{all_step, run_same, run_all, run_ends}

-- ---- a run by steps

pub all_done : (b : ℕ → Stream) (ss : List Status) (x : Answer) (ss' : List Status) → step b ss ≡ done x ss' → all_from b ss ≡ up_to x (all_from b ss')
unfolding answer rest
all_done b ss x ss' e = all_step b ss ∙ ap (λ (r : Turn). up_to (answer r) (all_from b (rest r))) (next_done b ss x ss' e)

pub all_again : (b : ℕ → Stream) (ss ss' : List Status) → step b ss ≡ again ss' → all_from b ss ≡ all_from b ss'
all_again b ss ss' e =
    all_step b ss ∙ ap (λ (r : Turn). up_to (answer r) (all_from b (rest r))) (next_again b ss ss' e) ∙ sym (all_step b ss')

-- what falls at each step
unfoldable pub work : (ℕ → Stream) → List Status → ℕ
work b ss = 2 * total b ss + waits ss

waits_more : (ss : List Status) (q : ℕ) (s : Status) → q < length ss → waits (set ss q s) ≤ suc (waits ss)
unfolding waits unread
waits_more ss q s h = omega (arith, sum_set (λ p s. unread s) ss q s h, one s)
  where
    one : (x : Status) → unread x ≤ 1
    one (waiting n a) = omega arith
    one (standing a r) = omega arith
    one gone = omega arith

never {ℓ} : {X : Type ℓ} (k : Option ℕ) (u : ℕ) → k ≡ none → k ≡ some u → X
never k u d e = let z : ◌≡◌ {A = ℕ} 0 1 = cc in absurd (omega arith)

-- the statuses without the stream p
unfoldable pub bare : ℕ → List Status → List Status
bare p ss = set ss p gone

bare_first : (p : ℕ) (ss : List Status) (t q : ℕ) → q ≢ p → IsFirst ss t q → IsFirst (set ss p gone) t q
unfolding key
bare_first p ss t q d k = record { has = ap key (get_or-set_other ss p q gone gone d) ∙ k.has; low = λ r u e. at r u e (ℕ_discrete r p) }
  where
    at : (r u : ℕ) → key (get_or (set ss p gone) r gone) ≡ some u → Dec (r ≡ p) → Upto t q u r
    at r u e (yes z) = never (key (get_or (set ss p gone) r gone)) u (ap (λ (i : ℕ). key (get_or (set ss p gone) i gone)) z ∙ ap key (set_gone ss p)) e
    at r u e (no z) = k.low r u (ap key (sym (get_or-set_other ss p r gone gone z)) ∙ e)

module _ (p f : ℕ) (b : ℕ → Stream) (ss : List Status) (h : work b ss < suc f)
    (ih : (ss' : List Status) → work b ss' < f → others p (all_from b ss') ≡ others p (all_from b (set ss' p gone))) where
  abbrev Goal : Type 0
  Goal = others p (all_from b ss) ≡ others p (all_from b (set ss p gone))

  again_less : (ss' : List Status) → step b ss ≡ again ss' → work b ss' < f
  unfolding work
  again_less ss' e = let k : StepOk b ss (again ss') = (let z : StepOk b ss (again ss') = rw e at (step_ok b ss) in z) in omega (arith, k.less, k.read)

  done_less : (q : ℕ) (y : Said) (s : Status) → q < length ss → step b ss ≡ done (says q y) (set ss q s) → work b (set ss q s) < f
  unfolding work size
  done_less q y s l e =
      let k : StepOk b ss (done (says q y) (set ss q s)) = (let z : StepOk b ss (done (says q y) (set ss q s)) = rw e at (step_ok b ss) in z) in
      omega (arith, k.0.less, waits_more ss q s l)

  -- p is chosen
  mine_again : (s : Status) → step b ss ≡ again (set ss p s) → Goal
  mine_again s e =
      ap (others p) (all_again b ss (set ss p s) e) ∙ ih (set ss p s) (again_less (set ss p s) e)
      ∙ ap (λ (l : List Status). others p (all_from b l)) (set-set ss p s gone)

  mine_done : (y : Said) (s : Status) → p < length ss → step b ss ≡ done (says p y) (set ss p s) → Goal
  unfolding up_to others without
  mine_done y s l e =
      ap (others p) (all_done b ss (says p y) (set ss p s) e)
      ∙ ap (λ (c : Bool). cond c (others p (all_from b (set ss p s))) (says p y ∷ others p (all_from b (set ss p s)))) (eq-eqb p p refl)
      ∙ ih (set ss p s) (done_less p y s l e)
      ∙ ap (λ (l : List Status). others p (all_from b l)) (set-set ss p s gone)

  mine_read : (a : ℕ) → p < length ss → step b ss ≡ after_read ss p a ((b p).read a) → (r : Read) → (b p).read a ≡ r → Goal
  unfolding after_read
  mine_read a l c ended z = mine_again gone (c ∙ ap (after_read ss p a) z)
  mine_read a l c (damaged r) z = mine_done (damage_at a r) gone l (c ∙ ap (after_read ss p a) z)
  mine_read a l c (whole u v w x) z = mine_again (standing a (rec u v w x)) (c ∙ ap (after_read ss p a) z)

  own : (t : ℕ) → IsFirst ss t p → (s : Status) → get_or ss p gone ≡ s → step b ss ≡ chosen b ss p s → Goal
  unfolding chosen key
  own t k (waiting n a) e c = mine_read a (inside ss p t k.has) c ((b p).read a) refl
  own t k (standing a r) e c = mine_done (record_at_lem a r) (waiting r.time (a + r.size)) (inside ss p t k.has) c
  own t k gone e c = never (key (get_or ss p gone)) t (ap key e) k.has

  -- another is
  module _ (t q : ℕ) (d : q ≢ p) (k : IsFirst ss t q) where
    first_too : (s : Status) → get_or ss q gone ≡ s → step b (set ss p gone) ≡ chosen b (set ss p gone) q s
    unfolding step step_at
    first_too s e =
        ap (step_at b (set ss p gone)) (least_is (set ss p gone) t q (bare_first p ss t q d k))
        ∙ ap (chosen b (set ss p gone) q) (get_or-set_other ss p q gone gone d ∙ e)

    other_again : (s : Status) → step b ss ≡ again (set ss q s) → step b (set ss p gone) ≡ again (set (set ss p gone) q s) → Goal
    other_again s e e' =
        ap (others p) (all_again b ss (set ss q s) e) ∙ ih (set ss q s) (again_less (set ss q s) e)
        ∙ ap (λ (l : List Status). others p (all_from b l)) (set_comm ss q p s gone d)
        ∙ sym (ap (others p) (all_again b (set ss p gone) (set (set ss p gone) q s) e'))

    other_done : (y : Said) (s : Status) → q < length ss → step b ss ≡ done (says q y) (set ss q s)
        → step b (set ss p gone) ≡ done (says q y) (set (set ss p gone) q s) → Goal
    unfolding up_to others
    other_done y s l e e' =
        ap (others p) (all_done b ss (says q y) (set ss q s) e)
        ∙ ap (without p (says q y)) (ih (set ss q s) (done_less q y s l e) ∙ ap (λ (l : List Status). others p (all_from b l)) (set_comm ss q p s gone d))
        ∙ sym (ap (others p) (all_done b (set ss p gone) (says q y) (set (set ss p gone) q s) e'))

    other_read : (n a : ℕ) → get_or ss q gone ≡ waiting n a → q < length ss → step b ss ≡ after_read ss q a ((b q).read a) → (r : Read) → (b q).read a ≡ r → Goal
    unfolding after_read chosen
    other_read n a e l c ended z = other_again gone (c ∙ ap (after_read ss q a) z) (first_too (waiting n a) e ∙ ap (after_read (set ss p gone) q a) z)
    other_read n a e l c (damaged r) z = other_done (damage_at a r) gone l (c ∙ ap (after_read ss q a) z) (first_too (waiting n a) e ∙ ap (after_read (set ss p gone) q a) z)
    other_read n a e l c (whole u v w x) z = other_again (standing a (rec u v w x)) (c ∙ ap (after_read ss q a) z) (first_too (waiting n a) e ∙ ap (after_read (set ss p gone) q a) z)

    other : (s : Status) → get_or ss q gone ≡ s → step b ss ≡ chosen b ss q s → Goal
    unfolding chosen key
    other (waiting n a) e c = other_read n a e (inside ss q t k.has) c ((b q).read a) refl
    other (standing a r) e c = other_done (record_at_lem a r) (waiting r.time (a + r.size)) (inside ss q t k.has) c (first_too (standing a r) e)
    other gone e c = never (key (get_or ss q gone)) t (ap key e) k.has

  at : (t q : ℕ) → least ss ≡ first t q → IsFirst ss t q → Dec (q ≡ p) → Goal
  unfolding step step_at
  at t q e k (no d) = other t q d k (get_or ss q gone) refl (ap (step_at b ss) e)
  at t q e k (yes d) =
      let e' : least ss ≡ first t p = e ∙ ap (first t) d in
      let k' : IsFirst ss t p = rw d at k in
      own t k' (get_or ss p gone) refl (ap (step_at b ss) e')

  none_left : least ss ≡ nobody → ((q : ℕ) → key (get_or ss q gone) ≡ none) → Goal
  unfolding step step_at up_to key
  none_left e k =
      ap (others p) (all_done b ss end ss (ap (step_at b ss) e)
      ∙ sym (all_done b (set ss p gone) end (set ss p gone) (ap (step_at b (set ss p gone)) (least_none (set ss p gone) (λ q. keyless q (ℕ_discrete q p))))))
    where
      keyless : (q : ℕ) → Dec (q ≡ p) → key (get_or (set ss p gone) q gone) ≡ none
      keyless q (yes z) = ap (λ (i : ℕ). key (get_or (set ss p gone) i gone)) z ∙ ap key (set_gone ss p)
      keyless q (no z) = ap key (get_or-set_other ss p q gone gone z) ∙ k q

  erased_step : (r : First) → least ss ≡ r → LeastOk ss r → Goal
  erased_step nobody e k = none_left e k
  erased_step (first t q) e k = at t q e k (ℕ_discrete q p)

-- THE LEMMA: the other answers of a run are those of the run without p
pub erased : (p f : ℕ) (b : ℕ → Stream) (ss : List Status) → work b ss < f → others p (all_from b ss) ≡ others p (all_from b (set ss p gone))
erased p zero b ss h = absurd (omega arith)
erased p (suc f) b ss h = erased_step p f b ss h (λ ss' k. erased p f b ss' k) (least ss) refl (least_ok ss)

-- ---- streams that are the same but for p: where p is gone, they run alike

abbrev GoneIn : ℕ → Step → Type 0
GoneIn p (done x ss) = get_or ss p gone ≡ gone
GoneIn p (again ss) = get_or ss p gone ≡ gone

abbrev GoneAt : ℕ → Turn → Type 0
GoneAt p (turn x ss) = get_or ss p gone ≡ gone

module _ (p : ℕ) (b b' : ℕ → Stream) (agree : (q : ℕ) → q ≢ p → b q ≡ b' q) where
  module _ (ss : List Status) (g : get_or ss p gone ≡ gone) where
    kept : (q : ℕ) → q ≢ p → (s : Status) → get_or (set ss q s) p gone ≡ gone
    kept q d s = get_or-set_other ss q p s gone (λ e. d (sym e)) ∙ g

    after : (q a : ℕ) → q ≢ p → (r : Read) → GoneIn p (after_read ss q a r)
    unfolding after_read
    after q a d ended = kept q d gone
    after q a d (damaged r) = kept q d gone
    after q a d (whole u v w x) = kept q d (standing a (rec u v w x))

    taken : (q : ℕ) → q ≢ p → (s : Status) → (chosen b ss q s ≡ chosen b' ss q s) × GoneIn p (chosen b ss q s)
    unfolding chosen
    taken q d (waiting n a) = (ap (λ (s : Stream). after_read ss q a (s.read a)) (agree q d), after q a d ((b q).read a))
    taken q d (standing a r) = (refl, kept q d (waiting r.time (a + r.size)))
    taken q d gone = (refl, g)

    step_agree : (r : First) → LeastOk ss r → (step_at b ss r ≡ step_at b' ss r) × GoneIn p (step_at b ss r)
    unfolding step_at key
    step_agree nobody k = (refl, g)
    step_agree (first t q) k = taken q (λ e. never (key (get_or ss q gone)) t (ap (λ (i : ℕ). key (get_or ss i gone)) e ∙ ap key g) k.has) (get_or ss q gone)

  next_agree : (f : ℕ) (ss : List Status) → get_or ss p gone ≡ gone → (next_f f b ss ≡ next_f f b' ss) × GoneAt p (next_f f b ss)
  unfolding next_f step onward
  next_agree zero ss g = (refl, g)
  next_agree (suc f) ss g = let z = step_agree ss g (least ss) (least_ok ss) in go (step_at b ss (least ss)) (step_at b' ss (least ss)) z.0 z.1 (λ ss' k. next_agree f ss' k)
    where
      go : (r r' : Step) → r ≡ r' → GoneIn p r → ((ss' : List Status) → get_or ss' p gone ≡ gone → (next_f f b ss' ≡ next_f f b' ss') × GoneAt p (next_f f b ss'))
          → (onward (λ l. next_f f b l) r ≡ onward (λ l. next_f f b' l) r') × GoneAt p (onward (λ l. next_f f b l) r)
      go (done x ss') r' e k ih = (ap (onward (λ l. next_f f b' l)) e, k)
      go (again ss') r' e k ih = ((ih ss' k).0 ∙ ap (onward (λ l. next_f f b' l)) e, (ih ss' k).1)

  run_agree : (f : ℕ) (ss : List Status) → get_or ss p gone ≡ gone → run_f f b ss ≡ run_f f b' ss
  unfolding run_f next answer rest
  run_agree zero ss g = refl
  run_agree (suc f) ss g =
      let z = next_agree (suc (length ss)) ss g in
      go (next_f (suc (length ss)) b ss) z.1 (λ ss' k. run_agree f ss' k) ∙ ap (λ (r : Turn). up_to (answer r) (run_f f b' (rest r))) z.0
    where
      go : (r : Turn) → GoneAt p r → ((ss' : List Status) → get_or ss' p gone ≡ gone → run_f f b ss' ≡ run_f f b' ss')
          → up_to (answer r) (run_f f b (rest r)) ≡ up_to (answer r) (run_f f b' (rest r))
      go (turn x ss') k ih = ap (up_to x) (ih ss' k)

  all_agree : (ss : List Status) → get_or ss p gone ≡ gone → all_from b ss ≡ all_from b' ss
  unfolding all_from
  all_agree ss g =
      let n = suc (total b ss + total b' ss) in
      run_same (suc (total b ss)) n b ss (omega arith) (omega arith) ∙ run_agree n ss g ∙ run_same n (suc (total b' ss)) b' ss (omega arith) (omega arith)

-- the hints of two runs, the same but for p
bare_start : (p : ℕ) (hs hs' : List ℕ) → length hs ≡ length hs' → ((q : ℕ) → q ≢ p → get_or hs q 0 ≡ get_or hs' q 0) → set (start hs) p gone ≡ set (start hs') p gone
unfolding start
bare_start p [] [] l h = refl
bare_start p [] (x ∷ hs') l h = let z : 0 ≡ suc (length hs') = l in absurd (omega arith)
bare_start p (x ∷ hs) [] l h = let z : suc (length hs) ≡ 0 = l in absurd (omega arith)
bare_start zero (x ∷ hs) (y ∷ hs') l h = ap (λ (r : List Status). gone ∷ r) (all_same hs hs' (suc_inj l) (λ q. h (suc q) (suc-ne-zero q)))
  where
    all_same : (hs hs' : List ℕ) → length hs ≡ length hs' → ((q : ℕ) → get_or hs q 0 ≡ get_or hs' q 0) → start hs ≡ start hs'
    all_same [] [] l h = refl
    all_same [] (x ∷ hs') l h = let z : 0 ≡ suc (length hs') = l in absurd (omega arith)
    all_same (x ∷ hs) [] l h = let z : suc (length hs) ≡ 0 = l in absurd (omega arith)
    all_same (x ∷ hs) (y ∷ hs') l h = ap₂ (λ (t : ℕ) (r : List Status). waiting t 0 ∷ r) (h 0) (all_same hs hs' (suc_inj l) (λ q. h (suc q)))
bare_start (suc p) (x ∷ hs) (y ∷ hs') l h =
    ap₂ (λ (t : ℕ) (r : List Status). waiting t 0 ∷ r) (h 0 (λ e. suc-ne-zero p (sym e))) (bare_start p hs hs' (suc_inj l) (λ q d. h (suc q) (λ e. d (suc_inj e))))

-- THE THEOREM (RULES, Requests, No. 11)
pub complaint : (p : ℕ) (b b' : ℕ → Stream) (hs hs' : List ℕ) → length hs ≡ length hs'
    → ((q : ℕ) → q ≢ p → b q ≡ b' q) → ((q : ℕ) → q ≢ p → get_or hs q 0 ≡ get_or hs' q 0)
    → others p (run b hs) ≡ others p (run b' hs')
complaint p b b' hs hs' l e h =
    ap (others p) (run_all b hs)
    ∙ erased p (suc (work b (start hs))) b (start hs) (omega arith)
    ∙ ap (λ (ss : List Status). others p (all_from b ss)) (bare_start p hs hs' l h)
    ∙ ap (others p) (all_agree p b b' e (set (start hs') p gone) (set_gone (start hs') p))
    ∙ sym (erased p (suc (work b' (start hs'))) b' (start hs') (omega arith))
    ∙ sym (ap (others p) (run_all b' hs'))

counted_calls : (xs : List Answer) → Ends xs → length xs ≡ records xs + reports xs + 1
unfolding records reports
counted_calls [] h = absurd h
counted_calls (says p (record_at_lem a r) ∷ xs) h = omega (arith, counted_calls xs h)
counted_calls (says p (damage_at a r) ∷ xs) h = omega (arith, counted_calls xs h)
counted_calls (end ∷ []) h = refl
counted_calls (end ∷ x ∷ xs) h = let z : suc (length xs) ≡ 0 = ap length h in absurd (omega arith)

pub run_counts : (b : ℕ → Stream) (hs : List ℕ) → length (run b hs) ≡ records (run b hs) + reports (run b hs) + 1
run_counts b hs = counted_calls (run b hs) (run_ends b hs)
