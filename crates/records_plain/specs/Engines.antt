-- Both engines give the same answer at every call (RULES, Requests, No. 12): each call's contract names the machine's answer and the
-- statuses that it leaves, so answers depend on the statuses alone, and both openings leave the same. Over traces of calls of both
-- codes; hints and damage included. Assumes nothing.
use Rattle.std.specs.Prelude.{◌≡◌, refl, ℕ, ◌-◌, Bool, true, List, ◌∷◌, map, length}
use Rattle.std.proofs.Common.{sym, ap, ap₂, ◌∙◌}
use Rattle.theory.specs.Answer.{Answer}
use Rattle.records_rules.specs.Machine.{Stream, Status, answers_f}
use Rattle.records_rules.specs.Machine as machine
use Rattle.records_rules.specs.State.{answer_of, right_streams, opening, Arrays, fit_in, SaysIn, OpenedIn, OpenSays}
use Rattle.records_rules.specs.Calls.{Lent, Calls, statuses_in, calls_are, answers_alike}
use Rattle.records_plain.specs.Plain.{plain_fits, PlainSays, PlainOpened, PlainOpens, PlainLent, statuses_lent, PlainCalls, stop, call}

-- the two openings of one buffer, cuts and hints, where both memories are right: equal answers, refused or done, and where they are done
-- equal statuses
pub openings : {buffer cuts hints : List ℕ} {x y : Answer} {a : Arrays} {ms ts cs hs : List ℕ} (s : Lent) (s' : PlainLent)
    → fit_in 0 a ≡ true → plain_fits 0 ms ts cs hs ≡ true → OpenSays buffer cuts hints a x s.arrays
    → PlainOpens buffer cuts hints ms ts cs hs y s'.marks s'.times s'.places s'.heads
    → (x ≡ y) × (right_streams (length buffer) cuts (length hints) ≡ true
    → statuses_in (length cuts - 1) s ≡ statuses_lent (length cuts - 1) s')
openings {buffer} {cuts} {hints} s s' m m' o p =
    let right = right_streams (length buffer) cuts (length hints) in (
      o.answers ∙ ap (λ (c : Bool). opening c right (length cuts - 1)) (m ∙ sym m') ∙ sym p.answers,
      λ r. (o.opened (rw (m, r))).starts ∙ sym (p.opened (rw (m', r))).starts,
    )

-- one call of each from equal statuses: equal answers, and equal statuses after
pub engines_step : {b : ℕ → Stream} {n : ℕ} {x y : Answer} (s t : Lent) (s' t' : PlainLent) → statuses_in n s ≡ statuses_lent n s'
    → SaysIn b n s.arrays x t.held t.arrays
    → PlainSays b n s'.marks s'.times s'.places s'.heads y t'.marks t'.times t'.places t'.heads
    → (x ≡ y) × (statuses_in n t ≡ statuses_lent n t')
engines_step {b} s t s' t' e h p = (
  h.heard ∙ ap (λ (ss : List Status). answer_of (machine.answer (machine.next b ss))) e ∙ sym p.heard,
  h.leaves ∙ ap (λ (ss : List Status). machine.rest (machine.next b ss)) e ∙ sym p.leaves,
)

-- the plain engine's answers are the machine's
pub plain_calls_are : {b : ℕ → Stream} {n : ℕ} {s : PlainLent} {xs : List Answer} → PlainCalls b n s xs
    → xs ≡ map answer_of (answers_f (length xs) b (statuses_lent n s))
unfolding answers_f
plain_calls_are stop = refl
plain_calls_are {b} {n} {s} (call {xs = xs} told more) =
    ap₂ ◌∷◌ told.heard (plain_calls_are more ∙ ap (λ (ss : List Status). map answer_of (answers_f (length xs) b ss)) told.leaves)

-- from equal statuses on, both answer equally for ever
pub engines_from : {b : ℕ → Stream} {n : ℕ} {s : Lent} {s' : PlainLent} {xs ys : List Answer} → statuses_in n s ≡ statuses_lent n s'
    → Calls b n s xs → PlainCalls b n s' ys → length xs ≡ length ys → xs ≡ ys
engines_from {b} e x y l = answers_alike b e l (calls_are x) (plain_calls_are y)

-- THE THEOREM: both opened on the same streams and hints, and called equally often, answer the same, call by call
pub engines : {b : ℕ → Stream} {n : ℕ} {hints : List ℕ} {s : Lent} {s' : PlainLent} {xs ys : List Answer}
    → OpenedIn n hints s.arrays
    → PlainOpened n hints s'.marks s'.times s'.places s'.heads
    → Calls b n s xs → PlainCalls b n s' ys → length xs ≡ length ys → xs ≡ ys
engines o o' x y l = engines_from (o.starts ∙ sym o'.starts) x y l
