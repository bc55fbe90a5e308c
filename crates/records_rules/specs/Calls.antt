-- Calls of the code, one after the other: their answers are the machine's from the same statuses on, however the heap is arranged.
-- Assumes nothing.
-- What rests on a step of the machine stands in proofs/Calls.
use Rattle.std.specs.Prelude.{◌≡◌, refl, ℕ, suc, ◌<◌, List, [], ◌∷◌, ◌++◌, map, length, take, replicate}
use Rattle.std.proofs.Common.{sym, ap, ap₂, ◌∙◌, arith}
use Rattle.theory.specs.Answer.{Answer}
use Rattle.records_rules.specs.Machine.{Stream, record_at_lem, damage_at, own, Status, says, end, Turn, turn, answers_f, up_to, run_f, start, mine}
use Rattle.records_rules.specs.Machine as machine
use Rattle.records_rules.specs.Whole.{Ends, counted}
use Rattle.records_rules.specs.Literal.{literal_run}
use Rattle.records_rules.specs.State.{answer_of, padded, Arrays, statuses_at, SaysIn, OpenedIn}

-- what the caller lends, and how much of the heap is in use
pub record Lent : Type 0 where
  pub held : ℕ
  pub arrays : Arrays

-- the statuses of the first n streams
abbrev pub statuses_in : ℕ → Lent → List Status
statuses_in n s = statuses_at n s.arrays

-- calls of `next` from the state s on, and what they answered
pub data Calls (b : ℕ → Stream) (n : ℕ) : Lent → List Answer → Type 0 where
  stop : {s : Lent} → Calls b n s []
  call : {s s' : Lent} {x : Answer} {xs : List Answer}
      → SaysIn b n s.arrays x s'.held s'.arrays
      → Calls b n s' xs → Calls b n s (x ∷ xs)

-- the answers are the machine's
pub calls_are : {b : ℕ → Stream} {n : ℕ} {s : Lent} {xs : List Answer} → Calls b n s xs → xs ≡ map answer_of (answers_f (length xs) b (statuses_in n s))
unfolding answers_f
calls_are stop = refl
calls_are {b} {n} {s} (call {xs = xs} told more) =
    ap₂ ◌∷◌ told.heard (calls_are more ∙ ap (λ (ss : List Status). map answer_of (answers_f (length xs) b ss)) told.leaves)

-- equally many answers that are the machine's from equal statuses on are equal
pub answers_alike : (b : ℕ → Stream) {ss ts : List Status} {xs ys : List Answer} → ss ≡ ts → length xs ≡ length ys
    → xs ≡ map answer_of (answers_f (length xs) b ss) → ys ≡ map answer_of (answers_f (length ys) b ts) → xs ≡ ys
answers_alike b e l x y = x ∙ ap₂ (λ (f : ℕ) (ss : List Status). map answer_of (answers_f f b ss)) l e ∙ sym y

-- states of equal statuses answer equally for ever
pub equal_for_ever : {b : ℕ → Stream} {n : ℕ} {s t : Lent} {xs ys : List Answer} → statuses_in n s ≡ statuses_in n t
    → Calls b n s xs → Calls b n t ys → length xs ≡ length ys → xs ≡ ys
equal_for_ever {b} e x y l = answers_alike b e l (calls_are x) (calls_are y)

-- from an opening on they are the machine's from the hints on
pub opened_calls : {b : ℕ → Stream} {n : ℕ} {hints : List ℕ} {s : Lent} {xs : List Answer} → OpenedIn n hints s.arrays
    → Calls b n s xs → xs ≡ map answer_of (answers_f (length xs) b (start (padded n hints)))
opened_calls {b} {xs = xs} o x = calls_are x ∙ ap (λ (ss : List Status). map answer_of (answers_f (length xs) b ss)) o.starts

-- ---- calls to the end and past it

-- what so many calls of `next` after an opening of n streams answered: what the rules' machine tells up to its end, and then the end
-- again and again, as far as calls went; of the stream p it tells the records from place 0 on, in order, each once, and then its one
-- damage report
pub record ToldWhole (b : ℕ → Stream) (n : ℕ) (hints : List ℕ) (xs : List Answer) : Type 0 where
  pub answers : xs ≡ map answer_of (take (length xs) (literal_run b (padded n hints) ++ replicate (length xs) end))
  pub keeps : (p : ℕ) → p < n → mine p (literal_run b (padded n hints)) ≡ own (b p) 0
  -- it ends, and after as many answers as there are records and damage reports
  pub ends : Ends (literal_run b (padded n hints))
  pub calls : length (literal_run b (padded n hints)) ≡ suc (counted b n)

-- different answers of the machine have different numbers and values, so the answers tell which they are
pub answer_one : (x y : machine.Answer) → answer_of x ≡ answer_of y → x ≡ y
answer_one (says p (record_at_lem a r)) (says q (record_at_lem c s)) e =
    let e₁ : p ≡ q = cc in
    let e₂ : a ≡ c = cc in
    let e₃ : r.size ≡ s.size = cc in
    let e₄ : r.kind ≡ s.kind = cc in
    let e₅ : r.instrument ≡ s.instrument = cc in
    let e₆ : r.time ≡ s.time = cc in
    λ i. says (e₁ i) (record_at_lem (e₂ i) (record { size = e₃ i; kind = e₄ i; instrument = e₅ i; time = e₆ i }))
answer_one (says p (record_at_lem a r)) (says q (damage_at c k)) e = let z : ◌≡◌ {A = ℕ} 0 13 = cc in absurd (omega arith)
answer_one (says p (record_at_lem a r)) end e = let z : ◌≡◌ {A = ℕ} 0 1 = cc in absurd (omega arith)
answer_one (says p (damage_at a j)) (says q (record_at_lem c s)) e = let z : ◌≡◌ {A = ℕ} 0 13 = cc in absurd (omega arith)
answer_one (says p (damage_at a j)) (says q (damage_at c k)) e = cc
answer_one (says p (damage_at a j)) end e = let z : ◌≡◌ {A = ℕ} 0 13 = cc in absurd (omega arith)
answer_one end (says q (record_at_lem c s)) e = let z : ◌≡◌ {A = ℕ} 0 1 = cc in absurd (omega arith)
answer_one end (says q (damage_at c k)) e = let z : ◌≡◌ {A = ℕ} 0 13 = cc in absurd (omega arith)
answer_one end end e = refl
