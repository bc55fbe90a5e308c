-- Calls of the code, one after the other: their answers are the machine's from the same statuses on, however the heap is arranged.
-- Assumes nothing.
use Rattle.std.specs.Prelude.{◌≡◌, refl, ℕ, zero, suc, ◌≤◌, ◌<◌, List, ◌∷◌, ◌++◌, map, length, get_or, take, replicate}
use Rattle.std.proofs.Common.{sym, ap, ◌∙◌, arith}
use Rattle.theory.specs.Answer.{Answer}
use Rattle.records_rules.specs.Machine.{Stream, record_at_lem, damage_at, own, Status, says, end, Turn, turn, answers_f, up_to, run_f, start, mine}
use Rattle.records_rules.specs.Machine as machine
use Rattle.records_rules.specs.Kept.{size, total, TurnOk}
use Rattle.records_rules.proofs.Kept.{next_ok}
use Rattle.records_rules.specs.Whole.{bytes, run, total_start, counted}
use Rattle.records_rules.proofs.Whole.{run_ends, run_calls, stays}
use Rattle.records_rules.specs.Literal.{literal_run}
use Rattle.records_rules.proofs.Literal.{told_run, told_keeps}
use Rattle.records_rules.specs.View.{length_tab}
use Rattle.records_rules.specs.State.{answer_of, padded, OpenedIn}
use Rattle.records_rules.specs.Calls.{Lent, Calls, opened_calls, ToldWhole}

-- ---- calls to the end and past it

ended : (f : ℕ) (b : ℕ → Stream) (ss : List Status) → machine.next b ss ≡ turn end ss → answers_f f b ss ≡ replicate f end
unfolding answers_f machine.answer machine.rest
ended zero b ss e = refl
ended (suc f) b ss e = rw e (ap (λ (xs : List machine.Answer). end ∷ xs) (ended f b ss e))

take_same : (f m : ℕ) (x : machine.Answer) → f ≤ m → take f (replicate m x) ≡ replicate f x
take_same zero m x h = refl
take_same (suc f) zero x h = absurd (omega arith)
take_same (suc f) (suc m) x h = ap (λ (xs : List machine.Answer). x ∷ xs) (take_same f m x (omega arith))

-- f calls: the first f of the run and then of the end again and again
answers_first : (f g m : ℕ) (b : ℕ → Stream) (ss : List Status) → total b ss < g → f ≤ m → answers_f f b ss ≡ take f (run_f g b ss ++ replicate m end)
unfolding answers_f run_f up_to machine.answer machine.rest size
answers_first zero g m b ss h l = refl
answers_first (suc f) zero m b ss h l = absurd (omega arith)
answers_first (suc f) (suc g) m b ss h l = go (machine.next b ss) refl (next_ok b ss) (λ ss' k. answers_first f g m b ss' k (omega arith))
  where
    go : (r : Turn) → machine.next b ss ≡ r → TurnOk b ss r
        → ((ss' : List Status) → total b ss' < g → answers_f f b ss' ≡ take f (run_f g b ss' ++ replicate m end))
        → machine.answer r ∷ answers_f f b (machine.rest r) ≡ take (suc f) (up_to (machine.answer r) (run_f g b (machine.rest r)) ++ replicate m end)
    go (turn (says q y) ss') e (z, c) ih = ap (λ (xs : List machine.Answer). says q y ∷ xs) (ih ss' (omega (arith, z.less)))
    go (turn end ss') e (z, c) ih =
        ap (λ (xs : List machine.Answer). end ∷ xs) (ended f b ss' (stays b ss ss' e) ∙ sym (take_same f m end (omega arith)))

-- THE THEOREM: an opening and then any number of calls
pub opened_told : {b : ℕ → Stream} {n : ℕ} {hints : List ℕ} {s : Lent} {xs : List Answer}
    → OpenedIn n hints s.arrays → Calls b n s xs → ToldWhole b n hints xs
unfolding run padded
opened_told {b} {n} {hints} {s} {xs} o x =
    let hs = padded n hints in
    let l : length hs ≡ n = length_tab n (λ q. get_or hints q 0) in
    let f = length xs in
    let same : answers_f f b (start hs) ≡ take f (literal_run b hs ++ replicate f end) =
    answers_first f (suc (bytes b (length hs))) f b (start hs) (omega (arith, total_start b hs)) (omega arith)
    ∙ ap (λ (ys : List machine.Answer). take f (ys ++ replicate f end)) (sym (told_run b hs)) in
    record {
      answers = opened_calls o x ∙ ap (map answer_of) same;
      keeps = λ p k. told_keeps b hs p (omega arith);
      ends = rw (told_run b hs) (run_ends b hs);
      calls = ap length (told_run b hs) ∙ run_calls b hs ∙ ap (λ (k : ℕ). suc (counted b k)) l;
    }
