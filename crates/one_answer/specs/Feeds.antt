-- The answers where streams arrive in portions: two that say the same number and the same values are one answer. Assumes nothing.
use Rattle.std.specs.Prelude.{◌≡◌, refl, ℕ, Result, Ok, Err, OnOk}
use Rattle.std.proofs.Common.{sym, ap, arith}
use Rattle.theory.specs.Answer.{one_value, no_values}
use Rattle.leaves.specs.Refusal.{answer_with}
use Rattle.leaves.specs.RefusalLaws.{refused_one}
use Rattle.leaves.specs.declared.refusal.Refusal.{Refusal}
use Rattle.records.specs.declared.merge.Record.{Record}
use Rattle.feed.specs.Answers.{fed_of, opened_of}
use Rattle.feed.specs.declared.turns.Fed.{Fed}
use Rattle.feed.specs.declared.turns.Fed.TheVariants as fed
use Rattle.one_answer.specs.Leaves.{done_or_refused}

-- an opening: its answer, and where it is no refusal how many streams the heap holds
pub opened_one : (h k : ℕ) (x y : Result ℕ Refusal) → opened_of h x ≡ opened_of k y → (x ≡ y) × OnOk x (h ≡ k)
opened_one h k (Ok a) (Ok c) e = (cc, cc)
opened_one h k (Ok a) (Err q) e = absurd (done_or_refused q e)
opened_one h k (Err r) (Ok c) e = absurd (done_or_refused r (sym e))
opened_one h k (Err r) (Err q) e = (ap Err (refused_one r q e), tt)

pub added_one : (x y : Result ℕ Refusal) → answer_with one_value x ≡ answer_with one_value y → x ≡ y
added_one (Ok a) (Ok b) e = cc
added_one (Ok a) (Err q) e = absurd (done_or_refused q e)
added_one (Err r) (Ok b) e = absurd (done_or_refused r (sym e))
added_one (Err r) (Err q) e = ap Err (refused_one r q e)

pub ended_one : (x y : Result (Unit {0}) Refusal) → answer_with no_values x ≡ answer_with no_values y → x ≡ y
ended_one (Ok a) (Ok b) e = refl
ended_one (Ok a) (Err q) e = absurd (done_or_refused q e)
ended_one (Err r) (Ok b) e = absurd (done_or_refused r (sym e))
ended_one (Err r) (Err q) e = ap Err (refused_one r q e)

handed_by : ℕ → ℕ → ℕ → ℕ → ℕ → ℕ → ℕ → Fed
handed_by stream place at size kind instrument time =
    fed.Record (record { stream = stream; place = place; length = size; kind = kind; instrument = instrument; time = time }) at

pub fed_one : (x y : Result Fed Refusal) → fed_of x ≡ fed_of y → x ≡ y
unfolding handed_by
fed_one (Ok (fed.Record r a)) (Ok (fed.Record s b)) e =
    let z : handed_by r.stream r.place a r.length r.kind r.instrument r.time ≡ handed_by s.stream s.place b s.length s.kind s.instrument s.time = cc in
    ap Ok z
fed_one (Ok (fed.Record r a)) (Ok fed.End) e = let z : ◌≡◌ {A = ℕ} 0 1 = cc in absurd (omega arith)
fed_one (Ok (fed.Record r a)) (Ok (fed.NeedMore p)) e = let z : ◌≡◌ {A = ℕ} 0 1 = cc in absurd (omega arith)
fed_one (Ok (fed.Record r a)) (Err q) e = absurd (done_or_refused q e)
fed_one (Ok fed.End) (Ok (fed.Record s b)) e = let z : ◌≡◌ {A = ℕ} 0 1 = cc in absurd (omega arith)
fed_one (Ok fed.End) (Ok fed.End) e = refl
fed_one (Ok fed.End) (Ok (fed.NeedMore p)) e = let z : ◌≡◌ {A = ℕ} 0 1 = cc in absurd (omega arith)
fed_one (Ok fed.End) (Err q) e = absurd (done_or_refused q e)
fed_one (Ok (fed.NeedMore p)) (Ok (fed.Record s b)) e = let z : ◌≡◌ {A = ℕ} 0 1 = cc in absurd (omega arith)
fed_one (Ok (fed.NeedMore p)) (Ok fed.End) e = let z : ◌≡◌ {A = ℕ} 0 1 = cc in absurd (omega arith)
fed_one (Ok (fed.NeedMore p)) (Ok (fed.NeedMore q)) e = cc
fed_one (Ok (fed.NeedMore p)) (Err q) e = absurd (done_or_refused q e)
fed_one (Err r) (Ok (fed.Record s b)) e = absurd (done_or_refused r (sym e))
fed_one (Err r) (Ok fed.End) e = absurd (done_or_refused r (sym e))
fed_one (Err r) (Ok (fed.NeedMore p)) e = absurd (done_or_refused r (sym e))
fed_one (Err r) (Err q) e = ap Err (refused_one r q e)
