-- What a call of a run says and how a run stopped, in the rules' numbers.
use Rattle.std.specs.Prelude.{◌≡◌, refl, ℕ, List, [], ◌∷◌, ◌⊎◌, Result, Ok, Err}
use Rattle.std.specs.declared.ops.ControlFlow.{ControlFlow}
use Rattle.std.specs.declared.ops.ControlFlow.TheVariants.{Continue, Break}
use Rattle.std.proofs.Common.{ap, arith}
use Rattle.theory.specs.Answer.{Answer}
use Rattle.leaves.specs.Refusal.{number_of, answer_with}
use Rattle.leaves.specs.RefusalLaws.{refused_not_done, refused_one}
use Rattle.leaves.specs.declared.refusal.Refusal.{Refusal}
use Rattle.leaves.specs.declared.refusal.Refusal.TheVariants as refusal
use Rattle.run_rules.specs.Rows.{Note, writes, stops}
use Rattle.run_list.specs.declared.list.Row.{Row}
use Rattle.run_list.specs.declared.run.Last.{Last}
use Rattle.run_list.specs.declared.run.Last.TheVariants as last

-- 1 where a further call may be made, 0 at the end, 2 with the stream of which more is needed first
abbrev pub last_values : Last → List ℕ
last_values last.Going = 1 ∷ []
last_values last.End = 0 ∷ []
last_values (last.NeedMore stream) = 2 ∷ stream ∷ []

abbrev pub last_of : Result Last Refusal → Answer
last_of r = answer_with last_values r

-- a call is noted by its record, or by how the run stops
abbrev pub note_of : ControlFlow (Result Last Refusal) Row → Note
note_of (Continue row) = writes row.stream row.place row.time
note_of (Break r) = stops (last_of r)

-- calls stop where a further one may be made, or as a call may stop them
abbrev pub Stops : (Result Last Refusal → Type 0) → Result Last Refusal → Type 0
Stops may_stop r = (r ≡ Ok last.Going) ⊎ may_stop r

-- a run stops as its calls do, or before them where what is lent is not right
abbrev pub RunStops : (Result Last Refusal → Type 0) → Result Last Refusal → Type 0
RunStops may_stop r = (r ≡ Err refusal.BadMemory) ⊎ Stops may_stop r

-- only one answer fits
pub last_one : (x y : Result Last Refusal) → last_of x ≡ last_of y → x ≡ y
last_one (Ok last.Going) (Ok last.Going) z = refl
last_one (Ok last.Going) (Ok last.End) z = let n : ◌≡◌ {A = ℕ} 1 0 = cc in absurd (omega arith)
last_one (Ok last.Going) (Ok (last.NeedMore q)) z = let n : ◌≡◌ {A = ℕ} 1 2 = cc in absurd (omega arith)
last_one (Ok last.Going) (Err q) z = let n : number_of q ≡ 0 = cc in absurd (refused_not_done q n)
last_one (Ok last.End) (Ok last.Going) z = let n : ◌≡◌ {A = ℕ} 0 1 = cc in absurd (omega arith)
last_one (Ok last.End) (Ok last.End) z = refl
last_one (Ok last.End) (Ok (last.NeedMore q)) z = let n : ◌≡◌ {A = ℕ} 0 2 = cc in absurd (omega arith)
last_one (Ok last.End) (Err q) z = let n : number_of q ≡ 0 = cc in absurd (refused_not_done q n)
last_one (Ok (last.NeedMore p)) (Ok last.Going) z = let n : ◌≡◌ {A = ℕ} 2 1 = cc in absurd (omega arith)
last_one (Ok (last.NeedMore p)) (Ok last.End) z = let n : ◌≡◌ {A = ℕ} 2 0 = cc in absurd (omega arith)
last_one (Ok (last.NeedMore p)) (Ok (last.NeedMore q)) z = cc
last_one (Ok (last.NeedMore p)) (Err q) z = let n : number_of q ≡ 0 = cc in absurd (refused_not_done q n)
last_one (Err r) (Ok last.Going) z = let n : number_of r ≡ 0 = cc in absurd (refused_not_done r n)
last_one (Err r) (Ok last.End) z = let n : number_of r ≡ 0 = cc in absurd (refused_not_done r n)
last_one (Err r) (Ok (last.NeedMore q)) z = let n : number_of r ≡ 0 = cc in absurd (refused_not_done r n)
last_one (Err r) (Err q) z = ap Err (refused_one r q z)
