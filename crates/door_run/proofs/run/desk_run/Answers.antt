-- What the run made is handed over. Assumes nothing.
use mathlib.Core.Path.{◌≡◌, sym}
use mathlib.Core.List.{List}
use Prim.Native.Nat.{ℕ}
use borrow.Author.Rules.{rules}
use Rattle.theory.specs.Answer.{Answer}
use Rattle.records_rules.specs.Machine.{Stream}
use Rattle.records_rules.specs.State.{Arrays, arrays}
use Rattle.records_state.specs.Lent.{arrays_of}
use Rattle.records_state.specs.declared.state.State.{State}
use Rattle.records_run.specs.Run.{RunGives}
use Rattle.door_run.specs.Handing.{Numbers, RunHanded, handed_as}
use Rattle.door_run.specs.Run.{DeskRun}
use Rattle.door_run.proofs.run.desk_run.Goals as goal

-- the caller's arrays where the state t was left in them
there : (t : State) {ms ts cs hs hp : List ℕ} → ms ≡ t.marks.now → ts ≡ t.times.now → cs ≡ t.places.now → hs ≡ t.heads.now → hp ≡ t.heap.now
    → arrays_of t ≡ arrays ms ts cs hs hp
there t em et ec eh ep = λ i. arrays (sym em i) (sym et i) (sym ec i) (sym eh i) (sym ep i)

handed : {b : ℕ → Stream} {allowance held c w r : ℕ} {a a' : Arrays} {ws ws' : List ℕ} {x : Answer} {o o' : Numbers} (t : State) → arrays_of t ≡ a'
    → RunGives b allowance held a ws c w t.held x (arrays_of t) ws' → RunHanded x c w r o o' → DeskRun b allowance held a ws o r t.held a' ws' o'
handed t e g h = rw (← e) (record {
  refused = λ no. let y = g.refused no in (handed_as h y.answers y.calls y.written, y.held, y.untouched, y.list);
  made = λ yes n few ok.
      let y = g.says yes n few ok in
      let z = y.gives in
      record { hands = record { handed = handed_as h z.answers z.calls z.written; list = z.list }; leaves = y.leaves; sound = y.sound };
})

pub returns : goal.returns
returns c =
    handed c.run-made.new.state (there c.run-made.new.state (search rules) (search rules) (search rules) (search rules) (search rules))
    c.run-made.ensures.says c.hand_made.ensures
