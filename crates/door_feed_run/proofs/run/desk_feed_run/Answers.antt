-- What the run made is handed over. Assumes nothing.
use mathlib.Core.Path.{◌≡◌, sym}
use mathlib.Core.List.{List}
use Prim.Native.Nat.{ℕ}
use borrow.Author.Rules.{rules}
use Rattle.theory.specs.Answer.{Answer}
use Rattle.records_state.specs.declared.state.State.{State}
use Rattle.feed_rules.specs.Spans.{FeedArrays, feed_arrays}
use Rattle.feed.specs.Lent.{feed_arrays_of}
use Rattle.feed_run.specs.Run.{FeedRunGives}
use Rattle.door_run.specs.Handing.{Numbers, RunHanded, handed_as}
use Rattle.door_feed_run.specs.Run.{DeskFeedRun}
use Rattle.door_feed_run.proofs.run.desk_feed_run.Goals as goal

-- the caller's arrays where the state t was left in them
there : (t : State) {ms ts cs hs hp : List ℕ} (ps : List ℕ) → ms ≡ t.marks.now → ts ≡ t.times.now → cs ≡ t.places.now → hs ≡ t.heads.now
    → hp ≡ t.heap.now → feed_arrays_of t ps ≡ feed_arrays ms ts cs hs hp ps
there t ps em et ec eh ep = λ i. feed_arrays (sym em i) (sym et i) (sym ec i) (sym eh i) (sym ep i) ps

handed : {window : List ℕ} {allowance held c w r : ℕ} {a a' : FeedArrays} {ws ws' : List ℕ} {x : Answer} {o o' : Numbers} (t : State) (ps : List ℕ)
    → feed_arrays_of t ps ≡ a' → FeedRunGives window allowance held a ws c w t.held x (feed_arrays_of t ps) ws'
    → RunHanded x c w r o o' → DeskFeedRun window allowance held a ws o r t.held a' ws' o'
handed t ps e g h = rw (← e) (record {
  refused = λ no. let y = g.refused no in (handed_as h y.answers y.calls y.written, y.held, y.untouched, y.list);
  made = λ yes n few ok.
      let y = g.says yes n few ok in
      let z = y.gives in
      record { hands = record { handed = handed_as h z.answers z.calls z.written; list = z.list }; leaves = y.leaves; sound = y.sound };
})

pub returns : goal.returns
returns c =
    handed c.run-made.new.state c.run-made.new.spans
    (there c.run-made.new.state c.run-made.new.spans (search rules) (search rules) (search rules) (search rules) (search rules))
    c.run-made.ensures.says c.hand_made.ensures
