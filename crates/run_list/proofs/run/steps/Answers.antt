-- Loop: what the run is to hand back is what is handed back from here on (`Here`). Assumes nothing.
use mathlib.Core.Path.{◌≡◌, refl, subst, ◌∙◌}
use mathlib.Core.Bool.{true, false}
use native.Mathlib.Omega.{arith}
use Rattle.run_rules.specs.Rows.{Note, going, Noted}
use Rattle.run_rules.specs.RowsLaws.{noted_record, noted_stop, here_start, here_done, here_more, here_stop}
use Rattle.run_list.specs.Run.{last_of}
use Rattle.run_list.proofs.run.steps.Goals as goal

pub loop-at-init : goal.loop-at-init
loop-at-init g c = (c.requires.0, g.met.C.Calls.leaves_refl _ _, λ n m h. (m, here_start _ _ _ m c.args.list.now, h))

pub loop-at-preserved : goal.loop-at-preserved
loop-at-preserved g c =
    let i = c.loop-at.invariant in
    let say = g.C.Calls.say c.args.calls.now in
    let go = g.C.Calls.go c.args.calls.now in
    let kept = c.call.ensures.memory in (
      g.met.C.Calls.room_left _ _ _ _ i.0 kept,
      g.met.C.Calls.leaves_trans _ _ _ _ _ _ i.1 kept,
      λ n m h.
          let z = i.2 n m h in
          let told = c.in-Continue.ensures.says n z.0 z.2 in
          let noted : Noted c.loop-at.list c.loop-at.at (say z.0) true going c.put_row.new.list =
          subst (λ (x : Note). Noted c.loop-at.list c.loop-at.at x true going c.put_row.new.list) (told.0 ∙ g.met.C.Calls.say_left _ _ _ _ i.1 z.0)
          (noted_record _ _ _ _ _ c.put_row.ensures) in (
            go z.0,
            here_more say go z.1 noted c.loop-at-test.true refl,
            subst (g.C.Calls.shows c.call.new.self c.call.new.state n) (g.met.C.Calls.go_left _ _ _ _ i.1 z.0) told.1,
          ),
    )

pub returns-in-Break-clause-says : goal.returns-in-Break-clause-says
returns-in-Break-clause-says g c = λ n m h.
    let say = g.C.Calls.say c.args.calls.now in
    let go = g.C.Calls.go c.args.calls.now in
    let i = c.loop-at.invariant in
    let z = i.2 n m h in
    let told = c.in-Break.ensures.says n z.0 z.2 in
    let noted : Noted c.loop-at.list c.loop-at.at (say z.0) false (last_of c.in-Break.last) c.loop-at.list =
    subst (λ (x : Note). Noted c.loop-at.list c.loop-at.at x false (last_of c.in-Break.last) c.loop-at.list) (told.0 ∙ g.met.C.Calls.say_left _ _ _ _ i.1 z.0) (noted_stop _ _ refl) in
    let o = here_stop say go z.1 noted c.loop-at-test.true c.requires.1 refl in
    (o.gives, subst (g.C.Calls.shows c.call.new.self c.call.new.state n) (g.met.C.Calls.go_left _ _ _ _ i.1 z.0 ∙ o.left) told.1)

pub returns-clause-says : goal.returns-clause-says
returns-clause-says g c = λ n m h.
    let say = g.C.Calls.say c.args.calls.now in
    let go = g.C.Calls.go c.args.calls.now in
    let z = c.loop-at.invariant.2 n m h in
    let e : c.args.limit ≡ c.loop-at.at = omega (arith, c.loop-at-test.false, c.loop-at.auto.at-end) in
    let o = here_done say go z.1 c.requires.1 e in
    (rw e (rw e at o.gives), subst (g.C.Calls.shows c.loop-at.calls c.loop-at.state n) o.left z.2)
