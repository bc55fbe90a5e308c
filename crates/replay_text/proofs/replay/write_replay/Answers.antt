-- What was taken apart is what the definition has; its cuts are right and its text has room. Assumes nothing.
use native.Mathlib.Omega.{arith}
use Rattle.lines.specs.Lines.{bad_line}
use Rattle.replay_text.specs.ReplayCalls.{Taken, taken_cut, taken_lays, bad_lays}
use Rattle.replay_text.proofs.replay.write_replay.Goals as goal

pub tell_streams-requires : goal.tell_streams-requires
tell_streams-requires g c =
    let p = c.part in
    let q = c.requires in
    let t : Taken c.args.bundle.now p.new.buffer p.new.cuts c.args.text.now c.in-Some.parted.count c.in-Some.parted.bytes =
    record { apart = c.in-Some.ensures; large = omega (arith, p.auto.buffer, q.0); many = omega (arith, p.auto.cuts, q.1); room = q.3 } in
    taken_cut t

pub returns-in-Some : goal.returns-in-Some
returns-in-Some g c =
    let p = c.part in
    let q = c.requires in
    let t : Taken c.args.bundle.now p.new.buffer p.new.cuts c.args.text.now c.in-Some.parted.count c.in-Some.parted.bytes =
    record { apart = c.in-Some.ensures; large = omega (arith, p.auto.buffer, q.0); many = omega (arith, p.auto.cuts, q.1); room = q.3 } in
    taken_lays t c.tell_streams.ensures

pub returns-in-None : goal.returns-in-None
unfolding bad_line
returns-in-None g c = bad_lays _ c.in-None.ensures c.word.ensures
