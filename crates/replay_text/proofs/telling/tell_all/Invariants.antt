-- What each turn keeps, and what gets less.
use Rattle.std.specs.Prelude.{◌-◌, length}
use Rattle.records_rules.specs.Bytes.{streams_of}
use Rattle.records_rules.specs.Kept.{total}
use Rattle.records_rules.specs.State.{statuses_at}
use Rattle.records_state.specs.Lent.{arrays_of}
use Rattle.replay_text.specs.Replay.{lines_left}
use Rattle.replay_text.specs.Telling.{Stepping}
use Rattle.replay_text.proofs.telling.tell_all.Given as goal

abbrev pub invariant-loop-record : goal.invariant-loop-record
invariant-loop-record g l =
    Stepping g.E.Engine.sound (streams_of l.buffer l.cuts) (length l.cuts - 1)
    (lines_left (streams_of l.buffer l.cuts) (statuses_at (length l.cuts - 1) (arrays_of l.initial.state))) l.initial.text
    l.state.held (arrays_of l.state) l.text l.at

abbrev pub decreases-loop-record : goal.decreases-loop-record
decreases-loop-record g l = total (streams_of l.buffer l.cuts) (statuses_at (length l.cuts - 1) (arrays_of l.state))
