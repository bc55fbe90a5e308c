-- Too few bytes are refused; in the others the text is laid. Assumes nothing.
use Rattle.replay_text.specs.ReplayCalls.{replay_short, replay_laid_lem}
use Rattle.replay_text.proofs.replay.replay_by.Goals as goal

pub returns-then-text-lt-TEXT_ROOM : goal.returns-then-text-lt-TEXT_ROOM
returns-then-text-lt-TEXT_ROOM g c =
    let p = replay_short _ _ c.if-text-lt-TEXT_ROOM.true in
    record {
      result_value = p.0;
      text_after = p.1;
    }

pub returns : goal.returns
returns g c =
    let p = replay_laid_lem _ c.if-text-lt-TEXT_ROOM.false c.write_replay.ensures in
    record {
      result_value = p.0;
      text_after = p.1;
    }
