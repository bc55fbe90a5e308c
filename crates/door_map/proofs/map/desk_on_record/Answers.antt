-- The answer is told, and the lent memory is what the room has then. Assumes nothing.
use borrow.Author.Rules.{rules}
use Rattle.door_map.specs.OnRecordLaws.{tells}
use Rattle.door_map.proofs.map.desk_on_record.Goals as goal

pub returns : goal.returns
returns c =
    let m = tells c.on_record-recorded.ensures.leaves c.tell.ensures in
    record {
      answers = m.answers;
      in_use = m.in_use;
      names_in_use = m.names_in_use;
      bytes_in_use = m.bytes_in_use;
      damage = m.damage;
      table = m.table;
      bytes = search (rules, m.bytes);
      ends = search (rules, m.ends);
    }
