-- A mapping call at the door: what its answer says is told, and what it leaves is left. Assumes nothing.
use Rattle.std.specs.Prelude.{ℕ, List}
use Rattle.theory.specs.Answer.{Answer}
use Rattle.map_record.specs.Mapping.{Comes, Left, Leaves}
use Rattle.door_map.specs.OnRecord.{Tells, Told}

pub tells : {used names name_bytes reason number used' names' name_bytes' reason' : ℕ} {X : Type 0} {read : List ℕ → ℕ → List X} {comes : Comes X} {left : Left}
    {t : List ℕ} {held : ℕ} {a : Answer} {t' b' e' : List ℕ} → Leaves read comes left t held a t' b' e'
    → Told a used names name_bytes reason number used' names' name_bytes' reason' → Tells left used names name_bytes reason number used' names' name_bytes' reason' t' b' e'
tells {used} {names} {name_bytes} {reason} {number} {used'} {names'} {name_bytes'} {reason'} {left = left} {a = a} l m =
    let n : Told left.says used names name_bytes reason number used' names' name_bytes' reason' = rw l.says at m in
    record {
      answers = n.answers;
      in_use = n.in_use;
      names_in_use = n.names_in_use;
      bytes_in_use = n.bytes_in_use;
      damage = n.damage;
      table = l.table;
      bytes = l.bytes;
      ends = l.ends;
    }
