-- A new name is added, an old one changes nothing. Assumes nothing.
use mathlib.Core.Path.{sym}
use Rattle.map_record.specs.MappingLaws.{joined_new, joined_old}
use Rattle.map_record.proofs.mapping.join_name.Goals as goal

pub add-requires : goal.add-requires
add-requires c =
    let n = sym c.if-is_new.ensures in
    let l = c.requires in
    record { names_in_bounds = (l.places n, l.room n, l.small n) }

pub returns-then-is_new : goal.returns-then-is_new
returns-then-is_new c = rw (sym c.if-is_new.ensures) (joined_new c.requires.name c.add.ensures)

pub returns-else-is_new : goal.returns-else-is_new
returns-else-is_new c = rw (sym c.if-is_new.ensures) (joined_old _ _)
