-- What was found, and the room that is left, decide. Assumes nothing.
use mathlib.Core.Path.{refl, sym, ◌∙◌}
use Rattle.std.specs.Prelude.{◌≤◌}
use native.Mathlib.Omega.{arith}
use Rattle.leaves_names.specs.Names.{least, names_in}
use Rattle.leaves_names.specs.NamesLaws.{memory}
use Rattle.leaves_names.specs.NamesList.{names_length}
use Rattle.leaves_names.specs.NamingLaws.{some_found, none_found, numbered_old, numbered_fresh}
use Rattle.leaves_names.proofs.names.Names.number_for.Goals as goal

pub returns-in-Some : goal.returns-in-Some
returns-in-Some c =
    let l = c.args.self.list in
    let f = some_found _ _ c.in-Some.ensures in
    numbered_old _ _ _ _ _ _ f.0 (omega (arith, f.1, names_length l.bytes.now l.ends.now l.names))

pub returns-in-None : goal.returns-in-None
returns-in-None c =
    let l = c.args.self.list in
    let h : l.names ≤ least c.args.text.now (names_in l) = omega (arith, none_found _ _ c.in-None.ensures, names_length l.bytes.now l.ends.now l.names) in
    sym (numbered_fresh _ _ _ _ _ _ refl h ∙ rw (sym c.has_room.ensures ∙ c.if-has_room.true))

pub returns-in-None-2 : goal.returns-in-None-2
returns-in-None-2 c =
    let l = c.args.self.list in
    let h : l.names ≤ least c.args.text.now (names_in l) = omega (arith, none_found _ _ c.in-None-2.ensures, names_length l.bytes.now l.ends.now l.names) in
    sym (numbered_fresh _ _ _ _ _ _ refl h ∙ rw (sym c.has_room.ensures ∙ c.if-has_room.false))

pub overflow_cast-result : goal.overflow_cast-result
overflow_cast-result c =
    let l = c.args.self.list in
    let m = memory _ _ _ _ c.requires in
    omega (arith, m.few, m.held, (some_found _ _ c.in-Some.ensures).1, names_length l.bytes.now l.ends.now l.names)
