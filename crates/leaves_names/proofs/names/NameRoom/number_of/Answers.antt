-- There is room for a name that is new. Assumes nothing.
use mathlib.Core.Path.{sym, ap, ◌∙◌}
use Rattle.std.specs.Prelude.{Ok, length}
use native.Mathlib.Omega.{arith}
use Rattle.leaves_names.specs.NamingLaws.{case_new}
use Rattle.leaves_names.proofs.names.NameRoom.number_of.Goals as goal

pub add-requires : goal.add-requires
add-requires c =
    let l = c.list.result in
    let e = c.list.ensures in
    let f = case_new l.bytes.now l.ends.now l.names l.name_bytes c.args.text.now (sym c.in_ok-number.ensures ∙ ap Ok c.in-New.is) in
    omega (arith, f.3.place, f.3.small, f.3.held, ap length e.0, ap length e.1, e.2, e.3)
