-- A name in use has its place in the ends lent. Assumes nothing.
use native.Mathlib.Omega.{arith}
use Rattle.leaves_names.proofs.names.Names.place.Goals as goal

pub name_start-first-requires : goal.name_start-first-requires
name_start-first-requires c = omega (arith, c.args.self.ordered.places)

pub name_end-end-requires : goal.name_end-end-requires
name_end-end-requires c = omega (arith, c.args.self.ordered.places)
