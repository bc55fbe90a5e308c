-- The sum is the field written out. Assumes nothing.
use native.Mathlib.Omega.{arith}
use Rattle.theory.specs.Fields.{field_2}
use Rattle.leaves_fields.proofs.fields.u16_at.Goals as goal

pub returns : goal.returns
returns c = simp field_2 (omega (arith, c.from_le_bytes.ensures))
