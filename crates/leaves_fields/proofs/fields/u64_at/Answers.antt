-- The sum is the field written out. Assumes nothing.
use native.Mathlib.Omega.{arith}
use Rattle.theory.specs.Fields.{field_4, field_8}
use Rattle.std.proofs.Common.{add_assoc}
use Rattle.leaves_fields.proofs.fields.u64_at.Goals as goal

pub returns : goal.returns
returns c = simp (field_8, field_4, add_assoc) (omega (arith, c.from_le_bytes.ensures))
