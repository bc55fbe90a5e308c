-- The field is put as its lower half and its upper half. Assumes nothing.
use Rattle.theory.specs.Fields.{put_8}
use Rattle.leaves_fields.proofs.fields.put_u64.Goals as goal

pub returns : goal.returns
returns c = rw put_8 (cc)
