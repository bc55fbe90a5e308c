-- The name stands in the bytes after those in use. Assumes nothing.
use mathlib.Core.Path.{refl}
use native.Mathlib.Omega.{arith}
use Rattle.std.proofs.lemmas.Slice.{put_mid-paste}
use Rattle.leaves_names.specs.Names.{name_written}
use Rattle.leaves_names.proofs.names.NameRoom.add.Goals as goal

pub returns : goal.returns
unfolding name_written
returns c =
    let s = c.args.self.now in
    record {
      bytes = put_mid-paste s.name_bytes _ s.bytes.now _ c.args.text.now _ c.copy.ensures (omega arith) refl;
      ends = refl;
      names = refl;
      name_bytes = refl;
      memory = record { bytes = refl; ends = refl };
    }
