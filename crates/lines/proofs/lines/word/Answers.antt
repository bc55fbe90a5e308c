-- The word is copied whole. Assumes nothing.
use mathlib.Core.Path.{refl, ◌∙◌}
use native.Mathlib.Omega.{arith}
use Rattle.std.proofs.lemmas.Slice.{put_mid-paste}
use Rattle.lines.specs.LinesLaws.{laid_paste}
use Rattle.lines.proofs.lines.word.Goals as goal

pub returns : goal.returns
returns c = record {
  behind = refl;
  whole = put_mid-paste _ _ _ _ c.args.word.now _ c.copy_from_slice.ensures.after (omega arith) refl ∙ laid_paste _ _ _;
}
