-- Five stores are the stretch put at its place. Assumes nothing.
use Rattle.map_compare_rules.specs.Memory.{put_stretch}
use Rattle.map_compare.specs.CompareLaws.{symbol_said}
use Rattle.map_compare.proofs.stretch_bytes.put_stretch.Goals as goal

pub returns : goal.returns
unfolding put_stretch
returns c =
    let a = symbol_said c.args.s.left in
    let b = symbol_said c.args.s.right in cc
