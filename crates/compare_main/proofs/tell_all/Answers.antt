-- Each portion comes nearer to the end of the walk. Assumes nothing.
use Rattle.compare_text.specs.Portions.{portion_nearer}
use Rattle.compare_main.proofs.tell_all.Goals as goal

pub loop-walk-smaller : goal.loop-walk-smaller
loop-walk-smaller g c = portion_nearer c.lay_portion-end.ensures.portion c.if-end-eq0.false
