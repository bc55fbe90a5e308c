-- The memory is tested once, and the call is made on it. Assumes nothing.
use mathlib.Core.Path.{sym, ◌∙◌}
use Rattle.feed_rules.specs.SpansLaws.{fits_room}
use Rattle.feed.proofs.turns.next.Goals as goal

pub turns-requires : goal.turns-requires
turns-requires c =
    let s = c.args.state.now in
    (fits_room s.held s.marks.now s.times.now s.places.now s.heads.now s.heap.now c.args.spans.now c.args.window.now
    (sym c.fits.ensures ∙ c.if-not-fits.false)).0
