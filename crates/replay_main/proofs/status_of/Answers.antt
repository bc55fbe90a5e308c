-- By the first byte, where there is one. Assumes nothing.
use Rattle.std.proofs.Common.{◌∙◌, ap, sym}
use Rattle.replay_main.specs.StatusLaws.{by_bad, status_first}
use Rattle.replay_main.proofs.status_of.Goals as goal

pub returns-then-starts_with : goal.returns-then-starts_with
returns-then-starts_with c = sym (ap by_bad c.if-starts_with.true) ∙ status_first _ c.starts_with.ensures.value

pub returns-else-starts_with : goal.returns-else-starts_with
returns-else-starts_with c = sym (ap by_bad c.if-starts_with.false) ∙ status_first _ c.starts_with.ensures.value
