-- The line is that of the question and of its answer. Assumes nothing.
use Rattle.lines.specs.LinesLaws.{lays_same}
use Rattle.explain_main.specs.TextLaws.{question_text_lem}
use Rattle.explain_main.proofs.telling.tell.Goals as goal

pub returns : goal.returns
returns c =
    let e = question_text_lem _ _ _ _ _ c.u32_at-instrument.ensures c.u64_at-moment.ensures c.explain-said.ensures in
    (lays_same e c.line.ensures.0, c.line.ensures.1)
