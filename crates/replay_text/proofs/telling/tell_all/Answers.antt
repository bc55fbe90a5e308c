-- Loop: the state is sound, and what is written is the whole without the lines to come (`Stepping`); the answers to come fall.
-- Assumes nothing.
use native.Mathlib.Omega.{arith}
use Rattle.std.specs.Prelude.{Ok, Err}
use Rattle.std.proofs.Common.{◌∙◌, ap}
use Rattle.lines.specs.Lines.{end_line}
use Rattle.replay_text.specs.Telling.{stepping_start, told_record, told_damage, told_end, told_never}
use Rattle.replay_text.proofs.telling.tell_all.Goals as goal

pub loop-record-init : goal.loop-record-init
loop-record-init g c = stepping_start c.requires

pub loop-record-smaller-in-Ok-Some : goal.loop-record-smaller-in-Ok-Some
loop-record-smaller-in-Ok-Some g c =
    let n = c.next.ensures in
    let l = c.record_line-at in
    let e = c.in-Ok-Some.is ∙ ap Ok c.in-Ok-Some.field-0-is in
    (told_record c.loop-record.invariant c.requires.few n.memory _ n.says l.ensures.1 l.auto.text c.in-Ok-Some.record e l.ensures.0).1

pub loop-record-preserved-in-Ok-Some : goal.loop-record-preserved-in-Ok-Some
loop-record-preserved-in-Ok-Some g c =
    let n = c.next.ensures in
    let l = c.record_line-at in
    let e = c.in-Ok-Some.is ∙ ap Ok c.in-Ok-Some.field-0-is in
    (told_record c.loop-record.invariant c.requires.few n.memory _ n.says l.ensures.1 l.auto.text c.in-Ok-Some.record e l.ensures.0).0

pub returns-in-Ok-None : goal.returns-in-Ok-None
unfolding end_line
returns-in-Ok-None g c =
    let n = c.next.ensures in
    let e = c.in-Ok-None.is ∙ ap Ok c.in-Ok-None.field-0-is in
    told_end c.loop-record.invariant c.requires.few n.memory _ n.says (omega (arith, c.word.ensures.behind)) e c.word.ensures

pub loop-record-smaller : goal.loop-record-smaller
loop-record-smaller g c =
    let n = c.next.ensures in
    let l = c.damage_line-at in
    let e = c.in-Err.is ∙ ap Err c.in-Damaged.is in
    (told_damage c.loop-record.invariant c.requires.few n.memory _ n.says l.ensures.1 l.auto.text _ _ _ e l.ensures.0).1

pub loop-record-preserved : goal.loop-record-preserved
loop-record-preserved g c =
    let n = c.next.ensures in
    let l = c.damage_line-at in
    let e = c.in-Err.is ∙ ap Err c.in-Damaged.is in
    (told_damage c.loop-record.invariant c.requires.few n.memory _ n.says l.ensures.1 l.auto.text _ _ _ e l.ensures.0).0

pub returns-in_default : goal.returns-in_default
returns-in_default g c =
    let n = c.next.ensures in
    absurd (told_never c.loop-record.invariant c.requires.few n.memory _ n.says c.in-Err.refusal c.in_default.not-Damaged c.in-Err.is)
