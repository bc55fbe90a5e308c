-- Each arm of the match is what its case says. Assumes nothing.
use mathlib.Core.Path.{sym, ◌∙◌}
use Rattle.metadata_form.specs.Header.{lists}
use Rattle.door_answers.specs.HeaderLaws.{header_some, header_none}
use Rattle.door_metadata.specs.MergerLaws.{finish_unfit, finish_done, finish_refused}
use Rattle.door_metadata.proofs.merger.desk_metadata_finish.Goals as goal

pub returns-in_default : goal.returns-in_default
returns-in_default c =
    let a = c.args in
    finish_unfit a.header.now (lists a.symbols.now a.partial.now a.not_found.now a.mappings.now a.intervals.now)
    (header_none _ (sym c.in_default.is ∙ c.header_of.ensures))

pub returns-in-Ok : goal.returns-in-Ok
returns-in-Ok c =
    let a = c.args in
    let s = header_some _ _ (sym c.in-Some.is ∙ c.header_of.ensures) in
    finish_done a.header.now (lists a.symbols.now a.partial.now a.not_found.now a.mappings.now a.intervals.now)
    s.0 _ s.1 _ c.finish.ensures _ c.in-Ok.is

pub returns-in-Err : goal.returns-in-Err
returns-in-Err c =
    let a = c.args in
    let s = header_some _ _ (sym c.in-Some.is ∙ c.header_of.ensures) in
    finish_refused a.header.now (lists a.symbols.now a.partial.now a.not_found.now a.mappings.now a.intervals.now)
    s.0 _ s.1 _ c.finish.ensures _ c.in-Err.is _ c.number.ensures
