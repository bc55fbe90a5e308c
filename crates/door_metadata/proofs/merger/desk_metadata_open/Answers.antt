-- Each arm of the match is what its case says. Assumes nothing.
use mathlib.Core.Path.{sym, ◌∙◌}
use Rattle.std.proofs.Common.{rules}
use Rattle.metadata_form.specs.Header.{lists}
use Rattle.door_answers.specs.HeaderLaws.{header_length, header_some, header_none}
use Rattle.door_metadata.specs.MergerLaws.{open_unfit, open_done, open_refused}
use Rattle.door_metadata.proofs.merger.desk_metadata_open.Goals as goal

pub returns-in_default : goal.returns-in_default
returns-in_default c =
    let a = c.args in
    open_unfit a.header.now (lists a.symbols.now a.partial.now a.not_found.now a.mappings.now a.intervals.now)
    (header_none _ (sym c.in_default.is ∙ c.header_of.ensures))

pub put_header-requires : goal.put_header-requires
put_header-requires c = header_length _ (header_some _ _ (sym c.in-Some.is ∙ c.header_of.ensures)).0

pub returns-in-Ok : goal.returns-in-Ok
returns-in-Ok c =
    let a = c.args in
    let s = header_some _ _ (sym c.in-Some.is ∙ c.header_of.ensures) in
    open_done a.header.now (lists a.symbols.now a.partial.now a.not_found.now a.mappings.now a.intervals.now)
    s.0 _ s.1 _ _ _ (search rules) c.open.ensures.opens _ c.in-Ok.is _ c.put_header.ensures

pub returns-in-Err : goal.returns-in-Err
returns-in-Err c =
    let a = c.args in
    let s = header_some _ _ (sym c.in-Some.is ∙ c.header_of.ensures) in
    open_refused a.header.now (lists a.symbols.now a.partial.now a.not_found.now a.mappings.now a.intervals.now)
    s.0 _ s.1 _ _ _ (search rules) c.open.ensures.opens _ c.in-Err.is _ c.number.ensures
