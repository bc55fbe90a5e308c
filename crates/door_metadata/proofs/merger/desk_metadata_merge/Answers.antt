-- Each arm of the match is what its case says. Assumes nothing.
use mathlib.Core.Path.{refl, sym, ◌∙◌}
use Rattle.std.proofs.Common.{rules}
use Rattle.metadata_form.specs.Header.{lists}
use Rattle.theory.specs.Bools.{and_false}
use Rattle.door_answers.specs.Header.{header_fits}
use Rattle.door_answers.specs.HeaderLaws.{header_length, header_some, header_none}
use Rattle.door_metadata.specs.MergerLaws.{merge_unfit, merge_done, merge_refused}
use Rattle.door_metadata.proofs.merger.desk_metadata_merge.Goals as goal

pub returns-in_default : goal.returns-in_default
returns-in_default c =
    let a = c.args in
    merge_unfit a.names a.header.now (lists a.symbols.now a.partial.now a.not_found.now a.mappings.now a.intervals.now) a.added.now
    (lists a.added_symbols.now a.added_partial.now a.added_not_found.now a.added_mappings.now a.added_intervals.now) a.field.now
    (rw (header_none _ (sym c.in_default.is ∙ c.header_of.ensures)) refl)

pub returns-in_default-header_of : goal.returns-in_default-header_of
returns-in_default-header_of c =
    let a = c.args in
    merge_unfit a.names a.header.now (lists a.symbols.now a.partial.now a.not_found.now a.mappings.now a.intervals.now) a.added.now
    (lists a.added_symbols.now a.added_partial.now a.added_not_found.now a.added_mappings.now a.added_intervals.now) a.field.now
    (rw (header_none _ (sym c.in_default-header_of.is ∙ c.header_of-2.ensures)) (and_false (header_fits a.header.now)))

pub put_header-requires : goal.put_header-requires
put_header-requires c = header_length _ (header_some _ _ (sym c.in-Some.is ∙ c.header_of.ensures)).0

pub returns-in-Ok : goal.returns-in-Ok
returns-in-Ok c =
    let a = c.args in
    let s = header_some _ _ (sym c.in-Some.is ∙ c.header_of.ensures) in
    let t = header_some _ _ (sym c.in-Some-header_of.is ∙ c.header_of-2.ensures) in
    merge_done a.names a.header.now (lists a.symbols.now a.partial.now a.not_found.now a.mappings.now a.intervals.now) a.added.now
    (lists a.added_symbols.now a.added_partial.now a.added_not_found.now a.added_mappings.now a.added_intervals.now) a.field.now
    (rw (s.0, t.0) refl) _ s.1 _ t.1 _ _ _ (search rules) c.merge.ensures.merges _ c.in-Ok.is _ c.put_header.ensures

pub returns-in-Err : goal.returns-in-Err
returns-in-Err c =
    let a = c.args in
    let s = header_some _ _ (sym c.in-Some.is ∙ c.header_of.ensures) in
    let t = header_some _ _ (sym c.in-Some-header_of.is ∙ c.header_of-2.ensures) in
    merge_refused a.names a.header.now (lists a.symbols.now a.partial.now a.not_found.now a.mappings.now a.intervals.now) a.added.now
    (lists a.added_symbols.now a.added_partial.now a.added_not_found.now a.added_mappings.now a.added_intervals.now) a.field.now
    (rw (s.0, t.0) refl) _ s.1 _ t.1 _ _ _ (search rules) c.merge.ensures.merges _ c.in-Err.is _ c.number.ensures _ c.field_in.ensures
