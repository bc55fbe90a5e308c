-- Words that are no header, and a build that was called. Assumes nothing.
use lib.ListN.{length}
use Rattle.metadata_form.specs.Header.{lists}
use Rattle.build_time.specs.OverTime.{over_time_answer, over_time_memory}
use Rattle.door_builds.specs.Build.{build_unfit, build_told}
use Rattle.door_builds.proofs.build.desk_build.Goals as goal

pub returns-in_default : goal.returns-in_default
returns-in_default c =
    let a = c.args in
    let l = lists a.symbols.now a.partial.now a.not_found.now a.mappings.now a.intervals.now in
    build_unfit (length a.table.now) a.header.now
    (λ h. over_time_answer a.table.now h l a.bytes.now a.ends.now a.names a.name_bytes)
    (λ h. over_time_memory a.table.now h l a.bytes.now a.ends.now a.names a.name_bytes)
    c.header_of.result c.header_of.ensures c.in_default.not-Some (c.fill.ensures.after (λ y e. e))

pub returns : goal.returns
returns c =
    let a = c.args in
    let l = lists a.symbols.now a.partial.now a.not_found.now a.mappings.now a.intervals.now in
    build_told (length a.table.now) a.header.now
    (λ h. over_time_answer a.table.now h l a.bytes.now a.ends.now a.names a.name_bytes)
    (λ h. over_time_memory a.table.now h l a.bytes.now a.ends.now a.names a.name_bytes)
    c.over_time.result _ c.in-Some.ensures c.over_time.ensures.result_value c.over_time.ensures.table_after c.told.ensures.returns c.told.ensures.counts
