-- The intervals are the mapping, once it is known how they are read. Assumes nothing.
use Rattle.build_time.specs.OverTimeMappings.{mapping_laid}
use Rattle.build_time.proofs.over_time.lay_mapping.Goals as goal

pub returns : goal.returns
returns c =
    let l = c.args.names.list in
    mapping_laid l.bytes.now l.ends.now _ _ _ _ _ _ _ _ _ c.in_ok-way.ensures c.lay_intervals.ensures
