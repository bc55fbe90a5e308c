-- Each way through the step is one law; an insert is what `enter` promises. Assumes nothing.
use Rattle.build_time.specs.OverTimeLaws.{took_skip, took_insert}
use Rattle.build_time.proofs.over_time.lay_interval.Goals as goal

pub returns-in-Some : goal.returns-in-Some
returns-in-Some c =
    took_insert _ _ _ _ c.args.table.now _ _ _ c.enter.new.table _ c.requires c.enter.auto.table c.in_ok-insert.ensures c.in-Some.is c.enter.ensures

pub returns-in-None : goal.returns-in-None
returns-in-None c = took_skip _ _ _ _ c.args.table.now _ _ c.requires c.in_ok-insert.ensures c.in-None.is
