-- What a look at one place tells: the laws of each way through its tests.
use Rattle.map_rules.specs.Looks.{probe_out, probe_other, probe_early, probe_own}

pub ruleset probes = (probe_out, probe_other, probe_early, probe_own)
