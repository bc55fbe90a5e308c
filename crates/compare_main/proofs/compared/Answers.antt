-- The status is that of the input taken apart. Assumes nothing.
use Rattle.compare_main.specs.Asked.{status_none, status_some, ends_same}
use Rattle.compare_main.proofs.compared.Goals as goal

pub returns-in_default : goal.returns-in_default
returns-in_default g c = ends_same _ (status_none _ c.in_default.ensures.whole) c.say.ensures

pub returns : goal.returns
returns g c = ends_same _ (status_some _ c.in-Some.ensures.whole c.u32_at-names.ensures) c.compare_tables.ensures
