-- The interval where the instrument would begin is its first, or it has none. Assumes nothing.
use Rattle.map_explain.specs.ExplainLaws.{before_told, unknown_told}
use Rattle.map_explain.proofs.explain.not_started.Goals as goal

pub returns-in-Some : goal.returns-in-Some
returns-in-Some c = λ m end p h. before_told p h c.in-Some.ensures.0 c.in-Some.ensures.1 c.numbered.ensures

pub returns-in-None : goal.returns-in-None
returns-in-None c = λ m end p h. unknown_told p h c.in-None.ensures
