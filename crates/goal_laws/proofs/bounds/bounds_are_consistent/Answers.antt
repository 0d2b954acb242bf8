use Rattle.goal_laws.proofs.BoundLaws.{bound_along, never_less}
use Rattle.goal_laws.proofs.bounds.bounds_are_consistent.Goals as goal

pub returns-clause-along_an_arc : goal.returns-clause-along_an_arc
returns-clause-along_an_arc c = λ net k u v t w h g is. bound_along net is k u v t w h g

pub returns-clause-never_less : goal.returns-clause-never_less
returns-clause-never_less c = λ net k u v t b w h g is. never_less net is k u v t b w h g
