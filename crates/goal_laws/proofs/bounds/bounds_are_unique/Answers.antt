use Rattle.goal_laws.proofs.BoundLaws.{bound_of_target, has_bound, one_bound}
use Rattle.goal_laws.proofs.bounds.bounds_are_unique.Goals as goal

pub returns-clause-one : goal.returns-clause-one
returns-clause-one c = one_bound

pub returns-clause-at_the_target : goal.returns-clause-at_the_target
returns-clause-at_the_target c = λ net t is. bound_of_target net is t

pub returns-clause-some : goal.returns-clause-some
returns-clause-some c = λ net v t p cost is. has_bound net is v t p cost
