use Rattle.goal_bounds.proofs.BoundLemmas.{bound_is_small}
use Rattle.goal_bounds.proofs.laws.bounds_are_small.Goals as goal

pub returns : goal.returns
returns c = λ net v t h road. bound_is_small net road v t h
