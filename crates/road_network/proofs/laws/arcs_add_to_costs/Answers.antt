use Rattle.road_network.proofs.BestLaws.{grows_along, dominates_along}
use Rattle.road_network.proofs.SumLaws.{sum_of_walk, walk_below}
use Rattle.road_network.proofs.laws.arcs_add_to_costs.Goals as goal

pub returns-clause-grows : goal.returns-clause-grows
returns-clause-grows c = λ net k u v w cost is. grows_along net is k u v w cost

pub returns-clause-monotone : goal.returns-clause-monotone
returns-clause-monotone c = λ net k u v w a b is. dominates_along net is k u v w a b

pub returns-clause-bounded : goal.returns-clause-bounded
returns-clause-bounded c = λ net p s v cost is small. walk_below net small is p s v cost

pub returns-clause-counted : goal.returns-clause-counted
returns-clause-counted c = λ net p s v cost is small. sum_of_walk net small is p s v cost
