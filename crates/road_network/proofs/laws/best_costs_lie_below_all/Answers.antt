use Rattle.road_network.proofs.BestLaws.{each_has_best_below, best_before, first_part_is_best, start_is_relevant}
use Rattle.road_network.proofs.laws.best_costs_lie_below_all.Goals as goal

pub returns-clause-below : goal.returns-clause-below
returns-clause-below c = λ net p s v cost is. each_has_best_below net is p s v cost

pub returns-clause-on_the_way : goal.returns-clause-on_the_way
returns-clause-on_the_way c = λ net p q s t cost is. first_part_is_best net is p q s t cost

pub returns-clause-before_arc : goal.returns-clause-before_arc
returns-clause-before_arc c = λ net p s u v k b w is. best_before net is p s u v k b w

pub returns-clause-at_the_start : goal.returns-clause-at_the_start
returns-clause-at_the_start c = start_is_relevant
