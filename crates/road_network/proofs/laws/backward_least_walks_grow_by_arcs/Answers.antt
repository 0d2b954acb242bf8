use Rattle.road_network.proofs.WalkLaws.{ends_by_last}
use Rattle.road_network.proofs.BackwardLaws.{front_is_backward_least, last_arc_is_least, with_last_arc, none_at_zero, one_end}
use Rattle.road_network.proofs.laws.backward_least_walks_grow_by_arcs.Goals as goal

pub returns-clause-first_part : goal.returns-clause-first_part
returns-clause-first_part c = λ net p q s v t b cost is. front_is_backward_least net is p q s v t b cost

pub returns-clause-last_arc : goal.returns-clause-last_arc
returns-clause-last_arc c = last_arc_is_least

pub returns-clause-one_arc_more : goal.returns-clause-one_arc_more
returns-clause-one_arc_more c = λ net p s u v k b w is. with_last_arc net is p s u v k b w

pub returns-clause-none_at_zero : goal.returns-clause-none_at_zero
returns-clause-none_at_zero c = λ net p s v is. none_at_zero net is p s v

pub returns-clause-one_end : goal.returns-clause-one_end
returns-clause-one_end c = one_end

pub returns-clause-by_last_arc : goal.returns-clause-by_last_arc
returns-clause-by_last_arc c = λ net p s v k cost is. ends_by_last net is p s v k cost
