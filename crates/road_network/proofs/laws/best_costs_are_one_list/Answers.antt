use Rattle.road_network.proofs.AnswerLaws.{one_list, none_only_where_no_walk}
use Rattle.road_network.proofs.laws.best_costs_are_one_list.Goals as goal

pub returns-clause-one : goal.returns-clause-one
returns-clause-one c = one_list

pub returns-clause-none_only_where_no_walk : goal.returns-clause-none_only_where_no_walk
returns-clause-none_only_where_no_walk c = λ net s t p cost is. none_only_where_no_walk net s t is p cost
