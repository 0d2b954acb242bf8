use Rattle.road_network.proofs.BackwardLaws.{has_backward_least, one_backward_least}
use Rattle.road_network.proofs.AnswerLaws.{has_answer, one_answer}
use Rattle.road_network.proofs.laws.walks_of_costs_are_one_list.Goals as goal

pub returns-clause-some_walk : goal.returns-clause-some_walk
returns-clause-some_walk c = λ net p s v cost is. has_backward_least net is p s v cost

pub returns-clause-one_walk : goal.returns-clause-one_walk
returns-clause-one_walk c = one_backward_least

pub returns-clause-some_answer : goal.returns-clause-some_answer
returns-clause-some_answer c = λ net s t limit costs is. has_answer net s t is limit costs

pub returns-clause-one_answer : goal.returns-clause-one_answer
returns-clause-one_answer c = one_answer
