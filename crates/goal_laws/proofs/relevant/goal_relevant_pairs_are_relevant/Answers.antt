use Rattle.goal_laws.proofs.GoalLaws.{fewer_goal_relevant, goal_relevant_is_relevant, passes_by_goal}
use Rattle.goal_laws.proofs.relevant.goal_relevant_pairs_are_relevant.Goals as goal

pub returns-clause-each : goal.returns-clause-each
returns-clause-each c = λ net s t v limit cost is. goal_relevant_is_relevant net is s t limit v cost

pub returns-clause-at_most : goal.returns-clause-at_most
returns-clause-at_most c = λ net s t limit fewer pairs is. fewer_goal_relevant net is s t limit fewer pairs

pub returns-clause-passes : goal.returns-clause-passes
returns-clause-passes c = λ net s t limit budget is. passes_by_goal net is s t limit budget
