use Rattle.goal_laws.proofs.GoalLaws.{goal_relevant_at_target, goal_relevant_before, goal_relevant_on_the_way}
use Rattle.goal_laws.proofs.relevant.goal_relevant_pairs_lead_to_answers.Goals as goal

pub returns-clause-before_arc : goal.returns-clause-before_arc
returns-clause-before_arc c = λ net p s t u v k limit b w h is. goal_relevant_before net is s t limit p u v k b w h

pub returns-clause-on_the_way : goal.returns-clause-on_the_way
returns-clause-on_the_way c = λ net p q s t v limit b cost h is. goal_relevant_on_the_way net is s t limit p q v b cost h

pub returns-clause-at_the_target : goal.returns-clause-at_the_target
returns-clause-at_the_target c = λ net s t limit cost is. goal_relevant_at_target net is s t limit cost
