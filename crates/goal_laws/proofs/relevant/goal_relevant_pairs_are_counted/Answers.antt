use Rattle.goal_laws.proofs.GoalLaws.{goal_passes_below}
use Rattle.goal_laws.proofs.relevant.goal_relevant_pairs_are_counted.Goals as goal

pub returns : goal.returns
returns c = goal_passes_below
