use Rattle.goal_laws.proofs.FoundGoalLaws.{well_found_by_goal}
use Rattle.goal_laws.proofs.found.found_with_all_goal_relevant_is_well_found.Goals as goal

pub returns : goal.returns
returns c = λ net limit f is found. well_found_by_goal net is limit f found
