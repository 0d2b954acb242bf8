use Rattle.std.proofs.Common.{None, Some}
use Rattle.road_network.specs.declared.query.AnswerKind.TheVariants.{Walks}
use Rattle.session_core.specs.Sessions.{network_at}
use Rattle.session_core.proofs.GoalLemmas.{goal_alike, goal_answers, goal_refuses, goal_says_the_same}
use Rattle.session_core.proofs.laws.goal_answers_wherever_plain_does.Goals as goal

pub returns-clause-answers : goal.returns-clause-answers
returns-clause-answers c = λ net epoch kind query text is. goal_answers net epoch kind query is text

pub returns-clause-refuses : goal.returns-clause-refuses
returns-clause-refuses c = λ net epoch kind query text is. goal_refuses net epoch kind query is text

pub returns-clause-alike : goal.returns-clause-alike
returns-clause-alike c = goal_alike

pub returns-clause-in_sessions : goal.returns-clause-in_sessions
returns-clause-in_sessions c = λ scene h k s t text other is plain directed.
    goal_says_the_same (network_at scene h k) k Walks (record { from = s; to = t; limit = None; budget = scene.budget }) is text other plain
    directed.0 directed.1

pub returns-clause-within_bounds : goal.returns-clause-within_bounds
returns-clause-within_bounds c = λ scene h k s t limit text other is plain directed.
    goal_says_the_same (network_at scene h k) k Walks (record { from = s; to = t; limit = Some limit; budget = scene.budget }) is text other plain
    directed.0 directed.1
