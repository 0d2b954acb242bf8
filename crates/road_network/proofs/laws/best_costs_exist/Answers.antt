use Rattle.std.proofs.Common.{inl, inr}
use Rattle.road_network.proofs.AnswerLaws.{some_list}
use Rattle.road_network.proofs.FiniteLaws.{best_is_short}
use Rattle.road_network.proofs.RelevantLaws.{cases_passes}
use Rattle.road_network.proofs.laws.best_costs_exist.Goals as goal

pub returns-clause-few_arcs : goal.returns-clause-few_arcs
returns-clause-few_arcs c = λ net p s v cost is. best_is_short net is p s v cost

pub returns-clause-some_list : goal.returns-clause-some_list
returns-clause-some_list c = λ net s t limit is. some_list net s t is limit

pub returns-clause-passes_or_ends : goal.returns-clause-passes_or_ends
returns-clause-passes_or_ends c = λ net s t limit budget is. elim (cases_passes net s t limit is budget) [
  | inl passes ↦ inl passes
  | inr within ↦ inr (within, some_list net s t is limit)
]
