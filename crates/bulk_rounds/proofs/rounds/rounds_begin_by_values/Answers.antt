use Rattle.bulk_rounds.proofs.BegunLemmas.{begin_stands, end_stands, finds_none_stay, some_stay}
use Rattle.bulk_rounds.proofs.BudgetLemmas.{passes_budget, within_budget}
use Rattle.bulk_rounds.proofs.rounds.rounds_begin_by_values.Goals as goal

pub returns : goal.returns
returns c = search (some_stay, begin_stands, within_budget, passes_budget, finds_none_stay, end_stands)
