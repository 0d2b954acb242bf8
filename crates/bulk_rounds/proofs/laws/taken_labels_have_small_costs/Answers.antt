use Rattle.bulk_rounds.proofs.FoundLemmas.{taken_is_small}
use Rattle.bulk_rounds.proofs.laws.taken_labels_have_small_costs.Goals as goal

pub returns : goal.returns
returns c = λ task core s x n at. taken_is_small task core s at x n
