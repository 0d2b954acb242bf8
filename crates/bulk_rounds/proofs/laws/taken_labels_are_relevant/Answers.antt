use Rattle.bulk_rounds.proofs.FoundLemmas.{taken_at_node, taken_is_relevant}
use Rattle.bulk_rounds.proofs.laws.taken_labels_are_relevant.Goals as goal

pub returns : goal.returns
returns c = search (taken_at_node, taken_is_relevant)
