use Rattle.bulk_rounds.proofs.FoundLemmas.{arrives_at_node, spares_settled}
use Rattle.bulk_rounds.proofs.laws.arrivals_spare_settled.Goals as goal

pub returns : goal.returns
returns c = search (arrives_at_node, spares_settled)
