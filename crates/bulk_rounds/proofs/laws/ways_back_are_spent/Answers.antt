use Rattle.bulk_rounds.proofs.FoundLemmas.{way_back_spent}
use Rattle.bulk_rounds.proofs.laws.ways_back_are_spent.Goals as goal

pub returns : goal.returns
returns c = way_back_spent
