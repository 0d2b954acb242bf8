use Rattle.bulk_rounds.proofs.KeptLemmas.{lists_next, loses_spent}
use Rattle.bulk_rounds.proofs.laws.passes_take_the_next_spots.Goals as goal

pub returns : goal.returns
returns c = search (lists_next, loses_spent)
