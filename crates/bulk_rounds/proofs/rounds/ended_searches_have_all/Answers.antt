use Rattle.bulk_rounds.proofs.FoundLemmas.{has_all}
use Rattle.bulk_rounds.proofs.rounds.ended_searches_have_all.Goals as goal

pub returns : goal.returns
returns c = λ task core s v cost at none_taken none_open. has_all task core s at none_taken none_open v cost
