use Rattle.work_claim.proofs.ClaimLemmas.{shared_out}
use Rattle.work_claim.proofs.laws.seats_share_the_numbers.Goals as goal

pub returns : goal.returns
returns c = shared_out
