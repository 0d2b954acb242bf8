use Rattle.std.proofs.Common.{rules}
use Rattle.work_claim.proofs.ClaimLemmas.{claim_allowed}
use Rattle.work_claim.proofs.counter.Counter.draw.Goals as goal

pub fetch_add-number-requires : goal.fetch_add-number-requires
fetch_add-number-requires c = (search rules, search rules, claim_allowed _ _ _ _ _ (search rules) (search rules))
