use Rattle.std.proofs.Common.{rules}
use Rattle.work_claim.proofs.ClaimLemmas.{join_allowed}
use Rattle.work_claim.proofs.counter.Counter.join.Goals as goal

pub join_seat-requires : goal.join_seat-requires
join_seat-requires c = (search rules, search rules, search rules, search rules, join_allowed _ _ _ _ _ _)
