use Rattle.std.proofs.Common.{rules}
use Rattle.work_claim.proofs.ClaimLemmas.{split_allowed}
use Rattle.work_claim.proofs.counter.Counter.seat_one.Goals as goal

pub split_seat-requires : goal.split_seat-requires
split_seat-requires c = (search rules, search rules, split_allowed _ _ _ _ (search rules) (search rules))
