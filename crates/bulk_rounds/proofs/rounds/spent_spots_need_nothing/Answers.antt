use Rattle.bulk_rounds.proofs.BegunLemmas.{drops_need_nothing, queue_may_lose}
use Rattle.bulk_rounds.proofs.rounds.spent_spots_need_nothing.Goals as goal

pub returns : goal.returns
returns c = search (queue_may_lose, drops_need_nothing)
