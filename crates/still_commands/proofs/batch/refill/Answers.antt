use Rattle.still_commands.proofs.AheadLemmas.{first_of_first}
use Rattle.still_commands.proofs.batch.refill.Goals as goal

pub returns-in-Ok : goal.returns-in-Ok
returns-in-Ok g c = first_of_first c.args.answerer.now.mode c.args.limits.now c.args.answerer.now.network.now c.args.pairs.now _ _ c.in-Ok.ensures
