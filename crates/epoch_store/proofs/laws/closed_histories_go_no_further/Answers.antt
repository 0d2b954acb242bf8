use Rattle.epoch_store.proofs.ClosedLemmas.{no_further}
use Rattle.epoch_store.proofs.laws.closed_histories_go_no_further.Goals as goal

pub returns : goal.returns
returns c = no_further
