use Rattle.epoch_store.proofs.PrefixLemmas.{prefix_self, prefix_trans}
use Rattle.epoch_store.proofs.reader.EpochReader.look_until.Goals as goal

pub loop-init : goal.loop-init
loop-init g c = prefix_self _

pub loop-preserved : goal.loop-preserved
loop-preserved g c = prefix_trans _ _ _ c.loop.invariant c.read.ensures.begins
