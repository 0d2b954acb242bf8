use Rattle.epoch_store.proofs.MarkLemmas.{looks_for_mark}
use Rattle.epoch_store.proofs.end_mark.look_for_mark.Goals as goal

pub enter-requires : goal.enter-requires
enter-requires c m = looks_for_mark _ _ m
