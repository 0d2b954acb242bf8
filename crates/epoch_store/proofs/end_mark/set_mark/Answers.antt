use Rattle.epoch_store.proofs.MarkLemmas.{looks_for_mark}
use Rattle.epoch_store.proofs.end_mark.set_mark.Goals as goal

pub publish_as-writer-requires : goal.publish_as-writer-requires
publish_as-writer-requires g c next is = looks_for_mark _ _ next
