use Rattle.event_machine.proofs.Keeping.{settled_stays, entries_stand}
use Rattle.event_machine.proofs.finality.entries_below_settled_labels_stand.Goals as goal

pub returns : goal.returns
returns c = record {
  settled = λ task s next event l is reached. settled_stays task is s reached next event l;
  entries = λ task s next event l y is reached. entries_stand task is s reached next event l y;
}
