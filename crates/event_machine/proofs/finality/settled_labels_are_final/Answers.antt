use Rattle.event_machine.proofs.Keeping.{sound_if_reached, settled_once}
use Rattle.event_machine.proofs.finality.settled_labels_are_final.Goals as goal

pub returns : goal.returns
returns c = record {
  relevant = λ task s l is reached. (sound_if_reached task is s reached).relevant l;
  once = λ task s l m is reached. settled_once task is s reached l m;
  least_arc = λ task s l is reached. (sound_if_reached task is s reached).least l;
}
