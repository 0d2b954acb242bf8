use Rattle.event_machine.proofs.Keeping.{sound_if_reached}
use Rattle.event_machine.proofs.Sound.{known_is_bounded}
use Rattle.event_machine.proofs.finality.sums_are_bounded_by_the_settled.Goals as goal

pub returns : goal.returns
returns c = λ task s y n is reached small. known_is_bounded task is small s (sound_if_reached task is s reached) y n
