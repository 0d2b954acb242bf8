use Rattle.serving_tests.proofs.TurnDoorLemmas.{has_back}
use Rattle.serving_tests.proofs.tests.lanes.doors.TurnDoorDoor.give_back.Goals as goal

pub returns : goal.returns
returns c = has_back _ _ _ c.requires.owed
