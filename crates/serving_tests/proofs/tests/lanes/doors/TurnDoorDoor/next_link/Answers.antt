use Rattle.serving_tests.proofs.TurnDoorLemmas.{gives_link, gives_no_other, gives_none}
use Rattle.serving_tests.proofs.tests.lanes.doors.TurnDoorDoor.next_link.Goals as goal

pub returns-then-self : goal.returns-then-self
returns-then-self c = rw (c.if-self.true) (gives_no_other _)

pub returns-in_default : goal.returns-in_default
returns-in_default c =
    rw (c.if-self.false, c.take.ensures.after, ← c.take.ensures.value, c.in_default.is) gives_none

pub returns : goal.returns
returns c =
    rw (c.if-self.false, c.take.ensures.after, ← c.take.ensures.value, c.in-Some.is) (gives_link _)
