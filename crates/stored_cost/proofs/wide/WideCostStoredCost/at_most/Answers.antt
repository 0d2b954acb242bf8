use Rattle.std.proofs.Common.{arith}
use Rattle.stored_cost.proofs.Parts.{at_most_by_places}
use Rattle.stored_cost.proofs.wide.WideCostStoredCost.at_most.Goals as goal

pub returns : goal.returns
returns g c =
    rw (← c.self.view_is, ← c.other.view_is)
    (at_most_by_places c.self.inside.parts c.other.inside.parts c.loop-i.i (omega arith) (omega arith) c.loop-i.invariant)
