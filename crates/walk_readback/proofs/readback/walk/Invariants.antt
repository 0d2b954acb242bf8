use Rattle.std.proofs.Common.{◌-◌, ◌≤◌, length}
use Rattle.walk_readback.specs.Found.{longest_in}
use Rattle.walk_readback.proofs.WellFoundLaws.{IsReading}
use Rattle.walk_readback.proofs.readback.walk.Given as goal

abbrev pub invariant-arcs : goal.invariant-arcs
invariant-arcs g l = IsReading l.network (g.F.FoundCosts.state l.found) l.initial.cost l.node.0 l.cost l.room.arcs × (l.initial.room.holds ≤ l.room.holds)

abbrev pub decreases-arcs : goal.decreases-arcs
decreases-arcs g l = longest_in (g.F.FoundCosts.state l.found) - length l.room.arcs
