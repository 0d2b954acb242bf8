use Rattle.std.proofs.Common.{map, take}
use Rattle.waiting_item.specs.Waiting.{spot_in}
use Rattle.settled_fronts.specs.Settling.{placed}
use Rattle.settled_fronts.proofs.SettlingLemmas.{SettlesEach}
use Rattle.settled_fronts.proofs.settling.SettlingChanges.change.Given as goal

abbrev pub invariant-loop-item : goal.invariant-loop-item
invariant-loop-item g l = SettlesEach g.F.SettledFront.costs g.F.Cost.Part.Part.bound
    (take l.item-index (placed l.self.places.now (map (spot_in g.F.Cost.StoredCost.components) l.self.items.now))) l.first l.fn.fronts l.fronts
