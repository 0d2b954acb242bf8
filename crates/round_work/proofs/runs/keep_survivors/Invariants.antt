use Rattle.std.proofs.Common.{take}
use Rattle.waiting_item.specs.Waiting.{spot_in}
use Rattle.round_work.specs.Pieces.{Appends}
use Rattle.round_work.specs.Survivors.{KeepsNeeded}
use Rattle.round_work.proofs.runs.keep_survivors.Given as goal

abbrev pub invariant-loop-item : goal.invariant-loop-item
invariant-loop-item g l = Appends (KeepsNeeded (spot_in g.C.StoredCost.components) (g.K.Look.IsOpen l.look) (take l.item-index l.sorted)) l.fn.kept.items l.kept.items
