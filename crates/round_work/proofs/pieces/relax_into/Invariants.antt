use Rattle.std.proofs.Common.{take}
use Rattle.round_work.specs.Pieces.{Appends, AreWithRoom}
use Rattle.round_work.proofs.OnwardLemmas.{onward_by}
use Rattle.round_work.proofs.pieces.relax_into.Given as goal

abbrev pub invariant-loop-arc : goal.invariant-loop-arc
invariant-loop-arc g l = Appends (AreWithRoom g.C.StoredCost.components g.C.Part.Part.bound (onward_by l.network l.item.from.0 l.item.node.0
    (g.C.StoredCost.components l.item.cost) (take l.arc-index l.arcs))) l.fn.candidates.items l.candidates.items
