use Rattle.std.proofs.Common.{take}
use Rattle.round_work.specs.Pieces.{Appends, AreWithRoom, onward_in}
use Rattle.round_work.proofs.pieces.TakenItems.append_piece.Given as goal

abbrev pub invariant-loop-item : goal.invariant-loop-item
invariant-loop-item g l = Appends (AreWithRoom g.C.StoredCost.components g.C.Part.Part.bound
    (onward_in g.C.StoredCost.components l.self.network.now (take l.item-index l.item-items))) l.fn.candidates.items l.candidates.items
