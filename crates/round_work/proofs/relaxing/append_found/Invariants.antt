use Rattle.std.proofs.Common.{take}
use Rattle.round_work.specs.Pieces.{AppendsFound}
use Rattle.round_work.proofs.relaxing.append_found.Given as goal

abbrev pub invariant-loop-list : goal.invariant-loop-list
invariant-loop-list g l = AppendsFound (take l.list-index l.lists) l.fn.all.items l.all.items
