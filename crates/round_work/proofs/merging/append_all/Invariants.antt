use Rattle.std.proofs.Common.{◌≡◌, ◌++◌, take}
use Rattle.round_work.specs.Pieces.{all_of}
use Rattle.round_work.proofs.merging.append_all.Given as goal

abbrev pub invariant-loop-list : goal.invariant-loop-list
invariant-loop-list g l = l.all.items ≡ l.fn.all.items ++ all_of (take l.list-index l.lists)
