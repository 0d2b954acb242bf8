use Rattle.std.proofs.Common.{◌++◌, drop}
use Rattle.waiting_queue.proofs.PassingLemmas.{IsUnderWay}
use Rattle.waiting_queue.proofs.passing.pass_in_turn.Given as goal

abbrev pub invariant-loop-i : goal.invariant-loop-i
invariant-loop-i g l = IsUnderWay g.C.StoredCost.components (g.K.Look.IsOpen l.look) (l.items ++ l.fresh) l.left (drop l.i l.fresh)
    l.shadow.items l.taken.items l.rest.items
