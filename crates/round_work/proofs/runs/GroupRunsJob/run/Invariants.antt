use Rattle.std.proofs.Common.{take}
use Rattle.round_work.proofs.GroupLemmas.{KeepsOfGroups, lists}
use Rattle.round_work.proofs.runs.GroupRunsJob.run.Given as goal

abbrev pub invariant-loop-i : goal.invariant-loop-i
invariant-loop-i g l = KeepsOfGroups g.C.StoredCost.components (g.K.Look.IsOpen l.self.look.now) (lists (take l.i l.group-items)) l.kept.items
