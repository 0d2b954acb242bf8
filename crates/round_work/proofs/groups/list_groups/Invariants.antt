use Rattle.std.proofs.Common.{length}
use Rattle.round_work.proofs.GroupLemmas.{IsCutting, lists}
use Rattle.round_work.proofs.groups.list_groups.Given as goal

abbrev pub invariant-loop-rest : goal.invariant-loop-rest
invariant-loop-rest g l = IsCutting l.candidates (lists l.groups.items) l.rest

abbrev pub decreases-loop-rest : goal.decreases-loop-rest
decreases-loop-rest g l = length l.rest
