use Rattle.link_doors.proofs.TownLemmas.{OutSoFar}
use Rattle.link_doors.proofs.memory_town.hand_out.Given as goal

abbrev pub invariant-loop-place : goal.invariant-loop-place
invariant-loop-place l = OutSoFar l.fn.waiting.items l.waiting.items l.doors l.links l.count l.place
