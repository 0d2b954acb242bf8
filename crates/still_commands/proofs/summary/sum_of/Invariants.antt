use Rattle.std.proofs.Common.{◌≡◌, take, sum}
use Rattle.still_commands.proofs.summary.sum_of.Given as goal

-- the components so far are added up
abbrev pub invariant-loop-i : goal.invariant-loop-i
invariant-loop-i l = l.total ≡ sum (take l.i l.cost)
