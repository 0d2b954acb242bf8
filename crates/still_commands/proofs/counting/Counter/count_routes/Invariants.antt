use Rattle.std.proofs.Common.{◌≤◌}
use Rattle.walk_readback.specs.Found.{longest_in}
use Rattle.still_commands.proofs.CountLemmas.{HasCounted}
use Rattle.still_commands.proofs.counting.Counter.count_routes.Given as goal

-- the costs so far were counted, and the room holds the next walk
abbrev pub invariant-loop-i : goal.invariant-loop-i
invariant-loop-i g l = record {
  room : longest_in (g.F.FoundCosts.state l.found) ≤ l.room.holds;
  counted : HasCounted l.self.network.now (g.F.FoundCosts.state l.found) l.i l.fn.counts l.counts;
}
