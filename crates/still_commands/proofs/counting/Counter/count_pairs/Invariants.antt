use Rattle.std.proofs.Common.{◌≡◌, take}
use Rattle.still_commands.specs.Summary.{Fits, SumsUp}
use Rattle.still_commands.proofs.counting.Counter.count_pairs.Given as goal

-- the pairs so far were counted
abbrev pub invariant-loop-pair : goal.invariant-loop-pair
invariant-loop-pair g l = record {
  come : l.counts.pairs ≡ l.pair-index;
  fits : Fits l.counts;
  sums : SumsUp l.self.network.now l.limits.budget (take l.pair-index l.pairs) l.counts;
}
