use Rattle.std.proofs.Common.{◌≡◌, All, map, take}
use Rattle.road_network.specs.Queries.{IsAsked}
use Rattle.still_commands.specs.Batch.{query_between}
use Rattle.still_commands.proofs.batch.make_ahead.Given as goal

-- the queries of the pairs so far
abbrev pub invariant-loop-pair : goal.invariant-loop-pair
invariant-loop-pair g l = record {
  between : l.queries.items ≡ map (query_between l.limits) (take l.pair-index l.pairs);
  asked : All (IsAsked l.answerer.network.now.criteria) l.queries.items;
}
