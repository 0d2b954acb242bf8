use Rattle.std.proofs.Common.{◌≡◌, ◌++◌, All, map, take, drop}
use mathlib.Core.List.{IsPrefix}
use Rattle.route_lanes.specs.Served.{learnt}
use Rattle.route_lanes.proofs.session_lane.learn_all.Given as goal

abbrev pub invariant-loop-k : goal.invariant-loop-k
invariant-loop-k g l = record {
  learnt : l.lanes ≡ map (learnt l.ended) (take l.k l.initial.lanes) ++ drop l.k l.initial.lanes;
  begins : All (λ lane. IsPrefix lane.session.seen l.ended) (take l.k l.initial.lanes);
}
