use Rattle.std.proofs.Common.{◌≡◌, ◌+◌, ◌≤◌, ◌∷◌, map, take}
use Rattle.route_lanes.specs.DoorsServed.{sum_of}
use Rattle.route_lanes.proofs.serve.sum_up.Given as goal

-- what became of the operator's door and those of the lanes so far
abbrev pub invariant-loop-lane : goal.invariant-loop-lane
invariant-loop-lane g l = record {
  sum : l.served ≡ sum_of (l.fn.operator ∷ map (λ lane. lane.end) (take l.lane-index l.sessions));
  few : l.served.failed ≤ l.lane-index + 1;
}
