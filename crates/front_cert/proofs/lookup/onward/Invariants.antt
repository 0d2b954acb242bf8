use Rattle.std.proofs.Common.{◌≤◌, ◌-◌}
use Rattle.front_cert.specs.Lookup.{Encloses}
use Rattle.front_cert.proofs.lookup.onward.Given as goal

abbrev pub invariant-steps : goal.invariant-steps
invariant-steps l = record {
  step : 1 ≤ l.step;
  encloses : Encloses l.fn.labels l.fn.node.0 l.fn.cost l.first l.fn.end;
}

abbrev pub decreases-steps : goal.decreases-steps
decreases-steps l = l.fn.end - l.first
