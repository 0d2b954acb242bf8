use Rattle.std.proofs.Common.{◌≤◌, ◌-◌, length}
use Rattle.front_cert.specs.Offsets.{AreUpTo}
use Rattle.front_cert.proofs.offsets.end_of.Given as goal

abbrev pub invariant-labels : goal.invariant-labels
invariant-labels l = record {
  within : l.end ≤ length l.fn.labels;
  up_to : AreUpTo l.fn.labels l.fn.node l.end;
}

abbrev pub decreases-labels : goal.decreases-labels
decreases-labels l = length l.fn.labels - l.end
