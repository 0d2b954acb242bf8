use Rattle.std.proofs.Common.{◌≡◌, All, length, take}
use Rattle.cost_vector.specs.Costs.{AtMost}
use Rattle.front_cert.proofs.corners.corner_of.Given as goal

-- the corner is at most the costs so far
abbrev pub invariant-loop-label : goal.invariant-loop-label
invariant-loop-label l = record {
  whole : length l.corner ≡ l.criteria;
  at_most : All (λ x. AtMost l.corner x.cost) (take l.label-index l.labels);
}
