use Rattle.std.proofs.Common.{◌≡◌, ℕ, ◌<◌, length, get_or, min}
use Rattle.cost_vector.specs.Costs.{max_criteria}
use Rattle.front_cert.proofs.corners.meet.Given as goal

abbrev pub invariant-loop-i : goal.invariant-loop-i
invariant-loop-i l = record {
  long : length l.places ≡ max_criteria;
  lesser : (k : ℕ) → k < l.i → get_or l.places k 0 ≡ min (get_or l.a k 0) (get_or l.b k 0);
}
