use Rattle.std.proofs.Common.{◌≡◌, ◌<◌, ℕ, length, get_or}
use Rattle.goal_bounds.specs.Reverse.{IsReverse, ReverseSearch}
use Rattle.goal_bounds.proofs.search.BoundSearch.new.Given as goal

-- there is a search for each criterion so far
abbrev pub invariant-loop-criterion : goal.invariant-loop-criterion
invariant-loop-criterion l = record {
  count : length l.searches.items ≡ l.criterion;
  each : (j : ℕ) (d : ReverseSearch) → j < l.criterion → IsReverse l.network l.target.0 j (get_or l.searches.items j d);
}
