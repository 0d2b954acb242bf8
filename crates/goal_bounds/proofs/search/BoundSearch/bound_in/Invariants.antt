use Rattle.std.proofs.Common.{◌≡◌, length}
use Rattle.goal_bounds.specs.Bounds.{IsBoundSearch}
use Rattle.goal_bounds.proofs.BoundLemmas.{AreLeastBefore}
use Rattle.goal_bounds.proofs.search.BoundSearch.bound_in.Given as goal

-- the components so far are the least ones
abbrev pub invariant-loop-j : goal.invariant-loop-j
invariant-loop-j g l = record {
  search : IsBoundSearch l.network l.fn.self.target (record { target = l.self-inside.target.0; searches = l.self-inside.searches.items });
  places : length l.components ≡ g.row.D;
  least : AreLeastBefore l.network l.node.0 l.fn.self.target l.j l.components;
}
