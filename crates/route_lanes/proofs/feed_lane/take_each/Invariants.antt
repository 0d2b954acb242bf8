use Rattle.std.proofs.Common.{◌≡◌, ◌≤◌, [], length, vec_len, vec_capacity}
use Rattle.route_lanes.specs.Taken.{TakesFirst}
use Rattle.route_lanes.proofs.feed_lane.take_each.Given as goal

-- the first so many feeds were taken, nothing is pending, and there is room for the other reports
abbrev pub invariant-loop-k : goal.invariant-loop-k
invariant-loop-k g l = record {
  idle : l.operator.pending ≡ [];
  first : TakesFirst g.F.Source.state l.context.graph.now g.T.Store.origin l.k l.initial.feeds l.feeds l.reports.items l.operator.published;
  count : vec_len l.reports ≡ l.k;
  room : length l.initial.feeds ≤ vec_capacity l.reports;
}
