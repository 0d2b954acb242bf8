use Rattle.std.proofs.Common.{◌≡◌, subst}
use Rattle.arc_graph.proofs.OperatorLemmas.{operator_closed}
use Rattle.epoch_store.specs.Origin.{arcs_of, criteria_of}
use Rattle.route_lanes.specs.declared.operator_lane.StoreState.{StoreState}
use Rattle.route_lanes.specs.declared.operator_lane.StoreState.TheVariants.{Closed}
use Rattle.route_lanes.specs.Served.{whole_of}
use Rattle.route_lanes.proofs.feed_lane.OperatorLane+T+Vec+FeedReport.take.Goals as goal

pub returns : goal.returns
returns g c =
    let o = g.T.Store.origin in
    let took = c.take_open.ensures in
    let kept = c.replace_with.new.dest in record {
      last = took.left.published;
      takes = took.takes;
      closed = subst (λ (s : StoreState g.row.T.Denot). kept ≡ Closed (whole_of s)) took.stays c.replace_with.ensures;
      published = operator_closed (arcs_of o) (criteria_of o) o.first took.left took.operator;
    }
