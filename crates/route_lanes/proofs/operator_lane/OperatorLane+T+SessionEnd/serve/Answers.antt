use Rattle.std.proofs.Common.{◌≡◌, subst}
use Rattle.arc_graph.proofs.OperatorLemmas.{operator_closed}
use Rattle.arc_graph.specs.History.{with_none_pending}
use Rattle.epoch_store.specs.Origin.{arcs_of, criteria_of}
use Rattle.route_lanes.specs.declared.operator_lane.StoreState.{StoreState}
use Rattle.route_lanes.specs.declared.operator_lane.StoreState.TheVariants.{Closed}
use Rattle.route_lanes.specs.Served.{whole_of}
use Rattle.route_lanes.proofs.operator_lane.OperatorLane+T+SessionEnd.serve.Goals as goal

pub returns : goal.returns
returns g c =
    let o = g.T.Store.origin in
    let served = c.serve_open-self.ensures in
    let kept = c.replace_with.new.dest in record {
      left = served.left;
      serves = served.serves;
      closed = subst (λ (s : StoreState g.row.T.Denot). kept ≡ Closed (whole_of s)) served.stays c.replace_with.ensures;
      published = operator_closed (arcs_of o) (criteria_of o) o.first (with_none_pending served.left) served.operator;
    }
