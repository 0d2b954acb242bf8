use Rattle.std.proofs.Common.{◌≡◌, subst}
use Rattle.arc_graph.proofs.OperatorLemmas.{operator_closed}
use Rattle.epoch_store.specs.Origin.{arcs_of, criteria_of}
use Rattle.route_lanes.specs.declared.operator_lane.StoreState.{StoreState}
use Rattle.route_lanes.specs.declared.operator_lane.StoreState.TheVariants.{Closed}
use Rattle.route_lanes.specs.Served.{whole_of}
use Rattle.route_lanes.proofs.door_lanes.OperatorLane+T+DoorTally.serve_door.Goals as goal

pub returns : goal.returns
returns g c =
    let o = g.T.Store.origin in
    let served = c.serve_open_door-self.ensures in
    let kept = c.replace_with.new.dest in record {
      left = served.left;
      serves = served.serves;
      closed = subst (λ (s : StoreState g.row.T.Denot). kept ≡ Closed (whole_of s)) served.stays c.replace_with.ensures;
      published = operator_closed (arcs_of o) (criteria_of o) o.first served.left served.operator;
    }
