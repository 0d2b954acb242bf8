use Rattle.route_lanes.specs.declared.operator_lane.OperatorLane.{OperatorLane}
use Rattle.route_lanes.specs.declared.session_lane.SessionLane.{SessionLane}
use Rattle.route_lanes.specs.declared.visits.DoorTally.{DoorTally}
use Rattle.route_lanes.specs.DoorsServed.{OperatorServesDoor, SessionServesDoor}
use Rattle.route_lanes.proofs.SaidLemmas.{first_and_all_as, leaves_as}
use Rattle.route_lanes.proofs.door_lanes.serve_doors.Goals as goal

pub returns : goal.returns
returns g c =
    let all = c.serve_all.ensures in
    let context = c.args.context.now in
    let first : OperatorLane g.row.T.Denot DoorTally → g.row.D.Denot → OperatorLane g.row.T.Denot DoorTally → g.row.D.Denot → Type 0 =
    OperatorServesDoor g.D.Door.state g.T.Store.origin context.policy in
    let rest : SessionLane g.row.T.Denot DoorTally → g.row.D.Denot → SessionLane g.row.T.Denot DoorTally → g.row.D.Denot → Type 0 =
    SessionServesDoor g.D.Door.state (record { graph = context.graph.now; origin = g.T.Store.origin; budget = context.budget }) context.policy in
    first_and_all_as _ first _ rest
    (leaves_as _ _ first (λ a b d e said. said))
    (leaves_as _ _ rest (λ a b d e said. said)) all
