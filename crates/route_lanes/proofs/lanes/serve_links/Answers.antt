use Rattle.route_io.specs.declared.link.Link.{Link}
use Rattle.route_lanes.specs.declared.operator_lane.OperatorLane.{OperatorLane}
use Rattle.route_lanes.specs.declared.session_lane.SessionLane.{SessionLane}
use Rattle.link_doors.specs.Links.{state_of}
use Rattle.session_core.specs.declared.end.SessionEnd.{SessionEnd}
use Rattle.route_lanes.specs.Served.{OperatorServes, SessionServes}
use Rattle.route_lanes.proofs.SaidLemmas.{first_and_all_as, leaves_as}
use Rattle.route_lanes.proofs.lanes.serve_links.Goals as goal

pub returns : goal.returns
returns g c =
    let all = c.serve_all.ensures in
    let context = c.args.context.now in
    let link = Link g.row.S.Denot g.row.K.Denot in
    let first : OperatorLane g.row.T.Denot SessionEnd → link → OperatorLane g.row.T.Denot SessionEnd → link → Type 0 =
    OperatorServes (state_of g.S.Source.state g.K.Sink.state) g.T.Store.origin context.policy in
    let rest : SessionLane g.row.T.Denot SessionEnd → link → SessionLane g.row.T.Denot SessionEnd → link → Type 0 =
    SessionServes (state_of g.S.Source.state g.K.Sink.state) (record { graph = context.graph.now; origin = g.T.Store.origin; budget = context.budget }) context.policy in
    first_and_all_as _ first _ rest
    (leaves_as _ _ first (λ a b d e said. said))
    (leaves_as _ _ rest (λ a b d e said. said)) all
