use Rattle.std.specs.Global.{Vec}
use Rattle.std.proofs.Common.{List}
use Rattle.route_io.specs.declared.link.Link.{Link}
use Rattle.link_doors.specs.Links.{state_of}
use Rattle.session_core.specs.declared.end.SessionEnd.{SessionEnd}
use Rattle.route_lanes.specs.declared.feed_lane.FeedReport.{FeedReport}
use Rattle.route_lanes.specs.declared.operator_lane.OperatorLane.{OperatorLane}
use Rattle.route_lanes.specs.declared.session_lane.SessionLane.{SessionLane}
use Rattle.route_lanes.specs.Served.{SessionServes}
use Rattle.route_lanes.specs.Taken.{LaneTakes}
use Rattle.route_lanes.proofs.SaidLemmas.{all_serve_as, leaves_as}
use Rattle.route_lanes.proofs.follow.follow_and_serve.Goals as goal

pub returns-clause-follower : goal.returns-clause-follower
returns-clause-follower g c =
    let lane : Type 0 = OperatorLane g.row.T.Denot (Vec FeedReport) in
    let takes : lane → List g.row.F.Denot → lane → List g.row.F.Denot → Type 0 =
    LaneTakes g.F.Source.state c.args.context.now.graph.now g.T.Store.origin in
    leaves_as _ _ takes (λ a b d e said. said) _ _ _ _ c.lead_beside.ensures.leads

pub returns-clause-sessions : goal.returns-clause-sessions
returns-clause-sessions g c =
    let context = c.args.context.now in
    let link : Type 0 = Link g.row.S.Denot g.row.K.Denot in
    let lane : Type 0 = SessionLane g.row.T.Denot SessionEnd in
    let rest : lane → link → lane → link → Type 0 =
    SessionServes (state_of g.S.Source.state g.K.Sink.state) (record { graph = context.graph.now; origin = g.T.Store.origin; budget = context.budget }) context.policy in
    all_serve_as _ rest (leaves_as _ _ rest (λ a b d e said. said)) c.lead_beside.ensures.serves
