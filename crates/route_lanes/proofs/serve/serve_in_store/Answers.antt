use Rattle.std.proofs.Common.{◌≤◌, length, map, sym, ◌∙◌, arith}
use Rattle.std.proofs.lemmas.List.{length-map}
use Rattle.std.proofs.lemmas.Result.{err_from_is_err_and}
use Rattle.session_core.specs.Sessions.{Scene}
use Rattle.route_lanes.specs.DoorsServed.{SessionServesDoor}
use Rattle.route_lanes.specs.declared.session_lane.SessionLane.{SessionLane}
use Rattle.route_lanes.specs.declared.visits.DoorTally.{DoorTally}
use Rattle.route_lanes.proofs.DoorLaneLemmas.{serves_lanes, serves_none}
use Rattle.route_lanes.proofs.ReportLemmas.{written_back}
use Rattle.route_lanes.proofs.SaidLemmas.{as_many_parties}
use Rattle.route_lanes.proofs.serve.serve_in_store.Goals as goal

pub returns-in_err-operator : goal.returns-in_err-operator
returns-in_err-operator g c =
    let context = c.args.context.now in
    let p = err_from_is_err_and c.from_residual.result c.from_residual.ensures.1 in
    let some : 1 ≤ length (map g.D.Door.state c.args.doors.now) = omega (arith, length-map c.args.doors.now g.D.Door.state, c.requires.some_session) in
    rw p.1 (serves_none context.graph.now g.T.Store.origin c.args.weights c.args.first context.budget context.policy
    (sym c.requires.first) (sym c.requires.base) _ _ some)

pub returns-in-Err : goal.returns-in-Err
returns-in-Err g c =
    let context = c.args.context.now in
    let some : 1 ≤ length (map g.D.Door.state c.args.doors.now) = omega (arith, length-map c.args.doors.now g.D.Door.state, c.requires.some_session) in
    serves_none context.graph.now g.T.Store.origin c.args.weights c.args.first context.budget context.policy
    (sym c.requires.first) (sym c.requires.base) _ _ some

pub returns-in-Ok : goal.returns-in-Ok
returns-in-Ok g c =
    let context = c.args.context.now in
    let scene : Scene = record { graph = context.graph.now; origin = g.T.Store.origin; budget = context.budget } in
    let lanes = c.serve_doors.new.sessions in
    let serves : SessionLane g.row.T.Denot DoorTally → _ → SessionLane g.row.T.Denot DoorTally → _ → Type 0 =
    SessionServesDoor g.D.Door.state scene context.policy in
    let count = as_many_parties serves c.serve_doors.ensures.served ∙ c.deref_mut.ensures.len in
    let back = written_back lanes c.in-Ok.sessions.items c.in-Ok.sessions.len count in
    serves_lanes context.graph.now g.T.Store.origin c.args.weights c.args.first context.budget context.policy
    (sym c.requires.first) (sym c.requires.base) g.D.Door.state _ c.serve_doors.new.operator _ lanes _ _ c.finish.result c.serve_doors.ensures
    (rw back at c.finish.ensures.sums) (rw back at c.finish.ensures.begins)
