use Rattle.std.proofs.Common.{List, [], ◌∷◌, All, map, ap, sym, subst, ◌∙◌}
use mathlib.Core.List.{IsPrefix}
use Rattle.route_io.specs.declared.link.Link.{Link}
use Rattle.epoch_store.specs.Origin.{last_number}
use Rattle.session_core.specs.Sessions.{Scene}
use Rattle.link_doors.specs.Links.{LinkState, state_of}
use Rattle.session_core.specs.declared.end.SessionEnd.{SessionEnd}
use Rattle.route_lanes.specs.Lanes.{LaneReport}
use Rattle.route_lanes.specs.Served.{SessionServes, report_of, whole_of}
use Rattle.route_lanes.specs.declared.session_lane.SessionLane.{SessionLane}
use Rattle.route_lanes.proofs.LaneLemmas.{runs_lanes}
use Rattle.route_lanes.proofs.ReportLemmas.{written_back}
use Rattle.route_lanes.proofs.SaidLemmas.{as_many_parties}
use Rattle.route_lanes.proofs.run.run_in_store.Goals as goal

pub returns-in-Ok-clause-served : goal.returns-in-Ok-clause-served
returns-in-Ok-clause-served g c =
    let o = g.T.Store.origin in
    let context = c.args.context.now in
    let show : Link g.row.S.Denot g.row.K.Denot → LinkState = state_of g.S.Source.state g.K.Sink.state in
    let scene : Scene = record { graph = context.graph.now; origin = o; budget = context.budget } in
    let one = c.serve_links.new.operator in
    let lanes = c.serve_links.new.sessions in
    let before = c.in-Ok.sessions.items in
    let all = c.serve_links.ensures in
    let serves : SessionLane g.row.T.Denot SessionEnd → _ → SessionLane g.row.T.Denot SessionEnd → _ → Type 0 = SessionServes show scene context.policy in
    let count = as_many_parties serves all.served ∙ c.deref_mut.ensures.len in
    let back = written_back lanes before c.in-Ok.sessions.len count in
    let whole = whole_of one.store in
    let last = last_number o whole in
    let seen : List (SessionLane g.row.T.Denot SessionEnd) → Type 0 = λ xs. All (λ (x : SessionLane g.row.T.Denot SessionEnd). IsPrefix x.session.seen whole) xs in
    let first : LaneReport = record { end = one.end; last = last; numbers = [] } in
    runs_lanes show context.graph.now o context.budget context.policy _ one _ lanes _ _ c.report_lanes.result.items c.args.weights c.args.first
    (sym c.requires.first) (sym c.requires.base) all
    (c.report_lanes.ensures.reports ∙ ap (λ (xs : List (SessionLane g.row.T.Denot SessionEnd)). first ∷ map (report_of last) xs) back)
    (subst seen back c.report_lanes.ensures.begins)
