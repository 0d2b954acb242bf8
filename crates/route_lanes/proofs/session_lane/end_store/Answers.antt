use Rattle.std.proofs.Common.{All, subst}
use mathlib.Core.List.{IsPrefix}
use Rattle.arc_graph.specs.History.{History}
use Rattle.route_lanes.specs.declared.session_lane.SessionLane.{SessionLane}
use Rattle.route_lanes.proofs.session_lane.end_store.Goals as goal

pub returns-clause-begins : goal.returns-clause-begins
returns-clause-begins g c =
    let lane : Type 0 = SessionLane g.row.T.Denot g.row.E.Denot in
    let seen : History → Type 0 = λ h. All (λ (l : lane). IsPrefix l.session.seen h) c.args.lanes.now in
    subst seen c.close-ended.ensures c.learn_all.ensures.begins
