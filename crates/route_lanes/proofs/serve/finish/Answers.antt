use Rattle.std.proofs.Common.{List, All, subst}
use mathlib.Core.List.{IsPrefix}
use Rattle.route_lanes.specs.Served.{whole_of}
use Rattle.route_lanes.specs.declared.session_lane.SessionLane.{SessionLane}
use Rattle.route_lanes.specs.declared.visits.DoorTally.{DoorTally}
use Rattle.route_lanes.proofs.serve.finish.Goals as goal

pub returns-clause-begins : goal.returns-clause-begins
returns-clause-begins g c =
    let lane : Type 0 = SessionLane g.row.T.Denot DoorTally in
    let seen : List lane → Type 0 = λ lanes. All (λ (l : lane). IsPrefix l.session.seen (whole_of c.args.operator.store)) lanes in
    subst seen c.deref_mut.ensures.value c.end_store.ensures.begins
