use Rattle.std.proofs.Common.{rules, List, ◌++◌, sym, ap, ◌∙◌, arith, map, map-id}
use Rattle.std.proofs.lemmas.Iterator.Adapters.{YieldsList-from_vec}
use Rattle.std.proofs.lemmas.Iterator.Consumers.{YieldsList-end, YieldsList-turn}
use Rattle.session_core.specs.declared.end.SessionEnd.{SessionEnd}
use Rattle.route_lanes.specs.Served.{report_of}
use Rattle.route_lanes.specs.declared.session_lane.SessionLane.{SessionLane}
use Rattle.route_lanes.proofs.session_lane.report_sessions.Goals as goal

pub push_reserved-requires : goal.push_reserved-requires
push_reserved-requires g c =
    let lanes = c.args.lanes.items in
    let loop = c.loop-lane in
    let road = YieldsList-from_vec {s = c.into_iter-lane-iterator.result} lanes (search rules) (search rules) in
    let turn = YieldsList-turn road loop.yielded loop.lane-iterator loop.yielded_by c.next.result c.next.new.self c.in-Some.lane c.in-Some.is c.next.ensures.steps in
    omega (arith, loop.invariant.count, loop.invariant.room, turn.0, c.requires.room)

pub returns : goal.returns
returns g c =
    let lanes = c.args.lanes.items in
    let loop = c.loop-lane in
    let road = YieldsList-from_vec {s = c.into_iter-lane-iterator.result} lanes (search rules) (search rules) in
    let end = YieldsList-end road loop.yielded loop.lane-iterator loop.yielded_by c.next.result c.next.new.self c.in-None.is c.next.ensures.steps in
    loop.invariant.reports ∙ ap (λ (xs : List (SessionLane g.row.T.Denot SessionEnd)). c.args.reports.items ++ map (report_of c.args.last) xs) (sym (map-id loop.yielded) ∙ end.0)
