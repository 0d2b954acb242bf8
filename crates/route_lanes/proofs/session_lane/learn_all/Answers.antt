use Rattle.std.proofs.Common.{◌<◌, List, All, set, length, sym, subst, ap, ◌∙◌, arith}
use Rattle.std.proofs.lemmas.List.{take_all}
use Rattle.std.proofs.lemmas.List.Edits.{map_over_more}
use Rattle.std.proofs.lemmas.List.Elements.{All-more}
use mathlib.Core.List.{IsPrefix}
use Rattle.route_lanes.specs.declared.session_lane.SessionLane.{SessionLane}
use Rattle.route_lanes.specs.Served.{learnt}
use Rattle.route_lanes.proofs.LearnLemmas.{not_yet}
use Rattle.route_lanes.proofs.session_lane.learn_all.Goals as goal

pub loop-k-preserved : goal.loop-k-preserved
loop-k-preserved g c =
    let whole = c.args.ended.now in
    let loop = c.loop-k in
    let lane = c.index-lanes-k.result in
    let before = c.args.lanes.now in
    let begins : SessionLane g.row.T.Denot g.row.E.Denot → Type 0 = λ one. IsPrefix one.session.seen whole in
    let within : loop.k < length before = omega arith in
    let change : SessionLane g.row.T.Denot g.row.E.Denot → SessionLane g.row.T.Denot g.row.E.Denot = learnt whole in
    let as_before = not_yet change before loop.lanes loop.k lane within loop.invariant.learnt in
    let written = c.learn.ensures.learnt ∙ ap change (sym c.index-lanes-k.is) in record {
      learnt = ap (set loop.lanes loop.k) written ∙ map_over_more change before loop.lanes loop.k lane within loop.invariant.learnt c.index-lanes-k.is;
      begins = All-more begins before loop.k lane within loop.invariant.begins (subst begins as_before c.learn.ensures.begins);
    }

pub returns-clause-begins : goal.returns-clause-begins
returns-clause-begins g c =
    let begins : SessionLane g.row.T.Denot g.row.E.Denot → Type 0 = λ one. IsPrefix one.session.seen c.args.ended.now in
    let before = c.args.lanes.now in
    let whole = take_all c.loop-k.k before (omega arith) in
    subst (λ (lanes : List (SessionLane g.row.T.Denot g.row.E.Denot)). All begins lanes) whole c.loop-k.invariant.begins
