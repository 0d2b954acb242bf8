use Rattle.std.proofs.Common.{◌≡◌, ℕ, List, [], ◌∷◌, ◌++◌, All, length, map, rules, ap, ap₂, sym, subst, ◌∙◌}
use Rattle.std.proofs.lemmas.List.{length-map}
use mathlib.Core.List.{IsPrefix}
use Rattle.epoch_store.specs.Origin.{last_number}
use Rattle.session_core.specs.declared.end.SessionEnd.{SessionEnd}
use Rattle.route_lanes.specs.Lanes.{LaneReport}
use Rattle.route_lanes.specs.Served.{learnt, report_of, whole_of}
use Rattle.route_lanes.specs.declared.session_lane.SessionLane.{SessionLane}
use Rattle.route_lanes.proofs.ReportLemmas.{reports_of_learnt, written_back}
use Rattle.route_lanes.proofs.run.report_lanes.Goals as goal

pub returns-clause-reports : goal.returns-clause-reports
returns-clause-reports g c =
    let o = g.T.Store.origin in
    let before = c.args.sessions.items in
    let after = c.end_store-last.new.lanes in
    let whole = whole_of c.args.operator.store in
    let last = c.end_store-last.result in
    let end = c.args.operator.end in
    let change : SessionLane g.row.T.Denot SessionEnd → SessionLane g.row.T.Denot SessionEnd = learnt whole in
    let learned : after ≡ map change before = c.end_store-last.ensures.learnt ∙ ap (map change) c.deref_mut.ensures.value in
    let count = ap length learned ∙ length-map before change ∙ (sym (ap length c.deref_mut.ensures.value) ∙ c.deref_mut.ensures.len) in
    let back = written_back after before c.args.sessions.len count ∙ learned in
    let number : last ≡ last_number o whole = c.end_store-last.ensures.last in
    let first : LaneReport = record { end = end; last = last; numbers = [] } in
    let pushed : c.push_reserved.new.self.items ≡ first ∷ [] = search rules in
    let same = ap (map (report_of last)) back ∙ reports_of_learnt last whole before in
    subst (λ (n : ℕ). c.report_sessions.result.items ≡ record { end = end; last = n; numbers = [] } ∷ map (report_of n) before) number
    (c.report_sessions.ensures ∙ ap₂ (λ (a b : List LaneReport). a ++ b) pushed same)

pub returns-clause-begins : goal.returns-clause-begins
returns-clause-begins g c =
    let lane : Type 0 = SessionLane g.row.T.Denot SessionEnd in
    let seen : List lane → Type 0 = λ lanes. All (λ (l : lane). IsPrefix l.session.seen (whole_of c.args.operator.store)) lanes in
    subst seen c.deref_mut.ensures.value c.end_store-last.ensures.begins
