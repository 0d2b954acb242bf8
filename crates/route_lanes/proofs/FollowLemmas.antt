-- What became of a follower's lane and of the sessions beside it.
use Rattle.std.proofs.Common.{◌≡◌, ℕ, List, [], ◌∷◌, ◌++◌, map, All, refl, ap, subst, ◌∙◌}
use mathlib.Core.List.{IsPrefix}
use Rattle.std.specs.Global.{Vec}
use Rattle.arc_graph.specs.Graph.{Graph, Weights}
use Rattle.arc_graph.specs.History.{History}
use Rattle.arc_graph.specs.History.HistoryEntry.{Closed}
use Rattle.epoch_store.specs.Origin.{Origin, last_number}
use Rattle.link_doors.specs.Links.{LinkState}
use Rattle.route_io.specs.Sources.{SourceState}
use Rattle.session_core.specs.declared.context.LinkPolicy.{LinkPolicy}
use Rattle.session_core.specs.declared.end.SessionEnd.{SessionEnd}
use Rattle.session_core.specs.Sessions.{Scene}
use Rattle.route_lanes.specs.Following.{FollowReport, RunsFollow}
use Rattle.route_lanes.specs.Served.{SessionServes, report_of, whole_of}
use Rattle.route_lanes.specs.Services.{AllServe}
use Rattle.route_lanes.specs.Taken.{LaneTakes}
use Rattle.route_lanes.specs.declared.feed_lane.FeedReport.{FeedReport}
use Rattle.route_lanes.specs.declared.operator_lane.OperatorLane.{OperatorLane}
use Rattle.route_lanes.specs.declared.session_lane.SessionLane.{SessionLane}
use Rattle.route_lanes.proofs.LaneLemmas.{lane_of, maps_agree, session_lanes}

module _ {T F L : Type 0} (show_feed : F → SourceState) (show : L → LinkState) (graph : Graph) (o : Origin) (budget : ℕ) (policy : LinkPolicy)
    (one one' : OperatorLane T (Vec FeedReport)) (feeds feeds' : List F) (lanes lanes' : List (SessionLane T SessionEnd)) (links links' : List L)
    (report : FollowReport) where
  pub runs_follow : (weights : Weights) (first : ℕ) → o.first ≡ first → o.base ≡ weights → LaneTakes show_feed graph o one feeds one' feeds'
      → AllServe (SessionServes show (record { graph = graph; origin = o; budget = budget }) policy) lanes links lanes' links'
      → report ≡ record { feeds = one'.end.items; lanes = map (report_of (last_number o (whole_of one'.store))) lanes' }
      → All (λ lane. IsPrefix lane.session.seen (whole_of one'.store)) lanes'
      → RunsFollow graph weights first budget policy (map show_feed feeds) (map show_feed feeds') (map show links) (map show links') report
  runs_follow weights first first_is base_is takes served exchanges begins =
      let whole = takes.last ++ Closed ∷ [] in
      let closed : whole_of one'.store ≡ whole = ap whole_of takes.closed in
      let scene : Scene = record { graph = graph; origin = o; budget = budget } in
      let last = last_number o whole in
      let lane = lane_of show last in
      let services = served.services in
      let seen = subst (λ (h : History). All (λ (x : SessionLane T SessionEnd). IsPrefix x.session.seen h) lanes') closed begins in
      let shown = subst (λ (h : History). report ≡ record { feeds = one'.end.items; lanes = map (report_of (last_number o h)) lanes' }) closed exchanges in
      record {
        origin = o;
        first_is = first_is;
        base_is = base_is;
        last = takes.last;
        feeds_taken = rw shown takes.takes;
        sessions = map lane services;
        links_before = ap (map show) served.links_are ∙ maps_agree show (λ s. s.link) (λ l. l.before) lane (λ s. refl) services;
        links_after = ap (map show) served.links_became ∙ maps_agree show (λ s. s.link_after) (λ l. l.after) lane (λ s. refl) services;
        reported = ap (λ (r : FollowReport). r.lanes) shown ∙ ap (map (report_of last)) served.parties_became
            ∙ maps_agree (report_of last) (λ s. s.party_after) (λ l. l.report) lane (λ s. refl) services;
        session_lanes = session_lanes show scene policy whole takes.published services served.each
            (subst (λ (xs : List (SessionLane T SessionEnd)). All (λ (x : SessionLane T SessionEnd). IsPrefix x.session.seen whole) xs) served.parties_became seen);
      }
