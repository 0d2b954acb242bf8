-- What became of all lanes, by what each has served and what is reported.
use Rattle.std.proofs.Common.{◌≡◌, ℕ, List, [], ◌∷◌, map, All, refl, ap, ap₂, subst, ◌∙◌}
use Rattle.std.proofs.lemmas.List.Elements.{All-cons, All-head, All-nil, All-tail}
use mathlib.Core.List.{IsPrefix}
use Rattle.arc_graph.specs.Graph.{Graph, Weights}
use Rattle.arc_graph.specs.History.{History, closed_history}
use Rattle.epoch_store.specs.Origin.{Origin, IsPublishedIn, last_number}
use Rattle.epoch_store.proofs.OperatorLemmas.{closed_last}
use Rattle.epoch_store.proofs.PrefixLemmas.{prefix_self}
use Rattle.link_doors.specs.Links.{LinkState}
use Rattle.session_core.specs.declared.context.LinkPolicy.{LinkPolicy}
use Rattle.session_core.specs.declared.end.SessionEnd.{SessionEnd}
use Rattle.session_core.specs.Links.{Serves}
use Rattle.session_core.specs.Sessions.{IsSessionBye, Scene, SessionGoes}
use Rattle.session_core.proofs.StayLemmas.{run_stays}
use Rattle.route_lanes.specs.Lanes.{IsSessionLane, Lane, LaneReport, RunsLanes}
use Rattle.route_lanes.specs.Served.{OperatorServes, SessionServes, report_of, whole_of}
use Rattle.route_lanes.specs.Services.{FirstAndAllServe, Service}
use Rattle.route_lanes.specs.declared.operator_lane.OperatorLane.{OperatorLane}
use Rattle.route_lanes.specs.declared.session_lane.SessionLane.{SessionLane}

-- what a session served over what it had seen, it served over the whole history
serves_whole : {T L : Type 0} (show : L → LinkState) (scene : Scene) (policy : LinkPolicy) (whole : History) (s : Service (SessionLane T SessionEnd) L)
    → SessionServes show scene policy s.party s.link s.party_after s.link_after → IsPrefix s.party_after.session.seen whole
    → IsPublishedIn scene.origin whole
    → Serves (SessionGoes scene) (IsSessionBye scene) policy (record { seen = []; named = [] })
    (record { seen = whole; named = s.party_after.session.named })
    (show s.link).from (show s.link_after).from (show s.link).to (show s.link_after).to s.party_after.end
serves_whole show scene policy whole s is begins allowed = record {
  exchanges = is.exchanges;
  runs = record {
    run = run_stays scene [] [] s.party_after.session.seen whole is.exchanges is.runs.run (prefix_self []) begins allowed.history;
    named = is.runs.named;
  };
  each = is.each;
  no_foreign = is.no_foreign;
  lines = is.lines;
  wanted = is.wanted;
  wants = is.wants;
  sent = is.sent;
  reads = is.reads;
  writes = is.writes;
}

-- a session's lane, where the last epoch has this number
abbrev pub lane_of : {T L : Type 0} → (L → LinkState) → ℕ → Service (SessionLane T SessionEnd) L → Lane
lane_of show last s = record { before = show s.link; after = show s.link_after; report = report_of last s.party_after }

-- the lanes of sessions
pub session_lanes : {T L : Type 0} (show : L → LinkState) (scene : Scene) (policy : LinkPolicy) (whole : History) → IsPublishedIn scene.origin whole
    → (services : List (Service (SessionLane T SessionEnd) L))
    → All (λ s. SessionServes show scene policy s.party s.link s.party_after s.link_after) services
    → All (λ lane. IsPrefix lane.session.seen whole) (map (λ s. s.party_after) services)
    → All (IsSessionLane scene policy whole) (map (lane_of show (last_number scene.origin whole)) services)
session_lanes show scene policy whole allowed [] served begins = All-nil (IsSessionLane scene policy whole)
session_lanes {T} {L} show scene policy whole allowed (s ∷ services) served begins =
    let serves : Service (SessionLane T SessionEnd) L → Type 0 = λ x. SessionServes show scene policy x.party x.link x.party_after x.link_after in
    let seen : SessionLane T SessionEnd → Type 0 = λ lane. IsPrefix lane.session.seen whole in
    let after = map (λ (x : Service (SessionLane T SessionEnd) L). x.party_after) services in
    let one = serves_whole show scene policy whole s (All-head serves s services served) (All-head seen s.party_after after begins) allowed in
    let lane = lane_of show (last_number scene.origin whole) in
    All-cons (IsSessionLane scene policy whole) (lane s) (map lane services) (record { serves = one; last = refl })
    (session_lanes show scene policy whole allowed services (All-tail serves s services served) (All-tail seen s.party_after after begins))

-- two ways of mapping a list twice, which agree on each element
pub maps_agree : {A B C D : Type 0} (f : B → D) (g : A → B) (h : C → D) (k : A → C) → ((x : A) → f (g x) ≡ h (k x)) → (xs : List A)
    → map f (map g xs) ≡ map h (map k xs)
maps_agree f g h k same [] = refl
maps_agree f g h k same (x ∷ xs) = ap₂ ◌∷◌ (same x) (maps_agree f g h k same xs)

-- all lanes, where the operator left this
module _ {T L : Type 0} (show : L → LinkState) (graph : Graph) (o : Origin) (budget : ℕ) (policy : LinkPolicy) (one one' : OperatorLane T SessionEnd)
    (lanes lanes' : List (SessionLane T SessionEnd)) (links links' : List L) (reports : List LaneReport) where
  pub runs_lanes : (weights : Weights) (first : ℕ) → o.first ≡ first → o.base ≡ weights
      → FirstAndAllServe (OperatorServes show o policy) (SessionServes show (record { graph = graph; origin = o; budget = budget }) policy)
      one lanes links one' lanes' links'
      → reports ≡ record { end = one'.end; last = last_number o (whole_of one'.store); numbers = [] }
      ∷ map (report_of (last_number o (whole_of one'.store))) lanes'
      → All (λ lane. IsPrefix lane.session.seen (whole_of one'.store)) lanes'
      → RunsLanes graph weights first budget policy (map show links) (map show links') reports
  runs_lanes weights first first_is base_is is exchanges begins =
      let operator = is.served_first in
      let left = operator.left in
      let whole = closed_history left in
      let closed : whole_of one'.store ≡ whole = ap whole_of operator.closed in
      let scene : Scene = record { graph = graph; origin = o; budget = budget } in
      let last = last_number o whole in
      let services = is.served.services in
      let lane = lane_of show last in
      let report : LaneReport = record { end = one'.end; last = last; numbers = [] } in
      let lead : Lane = record { before = show is.first; after = show is.first_after; report = report } in
      let seen = subst (λ (h : History). All (λ (x : SessionLane T SessionEnd). IsPrefix x.session.seen h) lanes') closed begins in
      let reported = subst (λ (h : History). reports ≡ record { end = one'.end; last = last_number o h; numbers = [] } ∷ map (report_of (last_number o h)) lanes') closed exchanges in
      record {
        origin = o;
        first_is = first_is;
        base_is = base_is;
        operator = lead;
        sessions = map lane services;
        links_before = ap (map show) (is.links_are ∙ ap (λ (ls : List L). is.first ∷ ls) is.served.links_are)
            ∙ ap (λ (ls : List LinkState). show is.first ∷ ls) (maps_agree show (λ s. s.link) (λ l. l.before) lane (λ s. refl) services);
        links_after = ap (map show) (is.links_became ∙ ap (λ (ls : List L). is.first_after ∷ ls) is.served.links_became)
            ∙ ap (λ (ls : List LinkState). show is.first_after ∷ ls) (maps_agree show (λ s. s.link_after) (λ l. l.after) lane (λ s. refl) services);
        reported = reported ∙ ap (λ (rs : List LaneReport). report ∷ rs)
            (ap (map (report_of last)) is.served.parties_became ∙ maps_agree (report_of last) (λ s. s.party_after) (λ l. l.report) lane (λ s. refl) services);
        left = left;
        operator_lane = record { serves = operator.serves; last = closed_last o left.published; unnamed = refl };
        session_lanes = session_lanes show scene policy whole operator.published services is.served.each
            (subst (λ (xs : List (SessionLane T SessionEnd)). All (λ (x : SessionLane T SessionEnd). IsPrefix x.session.seen whole) xs) is.served.parties_became seen);
      }
