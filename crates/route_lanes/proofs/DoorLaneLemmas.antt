-- What became of all doors, by what each lane did.
use Rattle.std.proofs.Common.{◌≡◌, ℕ, ◌+◌, ◌≤◌, Bool, false, List, [], ◌∷◌, length, map, refl, ap, ap₂, sym, subst, ◌∙◌, arith, Ok, Err}
use Rattle.std.specs.Prelude.{cond, Option}
use Rattle.core.specs.Option.{option_or}
use Rattle.std.specs.List.{All, count_by, flat_map}
use Rattle.std.proofs.lemmas.List.Concat.{flat_map-cons}
use Rattle.std.proofs.lemmas.List.Elements.{All-cons, All-head, All-nil, All-tail}
use mathlib.Core.List.{IsPrefix}
use Rattle.arc_graph.specs.Graph.{Graph, Weights}
use Rattle.arc_graph.specs.History.{History, closed_history}
use Rattle.epoch_store.specs.Origin.{Origin, IsPublishedIn}
use Rattle.link_doors.specs.Doors.{DoorState}
use Rattle.link_doors.specs.Links.{LinkState}
use Rattle.out_of_memory.specs.declared.OutOfMemory.{OutOfMemory}
use Rattle.session_core.specs.declared.context.LinkPolicy.{LinkPolicy}
use Rattle.session_core.specs.declared.end.SessionEnd.{SessionEnd}
use Rattle.session_core.specs.Sessions.{Scene, Session}
use Rattle.route_lanes.specs.declared.operator_lane.OperatorLane.{OperatorLane}
use Rattle.route_lanes.specs.declared.serve.Served.{Served}
use Rattle.route_lanes.specs.declared.session_lane.SessionLane.{SessionLane}
use Rattle.route_lanes.specs.declared.visits.DoorTally.{DoorTally}
use Rattle.route_lanes.specs.DoorsServed.{OperatorServesDoor, SessionServesDoor, sum_of}
use Rattle.route_lanes.specs.Served.{whole_of}
use Rattle.route_lanes.specs.Services.{FirstAndAllServe, Service}
use Rattle.route_lanes.specs.Serving.{DoorLane, IsDoorLane, IsFinished, IsSessionLane, ServesLanes, SessionVisit}
use Rattle.route_lanes.specs.Visits.{ServesDoor, Visit, first_told, unvisited, want_among, want_of}
use Rattle.route_lanes.proofs.ServingLemmas.{served_over}
use Rattle.route_lanes.proofs.VisitLemmas.{before_visits, count_first, told_both}

-- what is told of a lane
abbrev tally_of : DoorLane → DoorTally
tally_of lane = record { failed = lane.failed; want = want_among lane.visits }

failed_sum : (lanes : List DoorLane) → count_by (λ tally. tally.failed) (map tally_of lanes) ≡ count_by (λ lane. lane.failed) lanes
failed_sum [] = refl
failed_sum (lane ∷ lanes) =
    count_first (λ (t : DoorTally). t.failed) (tally_of lane) (map tally_of lanes)
    ∙ ap (λ (n : ℕ). cond lane.failed 1 0 + n) (failed_sum lanes) ∙ sym (count_first (λ (l : DoorLane). l.failed) lane lanes)

want_sum : (lanes : List DoorLane) → first_told (λ tally. tally.want) (map tally_of lanes) ≡ want_among (flat_map (λ lane. lane.visits) lanes)
unfolding first_told
want_sum [] = refl
want_sum (lane ∷ lanes) =
    let visits : DoorLane → List Visit = λ l. l.visits in
    let Tells : Visit → Option OutOfMemory = λ visit. want_of visit.end in
    ap (option_or (want_among lane.visits)) (want_sum lanes)
    ∙ sym (ap (first_told Tells) (flat_map-cons visits lane lanes) ∙ told_both Tells lane.visits (flat_map visits lanes))

-- what became of all doors, by what each lane did
sums : (lanes : List DoorLane) → sum_of (map tally_of lanes)
    ≡ record { failed = count_by (λ lane. lane.failed) lanes; want = want_among (flat_map (λ lane. lane.visits) lanes) }
sums lanes =
    let served : ℕ → Option OutOfMemory → Served = λ f w. record { failed = f; want = w } in
    ap₂ served (failed_sum lanes) (want_sum lanes)

-- the lane of a door that was served
module _ {P : Type 0} (Visits : P → LinkState → LinkState → SessionEnd → P → Type 0) (first last : P) (before after : DoorState)
    (tally : DoorTally) (is : ServesDoor Visits first last before after tally) where
  abbrev lane_of : DoorLane
  lane_of = record { before = before; after = after; visits = is.visits; failed = tally.failed }

  lane_in_order : IsDoorLane lane_of
  lane_in_order = record { links = is.back; cause = is.cause }

  lane_tally : tally ≡ tally_of lane_of
  lane_tally = ap (λ (w : Option OutOfMemory). record { failed = tally.failed; want = w }) is.wants

module _ {T D : Type 0} (show : D → DoorState) (scene : Scene) (policy : LinkPolicy) (whole : History) (allowed : IsPublishedIn scene.origin whole) where
  abbrev serves : Service (SessionLane T DoorTally) D → Type 0
  serves s = SessionServesDoor show scene policy s.party s.link s.party_after s.link_after

  abbrev seen : SessionLane T DoorTally → Type 0
  seen lane = IsPrefix lane.session.seen whole

  -- The lanes of sessions.
  pub record LanesOf (services : List (Service (SessionLane T DoorTally) D)) : Type 0 where
    lanes : List DoorLane
    before_are : map (λ s. show s.link) services ≡ map (λ lane. lane.before) lanes
    after_are : map (λ s. show s.link_after) services ≡ map (λ lane. lane.after) lanes
    tallies_are : map (λ s. s.party_after.end) services ≡ map tally_of lanes
    in_order : All IsDoorLane lanes
    finished : All IsFinished lanes
    over : All seen (map (λ s. s.party_after) services) → All (IsSessionLane scene policy whole) lanes

  lane_over : (lane : SessionLane T DoorTally) (before after : DoorState)
      (is : ServesDoor (SessionVisit scene policy) (record { seen = []; named = [] }) lane.session before after lane.end) → seen lane
      → IsSessionLane scene policy whole (lane_of (SessionVisit scene policy) (record { seen = []; named = [] }) lane.session before after lane.end is)
  lane_over lane before after is begins =
      let over = served_over scene policy whole allowed is.led begins in
      record { links = over.links; visits_are = over.visits_are; each = over.each; ascending = over.ascending }

  lanes_of : (services : List (Service (SessionLane T DoorTally) D)) → All serves services → LanesOf services
  lanes_of [] served = record {
    lanes = [];
    before_are = refl;
    after_are = refl;
    tallies_are = refl;
    in_order = All-nil IsDoorLane;
    finished = All-nil IsFinished;
    over = λ begin. All-nil (IsSessionLane scene policy whole);
  }
  lanes_of (s ∷ services) served =
      let more = lanes_of services (All-tail serves s services served) in
      let is = All-head serves s services served in
      let visits : Session → LinkState → LinkState → SessionEnd → Session → Type 0 = SessionVisit scene policy in
      let new : Session = record { seen = []; named = [] } in
      let lane = lane_of visits new s.party_after.session (show s.link) (show s.link_after) s.party_after.end is in
      let after = map (λ (x : Service (SessionLane T DoorTally) D). x.party_after) services in
      record {
        lanes = lane ∷ more.lanes;
        before_are = ap (λ (ds : List DoorState). show s.link ∷ ds) more.before_are;
        after_are = ap (λ (ds : List DoorState). show s.link_after ∷ ds) more.after_are;
        tallies_are = ap₂ ◌∷◌ (lane_tally visits new s.party_after.session (show s.link) (show s.link_after) s.party_after.end is) more.tallies_are;
        in_order = All-cons IsDoorLane lane more.lanes
            (lane_in_order visits new s.party_after.session (show s.link) (show s.link_after) s.party_after.end is) more.in_order;
        finished = All-cons IsFinished lane more.lanes is.ended more.finished;
        over = λ begin. All-cons (IsSessionLane scene policy whole) lane more.lanes
            (lane_over s.party_after (show s.link) (show s.link_after) is (All-head seen s.party_after after begin))
            (more.over (All-tail seen s.party_after after begin));
      }

-- a list mapped twice
map_twice : {A B C : Type 0} (f : B → C) (g : A → B) (xs : List A) → map f (map g xs) ≡ map (λ x. f (g x)) xs
map_twice f g [] = refl
map_twice f g (x ∷ xs) = ap (λ ys. f (g x) ∷ ys) (map_twice f g xs)

module _ (graph : Graph) (o : Origin) (weights : Weights) (first budget : ℕ) (policy : LinkPolicy) (first_is : o.first ≡ first) (base_is : o.base ≡ weights) where
  -- all doors were served
  pub serves_lanes : {T D : Type 0} (show : D → DoorState) (one one' : OperatorLane T DoorTally) (lanes lanes' : List (SessionLane T DoorTally))
      (doors doors' : List D) (served : Served)
      → FirstAndAllServe (OperatorServesDoor show o policy)
      (SessionServesDoor show (record { graph = graph; origin = o; budget = budget }) policy) one lanes doors one' lanes' doors'
      → served ≡ sum_of (one'.end ∷ map (λ lane. lane.end) lanes')
      → All (λ lane. IsPrefix lane.session.seen (whole_of one'.store)) lanes'
      → ServesLanes graph weights first budget policy (map show doors) (map show doors') (Ok served)
  serves_lanes {T} {D} show one one' lanes lanes' doors doors' served is summed begins =
      let scene : Scene = record { graph = graph; origin = o; budget = budget } in
      let operator = is.served_first in
      let whole = closed_history operator.left in
      let services = is.served.services in
      let rest = lanes_of show scene policy whole operator.published services is.served.each in
      let lead = lane_of _ _ operator.left (show is.first) (show is.first_after) one'.end operator.serves in
      let closed : whole_of one'.store ≡ whole = ap whole_of operator.closed in
      let tallies : map (λ (lane : SessionLane T DoorTally). lane.end) lanes' ≡ map tally_of rest.lanes =
      ap (map (λ (lane : SessionLane T DoorTally). lane.end)) is.served.parties_became
      ∙ map_twice (λ (lane : SessionLane T DoorTally). lane.end) (λ (s : Service (SessionLane T DoorTally) D). s.party_after) services ∙ rest.tallies_are in
      let tally = lane_tally _ _ operator.left (show is.first) (show is.first_after) one'.end operator.serves in
      let same = summed ∙ (ap sum_of (ap₂ ◌∷◌ tally tallies) ∙ sums (lead ∷ rest.lanes)) in
      record {
        origin = o;
        first_is = first_is;
        base_is = base_is;
        operator = lead;
        sessions = rest.lanes;
        doors_before = ap (map show) (is.links_are ∙ ap (λ (ds : List D). is.first ∷ ds) is.served.links_are)
            ∙ ap (λ (ds : List DoorState). show is.first ∷ ds) (map_twice show (λ (s : Service (SessionLane T DoorTally) D). s.link) services ∙ rest.before_are);
        doors_after = ap (map show) (is.links_became ∙ ap (λ (ds : List D). is.first_after ∷ ds) is.served.links_became)
            ∙ ap (λ (ds : List DoorState). show is.first_after ∷ ds)
            (map_twice show (λ (s : Service (SessionLane T DoorTally) D). s.link_after) services ∙ rest.after_are);
        in_order = All-cons IsDoorLane lead rest.lanes
            (lane_in_order _ _ operator.left (show is.first) (show is.first_after) one'.end operator.serves) rest.in_order;
        left = operator.left;
        operator_lane = operator.serves.led;
        unserved = tt;
        finishes = record {
          finished = All-cons IsFinished lead rest.lanes operator.serves.ended rest.finished;
          failed = ap (λ (s : Served). s.failed) same;
          wants = ap (λ (s : Served). s.want) same;
          session_lanes = rest.over (subst (λ (xs : List (SessionLane T DoorTally)). All (λ (x : SessionLane T DoorTally). IsPrefix x.session.seen whole) xs)
              is.served.parties_became
              (subst (λ (h : History). All (λ (x : SessionLane T DoorTally). IsPrefix x.session.seen h) lanes') closed begins));
        };
      }

  -- a door that wasn't asked
  abbrev idle : DoorState → DoorLane
  idle door = record { before = door; after = door; visits = []; failed = false }

  idle_lanes : (doors : List DoorState) → All IsDoorLane (map idle doors)
  idle_lanes [] = All-nil IsDoorLane
  idle_lanes (door ∷ doors) =
      All-cons IsDoorLane (idle door) (map idle doors) (record { links = before_visits door; cause = refl }) (idle_lanes doors)

  idle_before : (doors : List DoorState) → doors ≡ map (λ lane. lane.before) (map idle doors)
  idle_before [] = refl
  idle_before (door ∷ doors) = ap (λ (ds : List DoorState). door ∷ ds) (idle_before doors)

  idle_after : (doors : List DoorState) → doors ≡ map (λ lane. lane.after) (map idle doors)
  idle_after [] = refl
  idle_after (door ∷ doors) = ap (λ (ds : List DoorState). door ∷ ds) (idle_after doors)

  -- memory ran out before any was asked
  pub serves_none : (doors : List DoorState) (fault : OutOfMemory) → 1 ≤ length doors
      → ServesLanes graph weights first budget policy doors doors (Err fault)
  serves_none [] fault some = absurd (omega (arith, some))
  serves_none (door ∷ doors) fault some = record {
    origin = o;
    first_is = first_is;
    base_is = base_is;
    operator = idle door;
    sessions = map idle doors;
    doors_before = idle_before (door ∷ doors);
    doors_after = idle_after (door ∷ doors);
    in_order = idle_lanes (door ∷ doors);
    left = record { published = []; pending = [] };
    operator_lane = unvisited;
    unserved = refl;
    finishes = tt;
  }
