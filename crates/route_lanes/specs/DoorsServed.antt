-- What becomes of a lane when it serves its door.
use Rattle.std.specs.Prelude.{◌≡◌, ℕ, List, []}
use Rattle.std.specs.List.{count_by}
use Rattle.arc_graph.specs.History.{Operator, closed_history}
use Rattle.epoch_store.specs.Origin.{Origin, IsOperatorIn, IsPublishedIn}
use Rattle.link_doors.specs.Doors.{DoorState}
use Rattle.session_core.specs.declared.context.LinkPolicy.{LinkPolicy}
use Rattle.session_core.specs.Sessions.{Scene}
use Rattle.route_lanes.specs.Serving.{OperatorVisit, SessionVisit}
use Rattle.route_lanes.specs.Visits.{ServesDoor, first_told}
use Rattle.route_lanes.specs.declared.operator_lane.OperatorLane.{OperatorLane}
use Rattle.route_lanes.specs.declared.operator_lane.StoreState.{StoreState}
use Rattle.route_lanes.specs.declared.operator_lane.StoreState.TheVariants.{Open, Closed}
use Rattle.route_lanes.specs.declared.serve.Served.{Served}
use Rattle.route_lanes.specs.declared.session_lane.SessionLane.{SessionLane}
use Rattle.route_lanes.specs.declared.visits.DoorTally.{DoorTally}

-- The operator of a new store served a door, and the store is as open as before, with this published.
pub record ServesOpenDoor {T : Type 0} (o : Origin) (policy : LinkPolicy) (before after : DoorState) (tally : DoorTally)
    (store : StoreState T) : Type 0 where
  pub left : Operator
  pub serves : ServesDoor (OperatorVisit o policy) (record { published = []; pending = [] }) left before after tally
  pub stays : store ≡ Open left
  pub operator : IsOperatorIn o left

-- The operator's lane served a door, where doors show this, and its store is closed.
pub record OperatorServesDoor {T D : Type 0} (show : D → DoorState) (o : Origin) (policy : LinkPolicy) (lane : OperatorLane T DoorTally)
    (door : D) (lane_after : OperatorLane T DoorTally) (door_after : D) : Type 0 where
  pub left : Operator
  pub serves : ServesDoor (OperatorVisit o policy) (record { published = []; pending = [] }) left (show door) (show door_after)
      lane_after.end
  pub closed : lane_after.store ≡ Closed (closed_history left)
  pub published : IsPublishedIn o (closed_history left)

-- A session's lane served a door, where doors show this, from nothing seen on.
abbrev pub SessionServesDoor : {T D : Type 0} → (D → DoorState) → Scene → LinkPolicy → SessionLane T DoorTally → D
    → SessionLane T DoorTally → D → Type 0
SessionServesDoor show scene policy lane door lane_after door_after =
    ServesDoor (SessionVisit scene policy) (record { seen = []; named = [] }) lane_after.session (show door) (show door_after)
    lane_after.end

-- what became of all doors, by what became of each
abbrev pub sum_of : List DoorTally → Served
sum_of tallies = record {
  failed = count_by (λ tally. tally.failed) tallies;
  want = first_told (λ tally. tally.want) tallies;
}
