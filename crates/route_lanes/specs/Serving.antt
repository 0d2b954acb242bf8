-- What becomes of lanes that serve the links of doors beside each other, over one store: an operator's, and those of sessions.
use Rattle.std.specs.Prelude.{◌≡◌, ℕ, ◌≤◌, Bool, false, List, [], ◌∷◌, Result, IfOk, OnErr, map}
use Rattle.std.specs.List.{All, AllPairs, count_by, flat_map}
use Rattle.route_io.specs.Causes.{IsCounted}
use Rattle.arc_graph.specs.Graph.{Graph, Weights}
use Rattle.arc_graph.specs.History.{History, Operator, closed_history, with_none_pending}
use Rattle.epoch_store.specs.Origin.{Origin}
use Rattle.link_doors.specs.Doors.{DoorState, HasEnded}
use Rattle.link_doors.specs.Links.{LinkState}
use Rattle.out_of_memory.specs.declared.OutOfMemory.{OutOfMemory}
use Rattle.session_core.specs.declared.context.LinkPolicy.{LinkPolicy}
use Rattle.session_core.specs.declared.end.SessionEnd.{SessionEnd}
use Rattle.session_core.specs.Links.{Serves}
use Rattle.session_core.specs.Operators.{IsOperatorBye, OperatorRun}
use Rattle.session_core.specs.Sessions.{IsSessionBye, Scene, Session, SessionGoes}
use Rattle.route_lanes.specs.Visits.{Led, Visit, after_visits, want_among}
use Rattle.route_lanes.specs.declared.serve.Served.{Served}

-- A link of the operator was served: it goes on from what was published, and what is pending in the end is dropped.
pub record OperatorVisit (o : Origin) (policy : LinkPolicy) (old : Operator) (before after : LinkState) (end : SessionEnd)
    (new : Operator) : Type 0 where
  pub left : Operator
  pub serves : Serves (OperatorRun o) (IsOperatorBye o) policy old left before.from after.from before.to after.to end
  pub drops : new ≡ with_none_pending left

-- A link of a session was served: it goes on from what the session had seen, and the numbers are those that it named.
abbrev pub SessionVisit : Scene → LinkPolicy → Session → LinkState → LinkState → SessionEnd → Session → Type 0
SessionVisit scene policy old before after end new =
    Serves (SessionGoes scene) (IsSessionBye scene) policy (record old { named = [] }) new
    before.from after.from before.to after.to end

-- a lane: its door before and afterwards, the links that it served, in order, and whether the door failed
pub record DoorLane : Type 0 where
  pub before : DoorState
  pub after : DoorState
  pub visits : List Visit
  pub failed : Bool

-- The door did nothing but give the lane its links, one after another, and take each back; it failed where its count rose.
pub record IsDoorLane (lane : DoorLane) : Type 0 where
  pub links : lane.after ≡ after_visits lane.before lane.visits lane.after.faults
  pub cause : IsCounted lane.failed lane.before.faults lane.after.faults

-- The door gives no more links, unless it failed.
abbrev pub IsFinished : DoorLane → Type 0
IsFinished lane = lane.failed ≡ false → HasEnded lane.after

-- a link of a session, and the numbers of the epochs that its replies named
pub record SessionLink : Type 0 where
  pub visit : Visit
  pub named : List ℕ

-- The link was served as if the session had seen nothing before, and this whole history afterwards.
abbrev pub IsServedOver : Scene → LinkPolicy → History → SessionLink → Type 0
IsServedOver scene policy whole link =
    SessionVisit scene policy (record { seen = []; named = [] }) link.visit.before link.visit.after link.visit.end
    (record { seen = whole; named = link.named })

-- The links of a session's lane were served over this whole history. The numbers that their replies named never fell, from
-- one link to the next neither.
pub record IsSessionLane (scene : Scene) (policy : LinkPolicy) (whole : History) (lane : DoorLane) : Type 0 where
  pub links : List SessionLink
  pub visits_are : lane.visits ≡ map (λ link. link.visit) links
  pub each : All (IsServedOver scene policy whole) links
  pub ascending : AllPairs ◌≤◌ (flat_map (λ link. link.named) links)

-- All lanes came to their end, the operator's first: the store was closed then, and each session learnt this whole history.
pub record FinishesLanes (scene : Scene) (policy : LinkPolicy) (whole : History) (operator : DoorLane) (sessions : List DoorLane)
    (served : Served) : Type 0 where
  pub finished : All IsFinished (operator ∷ sessions)
  pub failed : served.failed ≡ count_by (λ lane. lane.failed) (operator ∷ sessions)
  pub wants : served.want ≡ want_among (flat_map (λ lane. lane.visits) (operator ∷ sessions))
  pub session_lanes : All (IsSessionLane scene policy whole) sessions

-- Lanes served their doors over one store, which began with this number and these weights, the operator's first: one link at
-- a time, each of the operator's from what the one before it had published. They came to their end, and the history of all
-- sessions is what the operator published, closed in the end; or memory ran out before any door was asked for a link.
pub record ServesLanes (graph : Graph) (weights : Weights) (first budget : ℕ) (policy : LinkPolicy) (before after : List DoorState)
    (result : Result Served OutOfMemory) : Type 0 where
  pub origin : Origin
  pub first_is : origin.first ≡ first
  pub base_is : origin.base ≡ weights
  pub operator : DoorLane
  pub sessions : List DoorLane
  pub doors_before : before ≡ map (λ lane. lane.before) (operator ∷ sessions)
  pub doors_after : after ≡ map (λ lane. lane.after) (operator ∷ sessions)
  pub in_order : All IsDoorLane (operator ∷ sessions)
  pub left : Operator
  pub operator_lane : Led (OperatorVisit origin policy) (record { published = []; pending = [] }) operator.visits left
  pub unserved : OnErr result (after ≡ before)
  pub finishes : IfOk result (FinishesLanes (record { graph = graph; origin = origin; budget = budget }) policy
      (closed_history left) operator sessions)
