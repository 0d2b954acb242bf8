-- What becomes of lanes that run beside each other over one store: an operator's, and those of sessions.
use Rattle.std.specs.Prelude.{◌≡◌, ℕ, List, [], ◌∷◌, map, All}
use Rattle.arc_graph.specs.Graph.{Graph, Weights}
use Rattle.arc_graph.specs.History.{History, Operator, closed_history}
use Rattle.epoch_store.specs.Origin.{Origin, last_number}
use Rattle.link_doors.specs.Links.{LinkState}
use Rattle.session_core.specs.declared.context.LinkPolicy.{LinkPolicy}
use Rattle.session_core.specs.declared.end.SessionEnd.{SessionEnd}
use Rattle.session_core.specs.Links.{Serves}
use Rattle.session_core.specs.Operators.{IsOperatorBye, OperatorRun}
use Rattle.session_core.specs.Sessions.{IsSessionBye, Scene, SessionGoes}

-- how a lane ended, the number of the last epoch that it came to see, and the numbers of the epochs that its replies named
pub record LaneReport : Type 0 where
  pub end : SessionEnd
  pub last : ℕ
  pub numbers : List ℕ

-- a lane: its link before and afterwards, and what is reported of it
pub record Lane : Type 0 where
  pub before : LinkState
  pub after : LinkState
  pub report : LaneReport

-- The operator's lane was served from nothing published on, and left the store so.
pub record IsOperatorLane (o : Origin) (policy : LinkPolicy) (left : Operator) (lane : Lane) : Type 0 where
  pub serves : Serves (OperatorRun o) (IsOperatorBye o) policy (record { published = []; pending = [] }) left
      lane.before.from lane.after.from lane.before.to lane.after.to lane.report.end
  pub last : lane.report.last ≡ last_number o left.published
  pub unnamed : lane.report.numbers ≡ []

-- A session's lane was served from nothing seen on, over this whole history.
pub record IsSessionLane (scene : Scene) (policy : LinkPolicy) (whole : History) (lane : Lane) : Type 0 where
  pub serves : Serves (SessionGoes scene) (IsSessionBye scene) policy (record { seen = []; named = [] })
      (record { seen = whole; named = lane.report.numbers })
      lane.before.from lane.after.from lane.before.to lane.after.to lane.report.end
  pub last : lane.report.last ≡ last_number scene.origin whole

-- Lanes were served over one store, which began with this number and these weights, the operator's first. The history of
-- all sessions is what the operator published, closed in the end.
pub record RunsLanes (graph : Graph) (weights : Weights) (first budget : ℕ) (policy : LinkPolicy) (before after : List LinkState)
    (reports : List LaneReport) : Type 0 where
  pub origin : Origin
  pub first_is : origin.first ≡ first
  pub base_is : origin.base ≡ weights
  pub operator : Lane
  pub sessions : List Lane
  pub links_before : before ≡ map (λ lane. lane.before) (operator ∷ sessions)
  pub links_after : after ≡ map (λ lane. lane.after) (operator ∷ sessions)
  pub reported : reports ≡ map (λ lane. lane.report) (operator ∷ sessions)
  pub left : Operator
  pub operator_lane : IsOperatorLane origin policy left operator
  pub session_lanes : All (IsSessionLane (record { graph = graph; origin = origin; budget = budget }) policy
      (closed_history left)) sessions
