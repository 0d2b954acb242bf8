-- What becomes of a lane when it serves its link.
use Rattle.std.specs.Prelude.{◌≡◌, ℕ, []}
use Rattle.arc_graph.specs.History.{History, Operator, closed_history, with_none_pending}
use Rattle.epoch_store.specs.Origin.{Origin, IsOperatorIn, IsPublishedIn}
use Rattle.session_core.specs.declared.context.LinkPolicy.{LinkPolicy}
use Rattle.session_core.specs.declared.end.SessionEnd.{SessionEnd}
use Rattle.session_core.specs.Links.{Serves}
use Rattle.session_core.specs.Operators.{IsOperatorBye, OperatorRun}
use Rattle.session_core.specs.Sessions.{IsSessionBye, Scene, Session, SessionGoes}
use Rattle.link_doors.specs.Links.{LinkState}
use Rattle.route_lanes.specs.Lanes.{LaneReport}
use Rattle.route_lanes.specs.declared.operator_lane.OperatorLane.{OperatorLane}
use Rattle.route_lanes.specs.declared.operator_lane.StoreState.{StoreState}
use Rattle.route_lanes.specs.declared.operator_lane.StoreState.TheVariants.{Open, Closed}
use Rattle.route_lanes.specs.declared.session_lane.SessionLane.{SessionLane}

-- The store is open, and nothing was published or is pending.
abbrev pub IsNew : {T : Type 0} → StoreState T → Type 0
IsNew store = store ≡ Open (record { published = []; pending = [] })

-- the whole history of a store, once it is closed
abbrev pub whole_of : {T : Type 0} → StoreState T → History
whole_of (Open operator) = closed_history operator
whole_of (Closed whole) = whole

-- The operator of a new store served a link, which ended so, and left this published and pending.
abbrev pub ServesOperator : Origin → LinkPolicy → LinkState → LinkState → SessionEnd → Operator → Type 0
ServesOperator o policy before after end left =
    Serves (OperatorRun o) (IsOperatorBye o) policy (record { published = []; pending = [] }) left
    before.from after.from before.to after.to end

-- It did so, and the store is as open as before.
pub record ServesOpen {T : Type 0} (o : Origin) (policy : LinkPolicy) (before after : LinkState) (end : SessionEnd)
    (store : StoreState T) : Type 0 where
  pub left : Operator
  pub serves : ServesOperator o policy before after end left
  pub stays : store ≡ Open (with_none_pending left)
  pub operator : IsOperatorIn o (with_none_pending left)

-- The operator's lane served a link, where links show this, and its store is closed.
pub record OperatorServes {T L : Type 0} (show : L → LinkState) (o : Origin) (policy : LinkPolicy) (lane : OperatorLane T SessionEnd)
    (link : L) (lane_after : OperatorLane T SessionEnd) (link_after : L) : Type 0 where
  pub left : Operator
  pub serves : ServesOperator o policy (show link) (show link_after) lane_after.end left
  pub closed : lane_after.store ≡ Closed (closed_history left)
  pub published : IsPublishedIn o (closed_history left)

-- the session has seen nothing, and named no epoch
abbrev pub IsFresh : Session → Type 0
IsFresh session = session ≡ record { seen = []; named = [] }

-- A session's lane served a link, where links show this, from nothing seen on.
abbrev pub SessionServes : {T L : Type 0} → (L → LinkState) → Scene → LinkPolicy → SessionLane T SessionEnd → L
    → SessionLane T SessionEnd → L → Type 0
SessionServes show scene policy lane link lane_after link_after =
    Serves (SessionGoes scene) (IsSessionBye scene) policy (record { seen = []; named = [] }) lane_after.session
    (show link).from (show link_after).from (show link).to (show link_after).to lane_after.end

-- the lane, once its session has learnt the whole history
abbrev pub learnt : {T E : Type 0} → History → SessionLane T E → SessionLane T E
learnt whole lane = record lane { session = record { seen = whole; named = lane.session.named } }

-- what is reported of a session's lane, where the last epoch has this number
abbrev pub report_of : {T : Type 0} → ℕ → SessionLane T SessionEnd → LaneReport
report_of last lane = record { end = lane.end; last = last; numbers = lane.session.named }
