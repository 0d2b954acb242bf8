-- What becomes of a follower's lane when it takes its feeds.
use Rattle.std.specs.Prelude.{◌≡◌, ℕ, ◌≤◌, List, [], ◌∷◌, ◌++◌, drop, length, map, take, vec_capacity}
use Rattle.std.specs.Global.{Vec}
use Rattle.route_io.specs.Sources.{SourceState}
use Rattle.arc_graph.specs.Graph.{Graph}
use Rattle.arc_graph.specs.History.{History, Operator}
use Rattle.arc_graph.specs.History.HistoryEntry.{Closed}
use Rattle.epoch_store.specs.Origin.{Origin, IsOperatorIn, IsPublishedIn}
use Rattle.route_lanes.specs.Following.{TakesFeeds}
use Rattle.route_lanes.specs.Served.{IsNew}
use Rattle.route_lanes.specs.declared.feed_lane.FeedReport.{FeedReport}
use Rattle.route_lanes.specs.declared.operator_lane.OperatorLane.{OperatorLane}
use Rattle.route_lanes.specs.declared.operator_lane.StoreState.{StoreState}
use Rattle.route_lanes.specs.declared.operator_lane.StoreState.TheVariants as store

-- The lane's store is new, nothing is reported yet, and there is room for a report of each feed.
pub record CanTake {T F : Type 0} (lane : OperatorLane T (Vec FeedReport)) (feeds : List F) : Type 0 where
  pub new : IsNew lane.store
  pub none : lane.end.items ≡ []
  pub room : length feeds ≤ vec_capacity lane.end

-- The operator of a new store took feeds, where sources show this, and the store is as open as before.
pub record TakesOpen {T F : Type 0} (show : F → SourceState) (graph : Graph) (o : Origin) (feeds feeds_after : List F) (reports : List FeedReport)
    (kept : StoreState T) : Type 0 where
  pub left : Operator
  pub takes : TakesFeeds graph o (map show feeds) (map show feeds_after) reports left.published
  pub stays : kept ≡ store.Open left
  pub operator : IsOperatorIn o left

-- The follower's lane took feeds, where sources show this, and its store is closed.
pub record LaneTakes {T F : Type 0} (show : F → SourceState) (graph : Graph) (o : Origin) (lane : OperatorLane T (Vec FeedReport)) (feeds : List F)
    (lane_after : OperatorLane T (Vec FeedReport)) (feeds_after : List F) : Type 0 where
  pub last : History
  pub takes : TakesFeeds graph o (map show feeds) (map show feeds_after) lane_after.end.items last
  pub closed : lane_after.store ≡ store.Closed (last ++ Closed ∷ [])
  pub published : IsPublishedIn o (last ++ Closed ∷ [])

-- The first so many feeds were taken, and the others are as they were.
pub record TakesFirst {F : Type 0} (show : F → SourceState) (graph : Graph) (o : Origin) (count : ℕ) (before now : List F)
    (reports : List FeedReport) (last : History) : Type 0 where
  pub done : List F
  pub takes : TakesFeeds graph o (map show (take count before)) (map show done) reports last
  pub count_is : length done ≡ count
  pub now_is : now ≡ done ++ drop count before
