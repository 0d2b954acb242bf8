-- What becomes of lanes that run beside each other over one store whose epochs come from feeds: a follower's, and those of
-- sessions.
use Rattle.std.specs.Prelude.{◌≡◌, ℕ, ◌^◌, List, [], ◌∷◌, ◌++◌, map, All, IfSome}
use mathlib.Core.List.{IsPrefix}
use Rattle.route_io.specs.Sources.{SourceState, ReadsFrom}
use Rattle.arc_graph.specs.Graph.{Graph, Weights}
use Rattle.arc_graph.specs.History.{History}
use Rattle.arc_graph.specs.History.HistoryEntry.{Closed}
use Rattle.epoch_store.specs.Origin.{Origin, last_number}
use Rattle.epoch_follow.specs.Takes.{TakesFeed, is_read}
use Rattle.epoch_follow.specs.Text.{head_of}
use Rattle.link_doors.specs.Links.{LinkState}
use Rattle.route_lanes.specs.Lanes.{IsSessionLane, Lane, LaneReport}
use Rattle.route_lanes.specs.declared.feed_lane.FeedReport.{FeedReport}
use Rattle.session_core.specs.declared.context.LinkPolicy.{LinkPolicy}

-- the most bytes of a feed
abbrev pub max_feed : ℕ
max_feed = 2 ^ 24

-- what became of feeds, and of lanes of sessions
pub record FollowReport : Type 0 where
  pub feeds : List FeedReport
  pub lanes : List LaneReport

-- a feed that was taken: its source before and afterwards, and what is reported of it
pub record TakenFeed : Type 0 where
  pub before : SourceState
  pub after : SourceState
  pub report : FeedReport

-- The feed led a follower's history from there to here, by its run where its source tells the bytes, of which none is taken behind
-- its end. Its number is that of the last epoch then. The source's failures alone make a failed read.
pub record IsTakenFeed (graph : Graph) (o : Origin) (mid last : History) (feed : TakenFeed) : Type 0 where
  pub takes : IfSome feed.before.left (λ bytes. TakesFeed (head_of graph o.first) max_feed mid bytes feed.after.left
      feed.report.end last)
  pub begins : IsPrefix mid last
  pub reads : ReadsFrom feed.before feed.after (is_read feed.report.end)
  pub number : feed.report.number ≡ last_number o last

-- these feeds, taken one after another, led a follower from nothing published to this history
pub data FeedsLead (graph : Graph) (o : Origin) : List TakenFeed → History → Type 0 where
  -- there was no feed
  untaken : FeedsLead graph o [] []
  -- one more feed
  then : {feeds : List TakenFeed} {mid last : History} (feed : TakenFeed) → FeedsLead graph o feeds mid
      → IsTakenFeed graph o mid last feed → FeedsLead graph o (feeds ++ feed ∷ []) last

-- Feeds were taken from sources that showed this before and that afterwards, and led a follower to this history.
pub record TakesFeeds (graph : Graph) (o : Origin) (before after : List SourceState) (reports : List FeedReport)
    (last : History) : Type 0 where
  pub feeds : List TakenFeed
  pub sources_before : before ≡ map (λ feed. feed.before) feeds
  pub sources_after : after ≡ map (λ feed. feed.after) feeds
  pub reported : reports ≡ map (λ feed. feed.report) feeds
  pub lead : FeedsLead graph o feeds last

-- Over one store, which began with this number and these weights, feeds were taken beside lanes of sessions. The history of
-- all sessions is what the feeds led to, closed in the end.
pub record RunsFollow (graph : Graph) (weights : Weights) (first budget : ℕ) (policy : LinkPolicy) (feeds feeds_after : List SourceState)
    (before after : List LinkState) (report : FollowReport) : Type 0 where
  pub origin : Origin
  pub first_is : origin.first ≡ first
  pub base_is : origin.base ≡ weights
  pub last : History
  pub feeds_taken : TakesFeeds graph origin feeds feeds_after report.feeds last
  pub sessions : List Lane
  pub links_before : before ≡ map (λ lane. lane.before) sessions
  pub links_after : after ≡ map (λ lane. lane.after) sessions
  pub reported : report.lanes ≡ map (λ lane. lane.report) sessions
  pub session_lanes : All (IsSessionLane (record { graph = graph; origin = origin; budget = budget }) policy
      (last ++ Closed ∷ [])) sessions
