-- What a follower beside lanes of sessions comes to by the feeds of one leader, by what is reported of its run.
use Rattle.std.specs.Prelude.{◌≡◌, ◌≢◌, ℕ, ◌+◌, ◌≤◌, false, List, length, All, Contains, Some}
use mathlib.Core.List.{IsPrefix}
use Rattle.route_io.specs.Sources.{SourceState}
use Rattle.arc_graph.specs.Graph.{Graph, IsGraph, Weights}
use Rattle.arc_graph.specs.History.{History, IsPublished, sets}
use Rattle.epoch_follow.specs.declared.feed_end.FeedEnd.TheVariants.{Whole, Long}
use Rattle.epoch_follow.specs.Takes.{feed_starved, is_read}
use Rattle.epoch_follow.specs.Followers.{ComesFrom}
use Rattle.epoch_follow.specs.Text.{FeedHead, feed_text, head_of}
use Rattle.link_doors.specs.Links.{LinkState}
use Rattle.route_lanes.specs.Following.{FollowReport, RunsFollow, TakenFeed}
use Rattle.route_lanes.specs.declared.feed_lane.FeedReport.{FeedReport}
use Rattle.session_core.specs.declared.context.LinkPolicy.{LinkPolicy}

-- The source tells its bytes, which are those of a feed of some of the leader's sets, up to where the link broke.
pub record BringsFeed (head : FeedHead) (leader : History) (source : SourceState) : Type 0 where
  pub bytes : List ℕ
  pub tells : source.left ≡ Some bytes
  pub comes : ComesFrom head leader bytes

-- These sources bring feeds of one leader over this graph, whose first epoch has this number.
pub record BringFeedsOf (g : Graph) (first : ℕ) (leader : History) (sources : List SourceState) : Type 0 where
  pub graph : IsGraph g
  pub published : IsPublished (length g.ends) g.criteria first leader
  pub each : All (BringsFeed (head_of g first) leader) sources

-- The feed of the sets up to number j came whole, and neither the source, memory nor its length ended it.
pub record CameWhole (head : FeedHead) (leader : History) (j : ℕ) (feed : TakenFeed) : Type 0 where
  pub there : j ≤ sets leader
  pub whole : feed.before.left ≡ Some (feed_text head leader 1 j)
  pub remembered : feed_starved feed.report.end ≡ false
  pub read : is_read feed.report.end ≡ false
  pub short : feed.report.end ≢ Long

-- What is reported of a feed that brought a follower up to number j of the leader's sets: it was taken whole, and the number of
-- the last epoch is that set's at least.
pub record ReportsSets (first j : ℕ) (report : FeedReport) : Type 0 where
  pub end : report.end ≡ Whole
  pub number : first + j ≤ report.number

-- whatever became of its feeds, a follower that ran has a part of its leader's history
abbrev pub RunsKeepToTheirLeader : Type 0
RunsKeepToTheirLeader =
    (g : Graph) (weights : Weights) (first budget : ℕ) (policy : LinkPolicy) (feeds feeds_after : List SourceState) (before after : List LinkState)
    (report : FollowReport) (leader : History) → (run : RunsFollow g weights first budget policy feeds feeds_after before after report)
    → BringFeedsOf g first leader feeds → IsPrefix run.last leader

-- and a whole feed from the first set on brought it up to the feed's last one
abbrev pub RunsCatchUp : Type 0
RunsCatchUp =
    (g : Graph) (weights : Weights) (first budget : ℕ) (policy : LinkPolicy) (feeds feeds_after : List SourceState) (before after : List LinkState)
    (report : FollowReport) (leader : History) (j : ℕ) (feed : TakenFeed)
    → (run : RunsFollow g weights first budget policy feeds feeds_after before after report)
    → BringFeedsOf g first leader feeds → Contains run.feeds_taken.feeds feed → CameWhole (head_of g first) leader j feed
    → ReportsSets first j feed.report
