-- Feeds of one leader that a follower takes from files.
use Rattle.std.proofs.Common.{ℕ, List, [], ◌∷◌, length, refl, subst, arith}
use Rattle.std.specs.Prelude.{All}
use Rattle.std.proofs.lemmas.List.Elements.{All-head, All-tail}
use mathlib.Core.List.{IsPrefix}
use Rattle.road_network.specs.Network.{Network}
use Rattle.arc_graph.specs.Graph.{Graph, IsGraph}
use Rattle.arc_graph.specs.History.{History, IsPublished, sets}
use Rattle.epoch_follow.specs.Followers.{ComesFrom}
use Rattle.epoch_follow.specs.Runs.{feed_run}
use Rattle.epoch_follow.specs.Text.{FeedHead, head_of}
use Rattle.epoch_follow.proofs.FollowLemmas.{run_follows}
use Rattle.epoch_follow.proofs.WrittenLemmas.{IsHead}
use Rattle.route_lanes.specs.Following.{max_feed}
use Rattle.command_words.specs.declared.commands.TakeWords.{TakeWords}
use Rattle.command_words.specs.declared.commands.WriteWords.{WriteWords}
use Rattle.route_top.specs.Follow.{FeedOfScript, RepliesBesideFeeds, history_after}
use Rattle.route_top.specs.Followed.{AreFeedsOf}
use Rattle.route_top.specs.Lanes.{graph_of}

module _ (g : Graph) (first : ℕ) (leader : History) (graph : IsGraph g) (published : IsPublished (length g.ends) g.criteria first leader) where
  abbrev head : FeedHead
  head = head_of g first

  is : IsHead head
  is = record { arcs = omega (arith, graph.arcs); criteria = graph.four; first = omega (arith, published.number) }

  -- one feed more
  pub one_keeps : (h : History) (bytes : List ℕ) → ComesFrom head leader bytes → IsPrefix h leader → IsPrefix (feed_run head max_feed h bytes).history leader
  one_keeps h bytes from begins =
      run_follows head leader is published from.from from.to from.counted from.ordered from.there max_feed h bytes from.front begins

  pub after_keeps : (h : History) (feeds : List (List ℕ)) → IsPrefix h leader → All (ComesFrom head leader) feeds
      → IsPrefix (history_after head h feeds) leader
  after_keeps h [] begins come = begins
  after_keeps h (bytes ∷ feeds) begins come =
      after_keeps (feed_run head max_feed h bytes).history feeds (one_keeps h bytes (All-head (ComesFrom head leader) bytes feeds come) begins)
      (All-tail (ComesFrom head leader) bytes feeds come)

-- the follower keeps to its leader
pub follow_keeps : (asked : TakeWords) (net : Network) (scripts : List (List ℕ)) (text : List ℕ) (leader : History)
    (replies : RepliesBesideFeeds asked net scripts text) → AreFeedsOf asked net leader replies.feeds
    → IsPrefix (history_after (head_of (graph_of net) asked.epoch) [] replies.feeds) leader
follow_keeps asked net scripts text leader replies are =
    after_keeps (graph_of net) asked.epoch leader are.graph are.published [] replies.feeds (leader, refl) are.each

-- a front of the feed that was written
pub written_comes : (asked : WriteWords) (net : Network) (scripts : List (List ℕ)) (text came : List ℕ) (feed : FeedOfScript asked net scripts text)
    → IsPrefix came text → ComesFrom (head_of (graph_of net) asked.epoch) feed.left.published came
written_comes asked net scripts text came feed front = record {
  from = 1;
  to = sets feed.left.published;
  counted = omega arith;
  ordered = omega arith;
  there = omega arith;
  front = subst (IsPrefix came) feed.text_is front;
}
