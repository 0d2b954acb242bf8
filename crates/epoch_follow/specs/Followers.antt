-- What a follower comes to by the feeds of one leader.
use Rattle.std.specs.Prelude.{◌≡◌, ◌≢◌, ℕ, ◌+◌, ◌≤◌, List, [], ◌∷◌, ◌++◌, Option, false, length, All, Contains}
use mathlib.Core.List.{IsPrefix}
use Rattle.arc_graph.specs.Graph.{Graph, IsGraph}
use Rattle.arc_graph.specs.History.{History, IsPublished, sets}
use Rattle.epoch_follow.specs.declared.feed_end.FeedEnd.{FeedEnd}
use Rattle.epoch_follow.specs.declared.feed_end.FeedEnd.TheVariants.{Whole, Long}
use Rattle.epoch_follow.specs.Takes.{TakesFeed, feed_starved, is_read}
use Rattle.epoch_follow.specs.Text.{FeedHead, feed_text, head_of}

-- a feed as it came over a link, what of it was left there afterwards, how many of its bytes may be taken, and how it ended
pub record Delivery : Type 0 where
  pub bytes : List ℕ
  pub after : Option (List ℕ)
  pub total : ℕ
  pub end : FeedEnd

-- feeds that are taken one after another lead a follower's history on
pub data Follows (head : FeedHead) (old : History) : List Delivery → History → Type 0 where
  -- none has come
  begun : Follows head old [] old
  -- one more
  then : {ds : List Delivery} {mid new : History} (d : Delivery) → Follows head old ds mid
      → TakesFeed head d.total mid d.bytes d.after d.end new → Follows head old (ds ++ d ∷ []) new

-- The bytes are those of a feed of some of the leader's sets, up to where the link broke.
pub record ComesFrom (head : FeedHead) (leader : History) (bytes : List ℕ) : Type 0 where
  pub from : ℕ
  pub to : ℕ
  pub counted : 1 ≤ from
  pub ordered : from ≤ to + 1
  pub there : to ≤ sets leader
  pub front : IsPrefix bytes (feed_text head leader from to)

-- A follower that had a part of the leader's history took feeds of this leader, over links that may break and repeat.
pub record IsFollowed (g : Graph) (first : ℕ) (leader old : History) (ds : List Delivery) (new : History) : Type 0 where
  pub graph : IsGraph g
  pub published : IsPublished (length g.ends) g.criteria first leader
  pub begins : IsPrefix old leader
  pub come : All (λ d. ComesFrom (head_of g first) leader d.bytes) ds
  pub follows : Follows (head_of g first) old ds new

-- The feed of the sets up to number j came whole, and neither the source, memory nor its length ended it.
pub record ComesWhole (head : FeedHead) (leader : History) (j : ℕ) (d : Delivery) : Type 0 where
  pub there : j ≤ sets leader
  pub whole : d.bytes ≡ feed_text head leader 1 j
  pub remembered : feed_starved d.end ≡ false
  pub read : is_read d.end ≡ false
  pub short : d.end ≢ Long

-- What a feed that came whole has done: it was taken whole, and the follower has these sets.
pub record IsCaughtUp (j : ℕ) (d : Delivery) (new : History) : Type 0 where
  pub end : d.end ≡ Whole
  pub sets : j ≤ sets new

-- a follower has a part of its leader's history at any time
abbrev pub FollowersKeepToTheirLeader : Type 0
FollowersKeepToTheirLeader =
    (g : Graph) (first : ℕ) (leader old : History) (ds : List Delivery) (new : History)
    → IsFollowed g first leader old ds new → IsPrefix new leader

-- and a whole feed from the first set on brings it up to the feed's last one
abbrev pub FollowersCatchUp : Type 0
FollowersCatchUp =
    (g : Graph) (first : ℕ) (leader old : History) (ds : List Delivery) (new : History) (j : ℕ) (d : Delivery)
    → IsFollowed g first leader old ds new → Contains ds d → ComesWhole (head_of g first) leader j d
    → IsCaughtUp j d new
