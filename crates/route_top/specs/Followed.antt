-- What a server that takes feeds from files comes to by those of one leader, and by the feed that was written of a script.
use Rattle.std.specs.Prelude.{◌≡◌, ℕ, List, [], ◌∷◌, ◌++◌, Some, IsSomeAnd, length, map, All, Contains}
use Rattle.std.specs.List.{AllZip}
use mathlib.Core.List.{IsPrefix}
use Rattle.route_io.specs.Files.{FileMap}
use Rattle.route_io.specs.Sinks.{SinkState}
use Rattle.route_io.specs.Sources.{SourceState}
use Rattle.road_network.specs.Network.{Network}
use Rattle.arc_graph.specs.Graph.{IsGraph}
use Rattle.arc_graph.specs.History.{History, IsPublished}
use Rattle.epoch_follow.specs.Followers.{ComesFrom}
use Rattle.epoch_follow.specs.Text.{head_of}
use Rattle.command_words.specs.Words.{Asks, feeds_of, sessions_of}
use Rattle.command_words.specs.declared.commands.Command.TheVariants.{Waiting}
use Rattle.command_words.specs.declared.commands.FollowWords.TheVariants.{Take, Write}
use Rattle.command_words.specs.declared.commands.TakeWords.{TakeWords}
use Rattle.command_words.specs.declared.commands.WaitingCommand.TheVariants.{Follow}
use Rattle.command_words.specs.declared.commands.WriteWords.{WriteWords}
use Rattle.still_commands.specs.FilesRead.{ReadAs}
use Rattle.still_commands.specs.Output.{Output}
use Rattle.route_top.specs.Ends.{Ends}
use Rattle.route_top.specs.Follow.{FeedOfScript, RepliesBesideFeeds, history_after}
use Rattle.route_top.specs.Lanes.{SaysScript, graph_of}

-- These are feeds of one leader over this network, each up to where its link broke.
pub record AreFeedsOf (asked : TakeWords) (net : Network) (leader : History) (feeds : List (List ℕ)) : Type 0 where
  pub graph : IsGraph (graph_of net)
  pub published : IsPublished (length net.ends) net.criteria asked.epoch leader
  pub each : All (ComesFrom (head_of (graph_of net) asked.epoch) leader) feeds

-- by such feeds the sessions beside them are answered over a part of the leader's history from the front
abbrev pub FollowKeepsToItsLeader : Type 0
FollowKeepsToItsLeader =
    (asked : TakeWords) (net : Network) (scripts : List (List ℕ)) (text : List ℕ) (leader : History)
    → (replies : RepliesBesideFeeds asked net scripts text) → AreFeedsOf asked net leader replies.feeds
    → IsPrefix (history_after (head_of (graph_of net) asked.epoch) [] replies.feeds) leader

-- what comes of the feed that was written of a script is one of the history that the script has published
abbrev pub WrittenFeedsCome : Type 0
WrittenFeedsCome =
    (asked : WriteWords) (net : Network) (scripts : List (List ℕ)) (text came : List ℕ)
    → (feed : FeedOfScript asked net scripts text) → IsPrefix came text
    → ComesFrom (head_of (graph_of net) asked.epoch) feed.left.published came

-- ---- two runs of the program

-- A run by these words over a folder of these files ended with status 0 and sent this, by the contract of `route`.
pub record RunSends (words : List (List ℕ)) (files : FileMap) (text : List ℕ) : Type 0 where
  pub folder : SourceState
  pub after : SourceState
  pub out : SinkState
  pub replied : SinkState
  pub err : SinkState
  pub noted : SinkState
  pub tells : folder.files ≡ Some files
  pub output : Output Ends (Asks words) folder after out replied err noted 0
  pub text_is : output.runs.text ≡ text

-- A run that takes feeds has the weight files and the first epoch of one that wrote this text, and each of its feeds is a part of
-- the text from the front.
pub record TakesFrontsOf (leader_files files : FileMap) (writes : WriteWords) (text : List ℕ) (takes : TakeWords) : Type 0 where
  pub weights : map files takes.files ≡ map leader_files writes.files
  pub epoch : takes.epoch ≡ writes.epoch
  pub fronts : All (λ name. IsSomeAnd (files name) (λ bytes. IsPrefix bytes text)) (feeds_of takes)

-- Over such feeds the sessions were answered over a part of this history from the front, and over all of it where one of the
-- feeds is the whole text.
pub record FollowsHistory (files : FileMap) (takes : TakeWords) (net : Network) (history : History) (text replied : List ℕ)
    : Type 0 where
  pub scripts : List (List ℕ)
  pub read : AllZip (SaysScript (Some files)) (feeds_of takes ++ sessions_of takes) scripts
  pub replies : RepliesBesideFeeds takes net scripts replied
  pub keeps : IsPrefix (history_after (head_of (graph_of net) takes.epoch) [] replies.feeds) history
  pub whole : (name : List ℕ) → Contains (feeds_of takes) name → files name ≡ Some text
      → history_after (head_of (graph_of net) takes.epoch) [] replies.feeds ≡ history

-- The text is the feed of the history that an operator's script has published over the network of the files, and each run that
-- takes fronts of this text follows that history.
pub record LeadsFollowers (files : FileMap) (writes : WriteWords) (text : List ℕ) : Type 0 where
  pub net : Network
  pub read : ReadAs (Some files) writes.files net
  pub script : List ℕ
  pub is_script : SaysScript (Some files) writes.operator script
  pub feed : FeedOfScript writes net (script ∷ []) text
  pub followers : (words : List (List ℕ)) (other_files : FileMap) (takes : TakeWords) (replied : List ℕ)
      → RunSends words other_files replied → Asks words (Waiting (Follow (Take takes))) → TakesFrontsOf files other_files writes text takes
      → FollowsHistory other_files takes net feed.left.published text replied

-- what one run of `follow --write` has sent leads each run of `follow --feeds` over it
abbrev pub WrittenFeedsLead : Type 0
WrittenFeedsLead =
    (words : List (List ℕ)) (files : FileMap) (writes : WriteWords) (text : List ℕ)
    → RunSends words files text → Asks words (Waiting (Follow (Write writes))) → LeadsFollowers files writes text
