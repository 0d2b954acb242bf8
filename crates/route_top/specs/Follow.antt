-- What the command `follow` does over a network: it writes the feed of what an operator's script publishes, or it takes feeds and
-- serves sessions beside it. What is said of a file's bytes holds where the folder tells its files.
use Rattle.std.specs.Prelude.{◌≡◌, ℕ, ◌+◌, List, [], ◌∷◌, ◌++◌, Option, codes, length, map}
use Rattle.std.specs.List.{AllZip, range_with_len}
use Rattle.route_io.specs.Files.{FileMap}
use Rattle.road_network.specs.Network.{Network}
use Rattle.arc_graph.specs.Graph.{IsGraph}
use Rattle.arc_graph.specs.History.{History, IsOperator, Operator, sets, with_none_pending}
use Rattle.arc_graph.specs.History.HistoryEntry.{Closed}
use Rattle.answer_writer.specs.Replies.{and_number, end_line}
use Rattle.epoch_follow.specs.Runs.{feed_run, last_epoch}
use Rattle.epoch_follow.specs.Text.{FeedHead, feed_text, head_of}
use Rattle.epoch_follow.specs.declared.feed_end.FeedEnd.{FeedEnd}
use Rattle.epoch_follow.specs.declared.feed_end.FeedEnd.TheVariants as feed
use Rattle.epoch_store.specs.Origin.{Origin}
use Rattle.session_core.specs.Exchanges.{Exchange, text_exchanged}
use Rattle.command_words.specs.Words.{feeds_of, session_name, sessions_of}
use Rattle.command_words.specs.declared.commands.FollowWords.{FollowWords}
use Rattle.command_words.specs.declared.commands.FollowWords.TheVariants.{Take, Write}
use Rattle.command_words.specs.declared.commands.TakeWords.{TakeWords}
use Rattle.command_words.specs.declared.commands.WriteWords.{WriteWords}
use Rattle.route_lanes.specs.Following.{max_feed}
use Rattle.route_lanes.specs.declared.feed_lane.FeedReport.{FeedReport}
use Rattle.still_commands.specs.FilesRead.{FilesEnd}
use Rattle.still_commands.specs.Outcome.{Outcome, done, no_memory}
use Rattle.route_top.specs.Lanes.{IsOperatorExchange, IsSessionExchange, ScriptsEnd, graph_of, lanes_reply, weights_of}

-- the names of files that begin with a stem, from number 1 on
abbrev pub numbered : List ℕ → ℕ → List (List ℕ)
numbered stem count = map (session_name stem) (range_with_len 1 count)

-- ---- the feed of a script

-- The text is the feed of all change sets that the lines of the operator's script publish, within the limits of a store over this
-- network.
pub record FeedOfScript (asked : WriteWords) (net : Network) (scripts : List (List ℕ)) (text : List ℕ) : Type 0 where
  pub origin : Origin
  pub first_is : origin.first ≡ asked.epoch
  pub base_is : origin.base ≡ weights_of net
  pub script : List ℕ
  pub scripts_are : scripts ≡ script ∷ []
  pub left : Operator
  pub operator : List Exchange
  pub operator_exchange : IsOperatorExchange origin script left operator
  pub graph : IsGraph (graph_of net)
  pub limits : IsOperator (length net.ends) net.criteria asked.epoch (with_none_pending left)
  pub text_is : text ≡ feed_text (head_of (graph_of net) asked.epoch) left.published 1 (sets left.published)

-- the feed is sent, unless memory runs out in the operator's lane or before
abbrev pub WriteReplies : WriteWords → Network → List (List ℕ) → Outcome → List ℕ → Type 0
WriteReplies asked net scripts done text = FeedOfScript asked net scripts text
WriteReplies asked net scripts no_memory text = text ≡ []
WriteReplies asked net scripts outcome text = ⊥

-- how a run that writes a feed over a network ends, and what it sends
abbrev pub WriteEnd : Option FileMap → WriteWords → Network → Outcome → List ℕ → Type 0
WriteEnd files asked net = ScriptsEnd (WriteReplies asked net) files (asked.operator ∷ [])

-- ---- feeds that are taken

-- the history that feeds of these bytes lead to, one after another
abbrev pub history_after : FeedHead → History → List (List ℕ) → History
history_after head h [] = h
history_after head h (bytes ∷ feeds) = history_after head (feed_run head max_feed h bytes).history feeds

-- what is reported of each: how it ends, and the number of the last epoch then
abbrev pub reports_of : FeedHead → History → List (List ℕ) → List FeedReport
reports_of head h [] = []
reports_of head h (bytes ∷ feeds) =
    record {
      end = (feed_run head max_feed h bytes).end;
      number = last_epoch head (feed_run head max_feed h bytes).history;
    } ∷ reports_of head (feed_run head max_feed h bytes).history feeds

-- how a feed ended, in words; of a run the last two come to nothing
abbrev pub end_words : FeedEnd → List ℕ
end_words feed.Whole = codes " whole"
end_words feed.Cut = codes " cut"
end_words (feed.Bad line) = codes " bad" ++ and_number line
end_words (feed.Gap line) = codes " gap" ++ and_number line
end_words feed.Long = codes " long"
end_words feed.Read = codes " read"
end_words (feed.OutOfMemory want) = codes " memory"

-- `feed I END K`
abbrev pub feed_line : ℕ → FeedReport → List ℕ
feed_line i report = codes "feed" ++ and_number i ++ end_words report.end ++ and_number report.number ++ end_line

-- the lines of these feeds, of which the first has this number
abbrev pub feed_lines : ℕ → List FeedReport → List ℕ
feed_lines i [] = []
feed_lines i (report ∷ reports) = feed_line i report ++ feed_lines (i + 1) reports

-- The text is the lines of the feeds, which come first, and the replies to the sessions' scripts. What the feeds lead to is,
-- closed, the history of all sessions.
pub record RepliesBesideFeeds (asked : TakeWords) (net : Network) (scripts : List (List ℕ)) (text : List ℕ) : Type 0 where
  pub origin : Origin
  pub first_is : origin.first ≡ asked.epoch
  pub base_is : origin.base ≡ weights_of net
  pub feeds : List (List ℕ)
  pub session_scripts : List (List ℕ)
  pub scripts_are : scripts ≡ feeds ++ session_scripts
  pub count : length feeds ≡ asked.links
  pub sessions : List (List Exchange)
  pub sessions_exchange : AllZip (IsSessionExchange
      (record { graph = graph_of net; origin = origin; budget = asked.limits.budget })
      (history_after (head_of (graph_of net) asked.epoch) [] feeds ++ Closed ∷ [])) session_scripts sessions
  pub text_is : text ≡ feed_lines 1 (reports_of (head_of (graph_of net) asked.epoch) [] feeds)
      ++ lanes_reply 1 (map text_exchanged sessions)

-- all feeds are taken and all scripts have their replies, unless memory runs out in a lane or before
abbrev pub TakeReplies : TakeWords → Network → List (List ℕ) → Outcome → List ℕ → Type 0
TakeReplies asked net scripts done text = RepliesBesideFeeds asked net scripts text
TakeReplies asked net scripts no_memory text = text ≡ []
TakeReplies asked net scripts outcome text = ⊥

-- how a run that takes feeds over a network ends, and what it sends
abbrev pub TakeEnd : Option FileMap → TakeWords → Network → Outcome → List ℕ → Type 0
TakeEnd files asked net = ScriptsEnd (TakeReplies asked net) files (feeds_of asked ++ sessions_of asked)

-- how a run of `follow` ends, and what it sends, by its form
abbrev pub FollowEnds : Option FileMap → FollowWords → Outcome → List ℕ → Type 0
FollowEnds files (Write asked) = FilesEnd (WriteEnd files asked) files asked.files
FollowEnds files (Take asked) = FilesEnd (TakeEnd files asked) files asked.files
