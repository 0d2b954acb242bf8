-- What sessions beside feeds have replied to their scripts, and what was written of an operator's, where no lane wanted memory.
use Rattle.std.proofs.Common.{◌≡◌, ℕ, ◌≤◌, List, [], ◌∷◌, ◌++◌, length, map, take, drop, refl, ap, ap₂, sym, subst, ◌∙◌, arith, false, Ok, Err}
use Rattle.std.specs.Prelude.{All, Option, Result}
use Rattle.std.proofs.lemmas.List.{length-map}
use Rattle.arc_graph.specs.Graph.{Graph, Match, Weights, network}
use Rattle.arc_graph.specs.History.{IsOperator, Operator, sets, with_none_pending}
use Rattle.arc_graph.specs.History.HistoryEntry.{Closed}
use Rattle.epoch_follow.specs.Text.{feed_text, head_of}
use Rattle.epoch_follow.specs.Takes.{feed_starved}
use Rattle.epoch_store.specs.Origin.{IsOperatorIn, Origin}
use Rattle.session_core.specs.declared.fault.ReplyFault.{ReplyFault}
use Rattle.session_core.specs.declared.fault.ReplyFault.TheVariants as reply
use Rattle.road_network.specs.Network.{Network}
use Rattle.route_io.specs.Forms.{SureSink, sure_sink_state, sure_source_state}
use Rattle.route_io.specs.Sinks.{SinkState, Sends}
use Rattle.route_io.specs.declared.fault.WriteFault.{WriteFault}
use Rattle.session_core.specs.Links.{is_starved}
use Rattle.session_core.specs.Operators.{IsOperatorBye, OperatorRun}
use Rattle.session_core.specs.Sessions.{Scene}
use Rattle.command_words.specs.declared.commands.TakeWords.{TakeWords}
use Rattle.command_words.specs.declared.commands.WriteWords.{WriteWords}
use Rattle.route_lanes.specs.Following.{FollowReport, RunsFollow}
use Rattle.route_lanes.specs.Lanes.{Lane, LaneReport}
use Rattle.route_lanes.specs.Leading.{IsFeedWritten, WritesFeed}
use Rattle.route_lanes.specs.declared.feed_lane.FeedReport.{FeedReport}
use Rattle.route_io.specs.Files.{FileMap}
use Rattle.std.specs.List.{AllZip}
use Rattle.still_commands.specs.Outcome.{done, no_memory}
use Rattle.still_commands.specs.Stops.{Replies, outcome_of, stop_at}
use Rattle.still_commands.proofs.RunsLemmas.{starves}
use Rattle.route_top.specs.Follow.{FeedOfScript, RepliesBesideFeeds, WriteReplies, feed_lines}
use Rattle.route_top.specs.Lanes.{SaysScript, lanes_reply, max_script}
use Rattle.route_top.proofs.FollowFeeds.{FeedsRun, feeds_run}
use Rattle.route_top.proofs.FollowRuns.{sends_part, sends_whole}
use Rattle.route_top.proofs.ServedScripts.{all_of_map, has_replied, lent_back, script_policy, sessions_exchange, state_of, unsent_sink}

-- there is a feed for each name
pub count_feeds : (files : Option FileMap) (names feeds : List (List ℕ)) → AllZip (SaysScript files) names feeds → length feeds ≡ length names
count_feeds files [] [] says = refl
count_feeds files [] (feed ∷ feeds) says = absurd says
count_feeds files (name ∷ names) [] says = absurd says
count_feeds files (name ∷ names) (feed ∷ feeds) says = omega (arith, count_feeds files names feeds says.1)

module _ {L : Type 0} (script_of : L → List ℕ) (sink_of : L → SureSink) where
  abbrev weights_with : ℕ → List (Option (List ℕ)) → Weights
  weights_with criteria states = record { criteria = criteria; states = states }

  -- all feeds were taken, and all sessions have replied
  pub followed : (asked : TakeWords) (g : Graph) (w : Weights) → Match g w → (feeds rests : List (List ℕ)) (olds news : List L) (report : FollowReport)
      → RunsFollow g w asked.epoch asked.limits.budget script_policy (map sure_source_state feeds) (map sure_source_state rests)
      (map (state_of script_of sink_of) olds) (map (state_of script_of sink_of) news) report
      → length feeds ≡ asked.links
      → All (λ link. length (script_of link) ≤ max_script) olds → All (λ link. sink_of link ≡ unsent_sink) olds
      → All (λ r. feed_starved r.end ≡ false) report.feeds → All (λ r. is_starved r.end ≡ false) report.lanes
      → RepliesBesideFeeds asked (network g w) (feeds ++ map script_of olds)
      (feed_lines 1 report.feeds ++ lanes_reply 1 (map (λ link. (sink_of link).sent) news))
  followed asked g w matched feeds rests olds news report runs count short unsent no_feed_wants no_lane_wants =
      let Wantless : LaneReport → Type 0 = λ r. is_starved r.end ≡ false in
      let none_wants : All (λ (lane : Lane). Wantless lane.report) runs.sessions =
      all_of_map Wantless (λ lane. lane.report) runs.sessions (subst (All Wantless) runs.reported no_lane_wants) in
      let scene : Scene = record { graph = g; origin = runs.origin; budget = asked.limits.budget } in
      let rest = sessions_exchange script_of sink_of scene (runs.last ++ Closed ∷ []) runs.sessions olds news
      runs.links_before runs.links_after short unsent none_wants runs.session_lanes in
      let run = feeds_run g runs.origin feeds rests report.feeds runs.last runs.feeds_taken no_feed_wants in
      let Run : ℕ → Type 0 = λ n. FeedsRun (head_of g n) feeds report.feeds runs.last in
      let led = subst Run runs.first_is run in
      record {
        origin = runs.origin;
        first_is = runs.first_is;
        base_is = runs.base_is ∙ ap (λ n. weights_with n w.states) matched.criteria;
        feeds = feeds;
        session_scripts = map script_of olds;
        scripts_are = refl;
        count = count;
        sessions = rest.exchanges;
        sessions_exchange = rw led.history rest.each;
        text_is = ap₂ ◌++◌ (ap (feed_lines 1) (sym led.reports_are)) (ap (lanes_reply 1) rest.sent_is);
      }

  -- the same, where feeds and links were lent out of lists
  pub followed_over : (asked : TakeWords) (g : Graph) (w : Weights) → Match g w → (feeds lent rests : List (List ℕ)) (items olds news after : List L) (n : ℕ)
      (report : FollowReport) (text : List FeedReport) → lent ≡ feeds → olds ≡ items → n ≡ length items → after ≡ take n (news ++ drop (length news) items)
      → text ≡ report.feeds
      → RunsFollow g w asked.epoch asked.limits.budget script_policy (map sure_source_state lent) (map sure_source_state rests)
      (map (state_of script_of sink_of) olds) (map (state_of script_of sink_of) news) report
      → length feeds ≡ asked.links
      → All (λ link. length (script_of link) ≤ max_script) items → All (λ link. sink_of link ≡ unsent_sink) items
      → All (λ r. feed_starved r.end ≡ false) report.feeds → All (λ r. is_starved r.end ≡ false) report.lanes
      → RepliesBesideFeeds asked (network g w) (feeds ++ map script_of items)
      (feed_lines 1 text ++ lanes_reply 1 (map (λ link. (sink_of link).sent) after))
  followed_over asked g w matched feeds lent rests items olds news after n report text same_feeds same count back shown runs some short unsent no_feed_wants no_lane_wants =
      let Replied : List FeedReport → List L → Type 0 = λ rs links. RepliesBesideFeeds asked (network g w) (feeds ++ map script_of items)
      (feed_lines 1 rs ++ lanes_reply 1 (map (λ link. (sink_of link).sent) links)) in
      let long : length news ≡ length items = omega (
        arith,
        ap length same,
        ap length runs.links_before,
        ap length runs.links_after,
        length-map olds (state_of script_of sink_of),
        length-map news (state_of script_of sink_of),
        length-map runs.sessions (λ (lane : Lane). lane.before),
        length-map runs.sessions (λ (lane : Lane). lane.after),
      ) in
      let Runs : List (List ℕ) → List L → Type 0 = λ fs ls. RunsFollow g w asked.epoch asked.limits.budget script_policy (map sure_source_state fs)
      (map sure_source_state rests) (map (state_of script_of sink_of) ls) (map (state_of script_of sink_of) news) report in
      let over = subst (λ fs. Runs fs items) same_feeds (subst (Runs lent) same runs) in
      let whole = followed asked g w matched feeds rests items news report over some short unsent no_feed_wants no_lane_wants in
      subst (λ rs. Replied rs after) (sym shown) (subst (Replied report.feeds) (sym (back ∙ lent_back script_of sink_of n news items count long)) whole)

-- ---- the feed of a script

-- the text that was sent of a feed, and how
pub record SendsFeed (asked : WriteWords) (net : Network) (script : List ℕ) (out sent : SinkState) (result : Result (Unit {0}) WriteFault) : Type 0 where
  pub text : List ℕ
  pub is : FeedOfScript asked net (script ∷ []) text
  pub sends : Sends out sent text result

module _ (asked : WriteWords) (g : Graph) (w : Weights) (matched : Match g w) (script rest : List ℕ) (to replied : SureSink)
    (short : length script ≤ max_script) (unsent : to ≡ unsent_sink) (out sent : SinkState) where
  abbrev weights_of_states : ℕ → List (Option (List ℕ)) → Weights
  weights_of_states criteria states = record { criteria = criteria; states = states }

  -- what the operator keeps, by the network
  limits_of : (o : Origin) → o.first ≡ asked.epoch → o.base ≡ w → (left : Operator) → IsOperatorIn o left
      → IsOperator (length g.ends) g.criteria asked.epoch left
  limits_of o first base left is =
      let Keeps : ℕ → ℕ → ℕ → Type 0 = λ arcs criteria n. IsOperator arcs criteria n left in
      let by_base = subst (λ (b : Weights). Keeps (length b.states) b.criteria o.first) base is in
      subst (Keeps (length g.ends) g.criteria) first (subst (λ n. Keeps (length g.ends) n o.first) matched.criteria
      (subst (λ n. Keeps n w.criteria o.first) matched.arcs by_base))

  sends_feed : (o : Origin) (result : Result (Unit {0}) WriteFault) → o.first ≡ asked.epoch → o.base ≡ w
      → IsFeedWritten g o script_policy (record { from = sure_source_state script; to = sure_sink_state to })
      (record { from = sure_source_state rest; to = sure_sink_state replied }) out sent result → SendsFeed asked (network g w) script out sent result
  sends_feed o result first base written =
      let replies = has_replied (OperatorRun o) (IsOperatorBye o) (record { published = []; pending = [] }) written.left script rest to replied short unsent
      written.end written.remembered written.serves in
      record {
        text = feed_text (head_of g asked.epoch) written.left.published 1 (sets written.left.published);
        is = record {
          origin = o;
          first_is = first;
          base_is = base ∙ ap (λ n. weights_of_states n w.states) matched.criteria;
          script = script;
          scripts_are = refl;
          left = written.left;
          operator = replies.exchanges;
          operator_exchange = record { run = replies.runs; lines = replies.lines };
          graph = written.is_graph;
          limits = limits_of o first base (with_none_pending written.left) written.operator;
          text_is = refl;
        };
        sends = subst (λ (n : ℕ). Sends out sent (feed_text (head_of g n) written.left.published 1 (sets written.left.published)) result) first written.sends;
      }

  abbrev writes : Result (Unit {0}) ReplyFault → Type 0
  writes result = WritesFeed g w asked.epoch script_policy (record { from = sure_source_state script; to = sure_sink_state to })
      (record { from = sure_source_state rest; to = sure_sink_state replied }) out sent result

  -- the feed was sent
  pub feed_sent : writes (Ok tt) → Replies (WriteReplies asked (network g w) (script ∷ [])) out sent done
  feed_sent is =
      let feed = sends_feed is.origin (Ok tt) is.first_is is.base_is is.writes in
      sends_whole (WriteReplies asked (network g w) (script ∷ [])) feed.text feed.is out sent feed.sends

  -- it wasn't, or in part
  pub feed_cut : (fault : ReplyFault) → writes (Err fault) → Replies (WriteReplies asked (network g w) (script ∷ [])) out sent (outcome_of (stop_at fault))
  feed_cut (reply.Out cut) is =
      let feed = sends_feed is.origin (Err cut) is.first_is is.base_is is.writes in
      sends_part (WriteReplies asked (network g w) (script ∷ [])) feed.text feed.is out sent cut feed.sends
  feed_cut (reply.OutOfMemory want) is =
      subst (λ (s : SinkState). Replies (WriteReplies asked (network g w) (script ∷ [])) out s no_memory) (sym is.writes)
      (starves (WriteReplies asked (network g w) (script ∷ [])) out refl)
