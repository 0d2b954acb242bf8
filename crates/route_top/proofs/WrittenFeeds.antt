-- What a feed that one run has written leads another one to.
use Rattle.std.proofs.Common.{◌≡◌, inl, inr, ℕ, ◌≤◌, false, List, [], ◌∷◌, ◌++◌, Option, Some, length, map, refl, sym, ap, ap₂, subst, ◌∙◌, arith}
use Rattle.std.specs.Prelude.{All, Contains, IsSomeAnd}
use Rattle.std.specs.List.{AllZip}
use Rattle.std.proofs.lemmas.List.FromFn.{length-map-range_with_len}
use Rattle.std.proofs.lemmas.List.Elements.{All-cons, All-head, All-nil, All-tail, All-weaker}
use mathlib.Core.List.{IsPrefix}
use Rattle.list_laws.proofs.Members.{cases_in, in_front, in_none, in_rest}
use Rattle.route_io.specs.Files.{FileMap}
use Rattle.road_network.specs.Network.{Network}
use Rattle.arc_graph.specs.declared.file.ArcLine.{ArcLine}
use Rattle.arc_graph.specs.Agreement.{joined}
use Rattle.arc_graph.specs.Files.{ArcFile}
use Rattle.arc_graph.specs.Graph.{Graph, IsGraph}
use Rattle.arc_graph.specs.History.{History, IsPublished, ends_closed, sets}
use Rattle.gr_reader.specs.declared.weights.Sizes.{Sizes}
use Rattle.gr_reader.specs.Grammar.{IsGr, weights}
use Rattle.gr_reader.proofs.LawsLemmas.{is_decided}
use Rattle.epoch_store.proofs.PrefixLemmas.{prefix_self, prefix_trans}
use Rattle.epoch_follow.specs.Followers.{ComesFrom}
use Rattle.epoch_follow.specs.Runs.{begun, feed_run}
use Rattle.epoch_follow.specs.Text.{FeedHead, feed_text, head_of}
use Rattle.epoch_follow.proofs.FollowLemmas.{feed_brings_all}
use Rattle.epoch_follow.proofs.LeaderLemmas.{one_history}
use Rattle.epoch_follow.proofs.OnWayLemmas.{run_grows}
use Rattle.epoch_follow.proofs.WrittenLemmas.{IsHead}
use Rattle.line_text.specs.Lines.{lines_of}
use Rattle.route_lanes.specs.Following.{max_feed}
use Rattle.command_words.specs.Words.{Asks, feeds_of, session_name, sessions_of}
use Rattle.command_words.specs.declared.commands.Command.{Command}
use Rattle.command_words.specs.declared.commands.Command.TheVariants.{Waiting}
use Rattle.command_words.specs.declared.commands.FollowWords.TheVariants.{Take, Write}
use Rattle.command_words.specs.declared.commands.TakeWords.{TakeWords}
use Rattle.command_words.specs.declared.commands.WaitingCommand.TheVariants.{Follow}
use Rattle.command_words.specs.declared.commands.WriteWords.{WriteWords}
use Rattle.still_commands.specs.FilesRead.{FilesEnd, FilesStop, ReadAs, Says, at_file, disagree, failed as unread, faulty, goes_on, reading_limits, starved as starved_in, stops, unjoined}
use Rattle.still_commands.specs.Outcome.{Outcome, bad_cert, bad_file, bad_files, bad_pairs, bad_words, done, failed_rule, folder_failed, no_memory, out_failed, out_wanted, refused, script_too_long, status_of, town_failed}
use Rattle.still_commands.specs.Output.{EndsByWords, EndsOrCut, asks, failed, no_command, starved, uncut, wanted}
use Rattle.route_top.specs.Ends.{Ends}
use Rattle.route_top.specs.Follow.{FeedOfScript, FollowEnds, RepliesBesideFeeds, TakeReplies, WriteReplies, history_after}
use Rattle.route_top.specs.Followed.{FollowsHistory, LeadsFollowers, RunSends, TakesFrontsOf}
use Rattle.route_top.specs.Lanes.{SaysScript, ScriptStop, ScriptsEnd, failed as script_failed, graph_of, max_script, scripts_read, scripts_stop, starved as script_starved, too_long}
use Rattle.route_top.proofs.LeaderFeeds.{after_keeps, one_keeps, written_comes}

-- ---- a run that ended with status 0

-- one outcome has it
only_done : (outcome : Outcome) → 0 ≡ status_of outcome → outcome ≡ done
only_done done e = refl
only_done bad_words e = absurd (omega (arith, e))
only_done (folder_failed name) e = absurd (omega (arith, e))
only_done out_failed e = absurd (omega (arith, e))
only_done (bad_file name line kind) e = absurd (omega (arith, e))
only_done (bad_files way) e = absurd (omega (arith, e))
only_done (bad_pairs name line kind) e = absurd (omega (arith, e))
only_done (script_too_long name) e = absurd (omega (arith, e))
only_done (bad_cert name line) e = absurd (omega (arith, e))
only_done (failed_rule name rule label) e = absurd (omega (arith, e))
only_done town_failed e = absurd (omega (arith, e))
only_done refused e = absurd (omega (arith, e))
only_done no_memory e = absurd (omega (arith, e))
only_done out_wanted e = absurd (omega (arith, e))

module _ (words : List (List ℕ)) (files : FileMap) (asked : Command) (is : Asks words asked) where
  asks_so : {outcome : Outcome} {text : List ℕ} {told : Option FileMap} → EndsByWords Ends (Asks words) told outcome text → told ≡ Some files
      → outcome ≡ done → Ends (Some files) asked done text
  asks_so (no_command none) told e = absurd cc
  asks_so starved told e = absurd cc
  asks_so {outcome} {text} {told} (asks other is_other ends) is_told e =
      let both : Some other ≡ Some asked = sym is_other ∙ is in
      let same : other ≡ asked = cc both in
      subst (λ o. Ends (Some files) asked o text) e
      (subst (λ a. Ends (Some files) a outcome text) same (subst (λ fs. Ends fs other outcome text) is_told ends))

  ends_so : {outcome : Outcome} {text : List ℕ} {told : Option FileMap} → EndsOrCut (EndsByWords Ends (Asks words) told) outcome text → told ≡ Some files
      → outcome ≡ done → Ends (Some files) asked done text
  ends_so (uncut ends) told e = asks_so ends told e
  ends_so (failed cut) told e = absurd cc
  ends_so (wanted cut) told e = absurd cc

  -- it did what its words ask for
  did : (text : List ℕ) → RunSends words files text → Ends (Some files) asked done text
  did text run =
      subst (Ends (Some files) asked done) run.text_is (ends_so run.output.runs.ends run.tells (only_done run.output.outcome run.output.status_is))

-- A run read its weight files and its scripts, and went on so.
record WentOn (After : Network → List (List ℕ) → Outcome → List ℕ → Type 0) (files : FileMap) (weight_names names : List (List ℕ)) (text : List ℕ) : Type 0 where
  net : Network
  read : ReadAs (Some files) weight_names net
  scripts : List (List ℕ)
  says : AllZip (SaysScript (Some files)) names scripts
  after : After net scripts done text

module _ (After : Network → List (List ℕ) → Outcome → List ℕ → Type 0) (files : FileMap) (weight_names names : List (List ℕ)) where
  stopped_by_files : {outcome : Outcome} → FilesStop (Some files) weight_names outcome → outcome ≡ done → ⊥
  stopped_by_files (at_file name comes (unread)) e = cc
  stopped_by_files (at_file name comes (faulty fault)) e = cc
  stopped_by_files (at_file name comes starved_in) e = cc
  stopped_by_files (disagree ways) e = cc
  stopped_by_files unjoined e = cc

  stopped_by_script : {outcome : Outcome} (name : List ℕ) → ScriptStop (Some files) name outcome → outcome ≡ done → ⊥
  stopped_by_script name script_failed e = cc
  stopped_by_script name (too_long long) e = cc
  stopped_by_script name script_starved e = cc

  over_scripts : {outcome : Outcome} {text : List ℕ} (net : Network) → ReadAs (Some files) weight_names net → ScriptsEnd (After net) (Some files) names outcome text
      → outcome ≡ done → WentOn After files weight_names names text
  over_scripts net read (scripts_stop why) e = absurd (stopped_by_script why.0 why.2 e)
  over_scripts {outcome} {text} net read (scripts_read scripts says after) e =
      record { net = net; read = read; scripts = scripts; says = says; after = subst (λ o. After net scripts o text) e after }

  went_on : {outcome : Outcome} {text : List ℕ} → FilesEnd (λ net. ScriptsEnd (After net) (Some files) names) (Some files) weight_names outcome text
      → outcome ≡ done → WentOn After files weight_names names text
  went_on (stops why) e = absurd (stopped_by_files why e)
  went_on (goes_on net read ends) e = over_scripts net read ends e

-- ---- the same weight files

-- two files of the same bytes say the same
same_file : (bytes : List ℕ) (a b : ArcFile) → IsGr reading_limits bytes a.nodes a.arcs → IsGr reading_limits bytes b.nodes b.arcs → a ≡ b
same_file bytes a b x y =
    let same = (is_decided weights reading_limits bytes).one_file _ _ a.arcs b.arcs x y in
    let nodes : a.nodes ≡ b.nodes = ap (λ (s : Sizes). s.nodes) same.0 in
    ap₂ (λ (n : ℕ) (arcs : List ArcLine). record { nodes = n; arcs = arcs }) nodes same.1

module _ (files others : FileMap) where
  same_contents : (names other_names : List (List ℕ)) (contents other : List ArcFile) → AllZip (Says (Some files)) names contents
      → AllZip (Says (Some others)) other_names other → map files names ≡ map others other_names → contents ≡ other
  same_contents [] [] [] [] x y e = refl
  same_contents [] [] [] (d ∷ ds) x y e = absurd y
  same_contents [] [] (c ∷ cs) other x y e = absurd x
  same_contents [] (m ∷ ms) contents other x y e = absurd cc
  same_contents (n ∷ ns) [] contents other x y e = absurd cc
  same_contents (n ∷ ns) (m ∷ ms) [] other x y e = absurd x
  same_contents (n ∷ ns) (m ∷ ms) (c ∷ cs) [] x y e = absurd y
  same_contents (n ∷ ns) (m ∷ ms) (c ∷ cs) (d ∷ ds) x y e =
      let here : files n ≡ others m = cc e in
      let bytes : x.0.bytes ≡ y.0.bytes = let both : Some x.0.bytes ≡ Some y.0.bytes = sym x.0.found ∙ here ∙ y.0.found in cc both in
      let first = same_file y.0.bytes c d (subst (λ bs. IsGr reading_limits bs c.nodes c.arcs) bytes x.0.holds) y.0.holds in
      ap₂ ◌∷◌ first (same_contents ns ms cs ds x.1 y.1 (cc e))

  same_network : (names other_names : List (List ℕ)) (net other : Network) → ReadAs (Some files) names net → ReadAs (Some others) other_names other
      → map files names ≡ map others other_names → net ≡ other
  same_network names other_names net other x y e =
      x.network ∙ ap joined (same_contents names other_names x.contents y.contents x.read y.read e) ∙ sym y.network

-- ---- feeds of one leader

module _ (g : Graph) (first : ℕ) (leader : History) (graph : IsGraph g) (published : IsPublished (length g.ends) g.criteria first leader)
    (unclosed : ends_closed leader ≡ false) where
  abbrev head : FeedHead
  head = head_of g first

  is_head : IsHead head
  is_head = record { arcs = omega (arith, graph.arcs); criteria = graph.four; first = omega (arith, published.number) }

  abbrev text : List ℕ
  text = feed_text head leader 1 (sets leader)

  text_comes : ComesFrom head leader text
  text_comes = record { from = 1; to = sets leader; counted = omega arith; ordered = omega arith; there = omega arith; front = prefix_self text }

  keeps : (h : History) (bytes : List ℕ) → ComesFrom head leader bytes → IsPrefix h leader → IsPrefix (feed_run head max_feed h bytes).history leader
  keeps = one_keeps g first leader graph published

  feeds_grow : (h : History) (feeds : List (List ℕ)) → IsPrefix h (history_after head h feeds)
  feeds_grow h [] = prefix_self h
  feeds_grow h (bytes ∷ feeds) =
      let next = (feed_run head max_feed h bytes).history in
      prefix_trans h next (history_after head next feeds) (run_grows head max_feed (length bytes) (begun h) (lines_of bytes)) (feeds_grow next feeds)

  -- it brings all among other feeds
  pub whole_among : (h : History) (feeds : List (List ℕ)) → IsPrefix h leader → All (ComesFrom head leader) feeds → length text ≤ max_feed
      → Contains feeds text → history_after head h feeds ≡ leader
  whole_among h [] begins come short there = absurd (in_none text there)
  whole_among h (bytes ∷ feeds) begins come short there =
      let next = (feed_run head max_feed h bytes).history in
      let so_far = keeps h bytes (All-head (ComesFrom head leader) bytes feeds come) begins in
      let others = All-tail (ComesFrom head leader) bytes feeds come in
      elim (cases_in bytes feeds text there) [
        | inl here ↦
            let all : next ≡ leader = ap (λ bs. (feed_run head max_feed h bs).history) (sym here) ∙ feed_brings_all head leader is_head published max_feed h short begins unclosed in
            let more = subst (λ l. IsPrefix l (history_after head next feeds)) all (feeds_grow next feeds) in
            one_history (history_after head next feeds) leader (after_keeps g first leader graph published next feeds so_far others) more
        | inr later ↦ whole_among next feeds so_far others short later
      ]

-- ---- the two runs

-- the names of what was read stand first
split_says : (files : FileMap) (names more feeds scripts : List (List ℕ)) → length feeds ≡ length names
    → AllZip (SaysScript (Some files)) (names ++ more) (feeds ++ scripts) → AllZip (SaysScript (Some files)) names feeds
split_says files [] more [] scripts size says = tt
split_says files [] more (feed ∷ feeds) scripts size says = absurd (omega (arith, size))
split_says files (name ∷ names) more [] scripts size says = absurd (omega (arith, size))
split_says files (name ∷ names) more (feed ∷ feeds) scripts size says =
    (says.0, split_says files names more feeds scripts (omega (arith, size)) says.1)

-- the bytes of a file that was read as a script
says_bytes : (files : FileMap) (name script bytes : List ℕ) → SaysScript (Some files) name script → files name ≡ Some bytes → script ≡ bytes
says_bytes files name script bytes says e =
    let both : Some says.exchanges.bytes ≡ Some bytes = sym says.exchanges.found ∙ e in
    let same : says.exchanges.bytes ≡ bytes = cc both in sym says.exchanges.holds ∙ same

module _ (files : FileMap) (text : List ℕ) where
  front_of : (name script : List ℕ) → SaysScript (Some files) name script → IsSomeAnd (files name) (λ bytes. IsPrefix bytes text) → IsPrefix script text
  front_of name script says front =
      subst (λ bs. IsPrefix bs text) says.exchanges.holds (subst (λ found. IsSomeAnd found (λ bytes. IsPrefix bytes text)) says.exchanges.found front)

  fronts_of : (names feeds : List (List ℕ)) → AllZip (SaysScript (Some files)) names feeds
      → All (λ name. IsSomeAnd (files name) (λ bytes. IsPrefix bytes text)) names → All (λ bytes. IsPrefix bytes text) feeds
  fronts_of [] [] says fronts = All-nil (λ bytes. IsPrefix bytes text)
  fronts_of [] (feed ∷ feeds) says fronts = absurd says
  fronts_of (name ∷ names) [] says fronts = absurd says
  fronts_of (name ∷ names) (feed ∷ feeds) says fronts =
      let IsFront : List ℕ → Type 0 = λ n. IsSomeAnd (files n) (λ bytes. IsPrefix bytes text) in
      All-cons (λ bytes. IsPrefix bytes text) feed feeds (front_of name feed says.0 (All-head IsFront name names fronts))
      (fronts_of names feeds says.1 (All-tail IsFront name names fronts))

  -- the whole text is among the feeds, and no longer than a script
  whole_of : (names feeds : List (List ℕ)) (name : List ℕ) → AllZip (SaysScript (Some files)) names feeds → Contains names name → files name ≡ Some text
      → Contains feeds text × (length text ≤ max_script)
  whole_of [] feeds name says there is = absurd (in_none name there)
  whole_of (n ∷ names) [] name says there is = absurd says
  whole_of (n ∷ names) (feed ∷ feeds) name says there is =
      elim (cases_in n names name there) [
        | inl here ↦
            let same = says_bytes files n feed text says.0 (ap files (sym here) ∙ is) in
            (in_front feed feeds text (sym same), omega (arith, says.0.short, ap length same))
        | inr later ↦ let rest = whole_of names feeds name says.1 later is in (in_rest feed feeds text rest.0, rest.1)
      ]

module _ (leader_files files : FileMap) (writes : WriteWords) (takes : TakeWords) (net : Network) (script text replied : List ℕ)
    (feed : FeedOfScript writes net (script ∷ []) text) (given : TakesFrontsOf leader_files files writes text takes) where
  abbrev leader : History
  leader = feed.left.published

  abbrev After : Network → List (List ℕ) → Outcome → List ℕ → Type 0
  After = TakeReplies takes

  follows_over : (scripts : List (List ℕ)) → AllZip (SaysScript (Some files)) (feeds_of takes ++ sessions_of takes) scripts
      → RepliesBesideFeeds takes net scripts replied → FollowsHistory files takes net leader text replied
  follows_over scripts says replies =
      let count : length replies.feeds ≡ length (feeds_of takes) =
      replies.count ∙ sym (length-map-range_with_len (session_name takes.feeds) 1 takes.links) in
      let feeds_say = split_says files (feeds_of takes) (sessions_of takes) replies.feeds replies.session_scripts count
      (subst (AllZip (SaysScript (Some files)) (feeds_of takes ++ sessions_of takes)) replies.scripts_are says) in
      let g = graph_of net in
      let first : takes.epoch ≡ writes.epoch = given.epoch in
      let Comes : ℕ → List ℕ → Type 0 = λ n bytes. ComesFrom (head_of g n) leader bytes in
      let fronts = fronts_of files text (feeds_of takes) replies.feeds feeds_say given.fronts in
      let come_so = All-weaker (λ bytes. IsPrefix bytes text) (Comes writes.epoch)
      (λ bytes front. written_comes writes net (script ∷ []) text bytes feed front) replies.feeds fronts in
      let come = subst (λ n. All (Comes n) replies.feeds) (sym first) come_so in
      let published = subst (λ n. IsPublished (length net.ends) net.criteria n leader) (sym first) feed.limits.published in
      let text_is : text ≡ feed_text (head_of g takes.epoch) leader 1 (sets leader) =
      feed.text_is ∙ ap (λ n. feed_text (head_of g n) leader 1 (sets leader)) (sym first) in
      record {
        scripts = scripts;
        read = says;
        replies = replies;
        keeps = after_keeps g takes.epoch leader feed.graph published [] replies.feeds (leader, refl) come;
        whole = λ name there is.
            let came = whole_of files text (feeds_of takes) replies.feeds name feeds_say there is in
            whole_among g takes.epoch leader feed.graph published feed.limits.unclosed [] replies.feeds (leader, refl) come
            (subst (λ t. length t ≤ max_feed) text_is came.1) (subst (λ t. Contains replies.feeds t) text_is came.0);
      }

  pub follows : ReadAs (Some leader_files) writes.files net → FollowEnds (Some files) (Take takes) done replied
      → FollowsHistory files takes net leader text replied
  follows read ends =
      let on = went_on After files takes.files (feeds_of takes ++ sessions_of takes) ends refl in
      let same : on.net ≡ net = same_network files leader_files takes.files writes.files on.net net on.read read given.weights in
      follows_over on.scripts on.says (subst (λ (n : Network). RepliesBesideFeeds takes n on.scripts replied) same on.after)

-- what one run has written leads each run over it
pub leads : (words : List (List ℕ)) (files : FileMap) (writes : WriteWords) (text : List ℕ) → RunSends words files text → Asks words (Waiting (Follow (Write writes)))
    → LeadsFollowers files writes text
leads words files writes text run is =
    let on = went_on (WriteReplies writes) files writes.files (writes.operator ∷ []) (did words files (Waiting (Follow (Write writes))) is text run) refl in
    by on.net on.read on.scripts on.says on.after where
      by : (net : Network) → ReadAs (Some files) writes.files net → (scripts : List (List ℕ)) → AllZip (SaysScript (Some files)) (writes.operator ∷ []) scripts
          → FeedOfScript writes net scripts text → LeadsFollowers files writes text
      by net read [] says feed = absurd says
      by net read (script ∷ []) says feed = record {
        net = net;
        read = read;
        script = script;
        is_script = says.0;
        feed = feed;
        followers = λ others other_files takes replied other asked given.
            follows files other_files writes takes net script text replied feed given read (did others other_files (Waiting (Follow (Take takes))) asked replied other);
      }
      by net read (script ∷ other ∷ scripts) says feed = absurd says.1
