-- What feeds that come from memory lead a follower to, where it didn't want memory.
use Rattle.std.proofs.Common.{◌≡◌, ℕ, false, List, [], ◌∷◌, ◌++◌, map, refl, ap, ap₂, sym, subst, ◌∙◌, arith}
use Rattle.std.specs.Prelude.{All}
use Rattle.std.proofs.lemmas.List.{map-append}
use Rattle.std.proofs.lemmas.List.Elements.{All-cons, All-head, All-nil, All-tail}
use Rattle.arc_graph.specs.Graph.{Graph}
use Rattle.arc_graph.specs.History.{History}
use Rattle.epoch_follow.specs.Runs.{FeedRun, feed_run, last_epoch}
use Rattle.epoch_follow.specs.Takes.{RunsTo, feed_starved, is_read}
use Rattle.epoch_follow.specs.Text.{FeedHead, head_of}
use Rattle.epoch_follow.specs.declared.feed_end.FeedEnd.{FeedEnd}
use Rattle.epoch_follow.specs.declared.feed_end.FeedEnd.TheVariants.{Whole, Cut, Bad, Gap, Long, Read, OutOfMemory}
use Rattle.epoch_store.specs.Origin.{Origin}
use Rattle.route_io.specs.Forms.{sure_source_state}
use Rattle.route_io.specs.Sources.{SourceState, ReadsFrom}
use Rattle.route_lanes.specs.Following.{FeedsLead, IsTakenFeed, TakenFeed, TakesFeeds, max_feed, then, untaken}
use Rattle.route_lanes.specs.declared.feed_lane.FeedReport.{FeedReport}
use Rattle.route_top.specs.Follow.{history_after, reports_of}
use Rattle.route_top.proofs.ServedScripts.{all_of_map}

-- a list that was mapped ends with what its last element was mapped to
record EndsWith {A B : Type 0} (f : A → B) (xs : List A) (ys : List B) (y : B) : Type 0 where
  front : List A
  last : A
  parts : xs ≡ front ++ last ∷ []
  front_is : map f front ≡ ys
  last_is : f last ≡ y

ends_with : {A B : Type 0} (f : A → B) (xs : List A) (ys : List B) (y : B) → map f xs ≡ ys ++ y ∷ [] → EndsWith f xs ys y
ends_with f [] [] y e = absurd cc
ends_with f [] (z ∷ ys) y e = absurd cc
ends_with f (x ∷ []) [] y e = record { front = []; last = x; parts = refl; front_is = refl; last_is = cc e }
ends_with f (x ∷ w ∷ xs) [] y e = absurd cc
ends_with f (x ∷ xs) (z ∷ ys) y e =
    let rest = ends_with f xs ys y (cc e) in
    let first : f x ≡ z = cc e in record {
      front = x ∷ rest.front;
      last = rest.last;
      parts = ap (λ l. x ∷ l) rest.parts;
      front_is = ap₂ ◌∷◌ first rest.front_is;
      last_is = rest.last_is;
    }

-- one more feed
module _ (head : FeedHead) where
  history_more : (h : History) (feeds : List (List ℕ)) (bytes : List ℕ)
      → history_after head h (feeds ++ bytes ∷ []) ≡ (feed_run head max_feed (history_after head h feeds) bytes).history
  history_more h [] bytes = refl
  history_more h (one ∷ feeds) bytes = history_more (feed_run head max_feed h one).history feeds bytes

  -- what is reported of a feed that leads so
  abbrev report_by : FeedRun → FeedReport
  report_by run = record { end = run.end; number = last_epoch head run.history }

  reports_more : (h : History) (feeds : List (List ℕ)) (bytes : List ℕ)
      → reports_of head h (feeds ++ bytes ∷ [])
      ≡ reports_of head h feeds ++ report_by (feed_run head max_feed (history_after head h feeds) bytes) ∷ []
  reports_more h [] bytes = refl
  reports_more h (one ∷ feeds) bytes =
      ap (λ (rs : List FeedReport). report_by (feed_run head max_feed h one) ∷ rs) (reports_more (feed_run head max_feed h one).history feeds bytes)

  -- a source in memory doesn't fail
  runs_whole : (mid last : History) (bytes rest : List ℕ) (end : FeedEnd) → feed_starved end ≡ false → RunsTo head max_feed mid bytes end last
      → ReadsFrom (sure_source_state bytes) (sure_source_state rest) (is_read end)
      → feed_run head max_feed mid bytes ≡ record { history = last; end = end }
  runs_whole mid last bytes rest Read no_want runs reads = absurd (omega (arith, reads.cause.1))
  runs_whole mid last bytes rest Whole no_want runs reads = runs
  runs_whole mid last bytes rest Cut no_want runs reads = runs
  runs_whole mid last bytes rest (Bad line) no_want runs reads = runs
  runs_whole mid last bytes rest (Gap line) no_want runs reads = runs
  runs_whole mid last bytes rest Long no_want runs reads = runs
  runs_whole mid last bytes rest (OutOfMemory want) no_want runs reads = absurd cc

-- Feeds of these bytes led to this history, with these reports.
pub record FeedsRun (head : FeedHead) (feeds : List (List ℕ)) (reports : List FeedReport) (last : History) : Type 0 where
  pub history : history_after head [] feeds ≡ last
  pub reports_are : reports_of head [] feeds ≡ reports

module _ (graph : Graph) (o : Origin) where
  abbrev head : FeedHead
  head = head_of graph o.first

  abbrev wants_none : TakenFeed → Type 0
  wants_none feed = feed_starved feed.report.end ≡ false

  one_run : (mid last : History) (feed : TakenFeed) (bytes rest : List ℕ) → sure_source_state bytes ≡ feed.before → sure_source_state rest ≡ feed.after
      → wants_none feed → IsTakenFeed graph o mid last feed → feed_run head max_feed mid bytes ≡ record { history = last; end = feed.report.end }
  one_run mid last feed bytes rest before after no_want taken =
      let Takes : SourceState → Type 0 = λ b. IsTakenFeed graph o mid last (record { before = b; after = feed.after; report = feed.report }) in
      let from = subst Takes (sym before) taken in
      let reads = subst (λ (a : SourceState). ReadsFrom (sure_source_state bytes) a (is_read feed.report.end)) (sym after) from.reads in
      runs_whole head mid last bytes rest feed.report.end no_want from.takes.runs reads

  all_but_last : (feeds : List TakenFeed) (feed : TakenFeed) → All wants_none (feeds ++ feed ∷ []) → All wants_none feeds × wants_none feed
  all_but_last [] feed each = (All-nil wants_none, All-head wants_none feed [] each)
  all_but_last (one ∷ feeds) feed each =
      let rest = all_but_last feeds feed (All-tail wants_none one (feeds ++ feed ∷ []) each) in
      (All-cons wants_none one feeds (All-head wants_none one (feeds ++ feed ∷ []) each) rest.0, rest.1)

  feeds_led : {taken : List TakenFeed} {last : History} → FeedsLead graph o taken last → (feeds rests : List (List ℕ))
      → map sure_source_state feeds ≡ map (λ feed. feed.before) taken → map sure_source_state rests ≡ map (λ feed. feed.after) taken
      → All wants_none taken → FeedsRun head feeds (map (λ feed. feed.report) taken) last
  feeds_led untaken [] rests before after no_want = record { history = refl; reports_are = refl }
  feeds_led untaken (bytes ∷ feeds) rests before after no_want = absurd cc
  feeds_led (then {feeds = taken} {mid} {last} feed lead one) feeds rests before after no_want =
      let each = all_but_last taken feed no_want in
      let came = ends_with sure_source_state feeds (map (λ f. f.before) taken) feed.before (before ∙ map-append (λ f. f.before) taken (feed ∷ [])) in
      let left = ends_with sure_source_state rests (map (λ f. f.after) taken) feed.after (after ∙ map-append (λ f. f.after) taken (feed ∷ [])) in
      let so_far = feeds_led lead came.front left.front came.front_is left.front_is each.0 in
      let run = one_run mid last feed came.last left.last came.last_is left.last_is each.1 one in
      let from : feed_run head max_feed (history_after head [] came.front) came.last ≡ record { history = last; end = feed.report.end } =
      ap (λ (h : History). feed_run head max_feed h came.last) so_far.history ∙ run in
      let report : report_by head (feed_run head max_feed (history_after head [] came.front) came.last) ≡ feed.report =
      ap (report_by head) from ∙ ap (λ (n : ℕ). record { end = feed.report.end; number = n }) (sym one.number) in record {
        history = ap (history_after head []) came.parts ∙ history_more head [] came.front came.last ∙ ap (λ (r : FeedRun). r.history) from;
        reports_are = ap (reports_of head []) came.parts ∙ reports_more head [] came.front came.last
            ∙ ap₂ (λ (rs : List FeedReport) (r : FeedReport). rs ++ r ∷ []) so_far.reports_are report ∙ sym (map-append (λ f. f.report) taken (feed ∷ []));
      }

  -- all feeds that were taken from memory
  pub feeds_run : (feeds rests : List (List ℕ)) (reports : List FeedReport) (last : History)
      → TakesFeeds graph o (map sure_source_state feeds) (map sure_source_state rests) reports last → All (λ r. feed_starved r.end ≡ false) reports
      → FeedsRun (head_of graph o.first) feeds reports last
  feeds_run feeds rests reports last takes no_want =
      let Wantless : FeedReport → Type 0 = λ r. feed_starved r.end ≡ false in
      let each = all_of_map Wantless (λ (f : TakenFeed). f.report) takes.feeds (subst (All Wantless) takes.reported no_want) in
      let run = feeds_led takes.lead feeds rests takes.sources_before takes.sources_after each in
      record { history = run.history; reports_are = run.reports_are ∙ sym takes.reported }
