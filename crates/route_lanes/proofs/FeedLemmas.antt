-- Feeds that are taken one after another.
use Rattle.std.proofs.Common.{◌≡◌, ℕ, ◌+◌, ◌<◌, ◌≤◌, List, [], ◌∷◌, ◌++◌, length, map, take, drop, set, get_or, append-nil, append_assoc, refl, ap, ap₂, sym, ◌∙◌, arith}
use Rattle.std.proofs.lemmas.Grind.{common_steps}
use Rattle.std.proofs.lemmas.List.{drop_all, drop_more, length-append, map-append, set_at, take_all, take_more}
use Rattle.arc_graph.specs.Graph.{Graph}
use Rattle.arc_graph.specs.History.{History}
use Rattle.epoch_store.specs.Origin.{Origin}
use Rattle.route_io.specs.Sources.{SourceState}
use Rattle.route_lanes.specs.Following.{IsTakenFeed, TakenFeed, TakesFeeds, then, untaken}
use Rattle.route_lanes.specs.Taken.{TakesFirst}
use Rattle.route_lanes.specs.declared.feed_lane.FeedReport.{FeedReport}

-- the next of a list whose front is done
pub next_undone : {X : Type 0} (done before now : List X) (k : ℕ) (d : X) → length done ≡ k → k < length before
    → now ≡ done ++ drop k before → get_or now k d ≡ get_or before k d
next_undone done before now k d count within is = grind (arith, common_steps)

-- one more is done
pub one_more_done : {X : Type 0} (done before now : List X) (k : ℕ) (x : X) → length done ≡ k → k < length before
    → now ≡ done ++ drop k before → set now k x ≡ (done ++ x ∷ []) ++ drop (k + 1) before
one_more_done done before now k x count within is =
    let parts : now ≡ done ++ get_or before k x ∷ drop (k + 1) before = is ∙ ap (λ l. done ++ l) (drop_more before k x within) in
    ap (λ l. set l k x) parts ∙ set_at done _ _ x k count ∙ sym (append_assoc done (x ∷ []) (drop (k + 1) before))

module _ {F : Type 0} (show : F → SourceState) (graph : Graph) (o : Origin) where
  -- no feed was taken yet
  pub takes_none : (before : List F) (reports : List FeedReport) → reports ≡ [] → TakesFirst show graph o 0 before before reports []
  takes_none before reports none = record {
    done = [];
    takes = record { feeds = []; sources_before = refl; sources_after = refl; reported = none; lead = untaken };
    count_is = refl;
    now_is = refl;
  }

  -- one more feed was taken
  pub takes_more : (k : ℕ) (before now : List F) (reports : List FeedReport) (mid last : History) (was after d : F) (report : FeedReport)
      → k < length before → TakesFirst show graph o k before now reports mid → was ≡ get_or now k d
      → IsTakenFeed graph o mid last (record { before = show was; after = show after; report = report })
      → TakesFirst show graph o (k + 1) before (set now k after) (reports ++ report ∷ []) last
  takes_more k before now reports mid last was after d report within so_far is taken =
      let feed : TakenFeed = record { before = show was; after = show after; report = report } in
      let feeds = so_far.takes.feeds in
      let first = is ∙ next_undone so_far.done before now k d so_far.count_is within so_far.now_is in
      let front = ap (map show) (take_more before k d within) ∙ map-append show (take k before) (get_or before k d ∷ []) in record {
        done = so_far.done ++ after ∷ [];
        takes = record {
          feeds = feeds ++ feed ∷ [];
          sources_before = front ∙ ap₂ (λ (xs : List SourceState) (x : SourceState). xs ++ x ∷ []) so_far.takes.sources_before (ap show (sym first))
              ∙ sym (map-append (λ (f : TakenFeed). f.before) feeds (feed ∷ []));
          sources_after = map-append show so_far.done (after ∷ []) ∙ ap (λ (xs : List SourceState). xs ++ show after ∷ []) so_far.takes.sources_after
              ∙ sym (map-append (λ (f : TakenFeed). f.after) feeds (feed ∷ []));
          reported = ap (λ (rs : List FeedReport). rs ++ report ∷ []) so_far.takes.reported ∙ sym (map-append (λ (f : TakenFeed). f.report) feeds (feed ∷ []));
          lead = then feed so_far.takes.lead taken;
        };
        count_is = length-append so_far.done (after ∷ []) ∙ ap (λ (n : ℕ). n + 1) so_far.count_is;
        now_is = one_more_done so_far.done before now k after so_far.count_is within so_far.now_is;
      }

  -- all feeds were taken
  pub takes_all : (k : ℕ) (before now : List F) (reports : List FeedReport) (last : History) → length before ≤ k
      → TakesFirst show graph o k before now reports last → TakesFeeds graph o (map show before) (map show now) reports last
  takes_all k before now reports last past so_far = record {
    feeds = so_far.takes.feeds;
    sources_before = ap (map show) (sym (take_all k before past)) ∙ so_far.takes.sources_before;
    sources_after = ap (map show) (so_far.now_is ∙ ap (λ (xs : List F). so_far.done ++ xs) (drop_all k before past) ∙ append-nil so_far.done)
        ∙ so_far.takes.sources_after;
    reported = so_far.takes.reported;
    lead = so_far.takes.lead;
  }
