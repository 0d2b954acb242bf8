-- What a follower's run comes to by the feeds of one leader.
use Rattle.std.proofs.Common.{◌≡◌, ℕ, List, [], ◌∷◌, ◌++◌, Option, Some, inl, inr, length, map, refl, sym, subst, arith}
use Rattle.std.specs.Prelude.{All, Contains, IfSome}
use Rattle.std.proofs.lemmas.List.Elements.{Contains-append_left, Contains-append_right}
use mathlib.Core.List.{IsPrefix}
use Rattle.list_laws.proofs.Members.{cases_push, each_in, in_first, in_map, in_none}
use Rattle.arc_graph.specs.Graph.{Graph, IsGraph, Weights}
use Rattle.arc_graph.specs.History.{History, IsPublished}
use Rattle.epoch_follow.specs.Followers.{ComesWhole, Delivery}
use Rattle.epoch_follow.specs.Takes.{TakesFeed}
use Rattle.epoch_follow.specs.Text.{FeedHead, feed_text, head_of}
use Rattle.epoch_follow.proofs.FollowLemmas.{feed_arrives, feed_keeps}
use Rattle.epoch_follow.proofs.WrittenLemmas.{IsHead}
use Rattle.epoch_store.specs.Origin.{Origin}
use Rattle.route_io.specs.Sources.{SourceState}
use Rattle.link_doors.specs.Links.{LinkState}
use Rattle.route_lanes.specs.Followed.{BringFeedsOf, BringsFeed, CameWhole, ReportsSets}
use Rattle.route_lanes.specs.Following.{FeedsLead, FollowReport, IsTakenFeed, RunsFollow, TakenFeed, max_feed, then, untaken}
use Rattle.session_core.specs.declared.context.LinkPolicy.{LinkPolicy}

module _ (g : Graph) (o : Origin) (leader : History) (graph : IsGraph g) (published : IsPublished (length g.ends) g.criteria o.first leader) where
  abbrev head : FeedHead
  head = head_of g o.first

  is : IsHead head
  is = record { arcs = omega (arith, graph.arcs); criteria = graph.four; first = omega (arith, published.number) }

  -- each of these feeds is one of the leader's
  abbrev AllBring : List TakenFeed → Type 0
  AllBring feeds = (feed : TakenFeed) → Contains feeds feed → BringsFeed head leader feed.before

  others_bring : (feeds : List TakenFeed) (last : TakenFeed) → AllBring (feeds ++ last ∷ []) → AllBring feeds
  others_bring feeds last bring feed there = bring feed (Contains-append_left feeds (last ∷ []) feed there)

  last_brings : (feeds : List TakenFeed) (last : TakenFeed) → AllBring (feeds ++ last ∷ []) → BringsFeed head leader last.before
  last_brings feeds last bring = bring last (Contains-append_right feeds (last ∷ []) last (in_first last []))

  -- what was taken of a source that tells its bytes
  taken_of : (mid new : History) (feed : TakenFeed) (bytes : List ℕ) → feed.before.left ≡ Some bytes → IsTakenFeed g o mid new feed
      → TakesFeed head max_feed mid bytes feed.after.left feed.report.end new
  taken_of mid new feed bytes tells taken =
      subst (λ (left : Option (List ℕ)). IfSome left (λ bytes. TakesFeed head max_feed mid bytes feed.after.left feed.report.end new)) tells taken.takes

  -- the follower keeps to its leader
  pub lead_keeps : {feeds : List TakenFeed} {last : History} → AllBring feeds → FeedsLead g o feeds last → IsPrefix last leader
  lead_keeps bring untaken = (leader, refl)
  lead_keeps bring (then {feeds} {mid} {last} feed lead taken) =
      let brings = last_brings feeds feed bring in
      let from = brings.comes in
      feed_keeps head leader is published from.from from.to from.counted from.ordered from.there max_feed mid last brings.bytes feed.after.left feed.report.end from.front
      (lead_keeps (others_bring feeds feed bring) lead) (taken_of mid last feed brings.bytes brings.tells taken)

  -- a feed that came whole brought it up
  brought_up : (j : ℕ) (feed : TakenFeed) (mid new : History) → IsPrefix mid leader → IsTakenFeed g o mid new feed → CameWhole head leader j feed
      → ReportsSets o.first j feed.report
  brought_up j feed mid new begins taken whole =
      let text = feed_text head leader 1 j in
      let d : Delivery = record { bytes = text; after = feed.after.left; total = max_feed; end = feed.report.end } in
      let comes : ComesWhole head leader j d =
      record { there = whole.there; whole = refl; remembered = whole.remembered; read = whole.read; short = whole.short } in
      let caught = feed_arrives head leader is published j d mid new comes begins (taken_of mid new feed text whole.whole taken) in
      record { end = caught.end; number = omega (arith, taken.number, caught.sets) }

  -- each feed that came whole has
  pub lead_catches_up : {feeds : List TakenFeed} {last : History} (j : ℕ) (feed : TakenFeed) → AllBring feeds → FeedsLead g o feeds last
      → Contains feeds feed → CameWhole head leader j feed → ReportsSets o.first j feed.report
  lead_catches_up j feed bring untaken there whole = absurd (in_none feed there)
  lead_catches_up j feed bring (then {feeds} {mid} {last} one lead taken) there whole =
      elim (cases_push feeds one feed there) [
        | inl before ↦ lead_catches_up j feed (others_bring feeds one bring) lead before whole
        | inr same ↦
            subst (λ (x : TakenFeed). ReportsSets o.first j x.report) (sym same)
            (brought_up j one mid last (lead_keeps (others_bring feeds one bring) lead) taken (subst (CameWhole head leader j) same whole))
      ]

module _ (g : Graph) (weights : Weights) (first budget : ℕ) (policy : LinkPolicy) (feeds feeds_after : List SourceState) (before after : List LinkState)
    (report : FollowReport) (leader : History) (run : RunsFollow g weights first budget policy feeds feeds_after before after report)
    (bring : BringFeedsOf g first leader feeds) where
  abbrev taken : List TakenFeed
  taken = run.feeds_taken.feeds

  -- the leader has the number of the run's store
  led : IsPublished (length g.ends) g.criteria run.origin.first leader
  led = subst (λ (n : ℕ). IsPublished (length g.ends) g.criteria n leader) (sym run.first_is) bring.published

  each_brings : AllBring g run.origin leader bring.graph led taken
  each_brings = λ feed there.
      let sources = map (λ (f : TakenFeed). f.before) taken in
      let all = subst (All (BringsFeed (head_of g first) leader)) run.feeds_taken.sources_before bring.each in
      let one = each_in (BringsFeed (head_of g first) leader) sources all feed.before (in_map (λ (f : TakenFeed). f.before) taken feed there) in
      subst (λ (n : ℕ). BringsFeed (head_of g n) leader feed.before) (sym run.first_is) one

  pub run_keeps : IsPrefix run.last leader
  run_keeps = lead_keeps g run.origin leader bring.graph led each_brings run.feeds_taken.lead

  pub run_catches_up : (j : ℕ) (feed : TakenFeed) → Contains taken feed → CameWhole (head_of g first) leader j feed → ReportsSets first j feed.report
  run_catches_up j feed there whole =
      let whole_of_run = subst (λ (n : ℕ). CameWhole (head_of g n) leader j feed) (sym run.first_is) whole in
      subst (λ (n : ℕ). ReportsSets n j feed.report) run.first_is
      (lead_catches_up g run.origin leader bring.graph led j feed each_brings run.feeds_taken.lead there whole_of_run)
