-- A session's lines with their replies stay a run where more is published.
use Rattle.std.proofs.Common.{◌≡◌, ℕ, ◌-◌, ◌≤◌, ◌<◌, inl, inr, true, List, Option, Some, None, length, refl, ap, sym, subst, ◌∙◌, arith}
use Rattle.std.proofs.lemmas.List.{length-append}
use Rattle.std.proofs.lemmas.List.Elements.{All-weaker}
use mathlib.Core.List.{IsPrefix}
use Rattle.list_laws.proofs.Members.{all_from_in, each_in, in_filter_map}
use Rattle.road_network.specs.Network.{Network}
use Rattle.arc_graph.specs.Graph.{network}
use Rattle.arc_graph.specs.History.{History, ends_closed, epoch_after, sets, sets_of, IsHistory}
use Rattle.arc_graph.proofs.HistoryLemmas.{epoch_earlier, sets_of_both}
use Rattle.road_network.specs.declared.query.AnswerKind.{AnswerKind}
use Rattle.road_network.specs.declared.query.Query.{Query}
use Rattle.session_core.specs.declared.mode.SearchMode.{SearchMode}
use Rattle.session_core.specs.Queries.{RepliesToQuery}
use Rattle.epoch_store.specs.Origin.{Origin, arcs_of, criteria_of, last_number}
use Rattle.epoch_store.proofs.ClosedLemmas.{no_further}
use Rattle.epoch_store.proofs.PrefixLemmas.{prefix_trans}
use Rattle.session_requests.specs.declared.line.Line.{Line}
use Rattle.session_requests.specs.declared.line.Line.TheVariants as line
use Rattle.session_requests.specs.declared.session.SessionRequest.{SessionRequest}
use Rattle.session_requests.specs.declared.session.SessionRequest.TheVariants as asks
use Rattle.session_core.specs.Exchanges.{Exchange, numbers_named}
use Rattle.session_core.specs.Sessions.{EndsWait, IsReplied, RepliesAt, RepliesTo, RepliesToLine, Scene, SessionRun, closed_reply, network_at}

-- a longer history has at least as many sets
sets_grow : (h g : History) → IsPrefix h g → sets h ≤ sets g
sets_grow h g begins =
    let both = ap length (sets_of_both h begins.0) in
    subst (λ (later : History). sets h ≤ sets later) begins.1 (omega (arith, both, length-append (sets_of h) (sets_of begins.0)))

-- the number of the last epoch doesn't fall
pub last_grows : (o : Origin) (h g : History) → IsPrefix h g → last_number o h ≤ last_number o g
last_grows o h g begins = let more = sets_grow h g begins in omega arith

-- the network of an epoch stays
network_stays : (scene : Scene) (h g : History) (k : ℕ) → IsPrefix h g → k ≤ last_number scene.origin h → network_at scene h k ≡ network_at scene g k
network_stays scene h g k begins upto =
    let same = epoch_earlier scene.origin.base h begins.0 (k - scene.origin.first) (omega arith) in
    let grown = ap (λ (later : History). epoch_after scene.origin.base later (k - scene.origin.first)) begins.1 in
    ap (network scene.graph) (sym same ∙ grown)

reply_at_stays : (scene : Scene) (h g : History) (k : ℕ) (mode : SearchMode) (kind : AnswerKind) (s t : ℕ) (limit : Option (List (Option ℕ))) (text : List ℕ)
    → IsPrefix h g → k ≤ last_number scene.origin h → RepliesAt scene h k mode kind s t limit text → RepliesAt scene g k mode kind s t limit text
reply_at_stays scene h g k mode kind s t limit text begins upto is =
    let query : Query = record { from = s; to = t; limit = limit; budget = scene.budget } in
    (is.0, subst (λ (net : Network). RepliesToQuery net mode k kind query is.0 text) (network_stays scene h g k begins upto) is.1)

-- a wait that ended closed has seen the whole history
wait_stays : (scene : Scene) (h g : History) (k e : ℕ) (text : List ℕ) → IsPrefix h g → IsHistory (arcs_of scene.origin) (criteria_of scene.origin) g
    → EndsWait scene h k e text → EndsWait scene g k e text
wait_stays scene h g k e text begins allowed (inl there) = inl there
wait_stays scene h g k e text begins allowed (inr ended) =
    let o = scene.origin in
    let same = no_further (arcs_of o) (criteria_of o) h g ended.2 begins allowed in
    inr (subst (λ (l : History). (k < e) × (text ≡ closed_reply k) × (ends_closed l ≡ true) × (k ≡ last_number o l)) (sym same) ended)

reply_stays : (scene : Scene) (h g : History) (k : ℕ) (r : SessionRequest) (text : List ℕ) → IsPrefix h g → IsHistory (arcs_of scene.origin) (criteria_of scene.origin) g
    → k ≤ last_number scene.origin h → RepliesTo scene h k r text → RepliesTo scene g k r text
reply_stays scene h g k (asks.Costs s t) text begins allowed upto is = reply_at_stays scene h g k _ _ s t _ text begins upto is
reply_stays scene h g k (asks.Walks s t) text begins allowed upto is = reply_at_stays scene h g k _ _ s t _ text begins upto is
reply_stays scene h g k (asks.Within s t limit) text begins allowed upto is = reply_at_stays scene h g k _ _ s t _ text begins upto is
reply_stays scene h g k (asks.Goal s t) text begins allowed upto is = reply_at_stays scene h g k _ _ s t _ text begins upto is
reply_stays scene h g k (asks.GoalWithin s t limit) text begins allowed upto is = reply_at_stays scene h g k _ _ s t _ text begins upto is
reply_stays scene h g k (asks.Wait e) text begins allowed upto is = wait_stays scene h g k e text begins allowed is
reply_stays scene h g k asks.Epoch text begins allowed upto is = is
reply_stays scene h g k asks.Bye text begins allowed upto is = is

line_stays : (scene : Scene) (h g : History) (what : Line SessionRequest) (named : Option ℕ) (text : List ℕ) → IsPrefix h g
    → IsHistory (arcs_of scene.origin) (criteria_of scene.origin) g → ((k : ℕ) → named ≡ Some k → k ≤ last_number scene.origin h)
    → RepliesToLine scene h what named text → RepliesToLine scene g what named text
line_stays scene h g line.Blank named text begins allowed upto is = is
line_stays scene h g line.Other named text begins allowed upto is = is
line_stays scene h g (line.Request r) (Some k) text begins allowed upto is = reply_stays scene h g k r text begins allowed (upto k refl) is
line_stays scene h g (line.Request r) None text begins allowed upto is = is

-- a reply of a line is as true of a longer history
exchange_stays : (scene : Scene) (h g : History) (t : Exchange) → IsPrefix h g → IsHistory (arcs_of scene.origin) (criteria_of scene.origin) g
    → ((k : ℕ) → t.named ≡ Some k → k ≤ last_number scene.origin h) → IsReplied scene h t → IsReplied scene g t
exchange_stays scene h g t begins allowed upto is = record {
  what = is.what;
  is = is.is;
  replied = line_stays scene h g is.what t.named t.reply begins allowed upto is.replied;
}

-- lines with their replies stay a run where less was seen before and more afterwards
pub run_stays : (scene : Scene) (g0 h0 h1 g1 : History) (exchanges : List Exchange) → SessionRun scene h0 h1 exchanges → IsPrefix g0 h0 → IsPrefix h1 g1
    → IsHistory (arcs_of scene.origin) (criteria_of scene.origin) g1 → SessionRun scene g0 g1 exchanges
run_stays scene g0 h0 h1 g1 exchanges run before after allowed =
    let less = last_grows scene.origin g0 h0 before in
    let more = last_grows scene.origin h1 g1 after in record {
      begins = prefix_trans g0 h0 g1 before (prefix_trans h0 h1 g1 run.begins after);
      each = all_from_in (IsReplied scene g1) exchanges (λ t there.
          exchange_stays scene h1 g1 t after allowed
          (λ k named.
          let in_all = in_filter_map (λ (u : Exchange). u.named) exchanges t k there named in
          each_in (λ n. n ≤ last_number scene.origin h1) (numbers_named exchanges) run.below k in_all)
          (each_in (IsReplied scene h1) exchanges run.each t there));
      ascending = run.ascending;
      above = All-weaker (λ n. last_number scene.origin h0 ≤ n) (λ n. last_number scene.origin g0 ≤ n) (λ n above. omega arith) (numbers_named exchanges) run.above;
      below = All-weaker (λ n. n ≤ last_number scene.origin h1) (λ n. n ≤ last_number scene.origin g1) (λ n below. omega arith) (numbers_named exchanges) run.below;
    }
