-- What a session is replied, over the history that it comes to see.
use Rattle.std.specs.Prelude.{◌≡◌, ℕ, ◌<◌, ◌≤◌, ◌-◌, ◌⊎◌, true, List, [], ◌++◌, Option, Some, None, All, AllPairs, codes}
use mathlib.Core.List.{IsPrefix}
use Rattle.road_network.specs.Network.{Network}
use Rattle.arc_graph.specs.Graph.{Graph, network}
use Rattle.arc_graph.specs.History.{History, ends_closed, epoch_after}
use Rattle.answer_writer.specs.Replies.{and_number, end_line}
use Rattle.road_network.specs.declared.query.AnswerKind.{AnswerKind}
use Rattle.road_network.specs.declared.query.AnswerKind.TheVariants.{Costs, Walks}
use Rattle.session_core.specs.Queries.{RepliesToQuery}
use Rattle.session_core.specs.declared.mode.SearchMode.{SearchMode}
use Rattle.session_core.specs.declared.mode.SearchMode.TheVariants as mode
use Rattle.session_core.specs.declared.reply.Reply.{Reply}
use Rattle.epoch_store.specs.Origin.{Origin, last_number}
use Rattle.session_requests.specs.Requests.{AsksOfSession}
use Rattle.session_requests.specs.declared.line.Line.{Line}
use Rattle.session_requests.specs.declared.line.Line.TheVariants as line
use Rattle.session_requests.specs.declared.session.SessionRequest.{SessionRequest}
use Rattle.session_requests.specs.declared.session.SessionRequest.TheVariants as asks
use Rattle.session_core.specs.Lines.{IsLine}
use Rattle.session_core.specs.Exchanges.{Exchange, numbers_named}

-- what a session stands over: the graph, the store whose epochs it asks of, and the budget of each query
pub record Scene : Type 0 where
  pub graph : Graph
  pub origin : Origin
  pub budget : ℕ

-- the network at the epoch of a number, where this is the history
abbrev pub network_at : Scene → History → ℕ → Network
network_at scene h k = network scene.graph (epoch_after scene.origin.base h (k - scene.origin.first))

-- `k K`, the number of an epoch
abbrev pub epoch_reply : ℕ → List ℕ
epoch_reply k = codes "k" ++ and_number k ++ end_line

-- `x K closed`: no epoch comes after that of number K
abbrev pub closed_reply : ℕ → List ℕ
closed_reply k = codes "x" ++ and_number k ++ codes " closed" ++ end_line

-- `x line`: the line is no request
abbrev pub line_refusal : List ℕ
line_refusal = codes "x line" ++ end_line

-- the reply to a query is its answer or its refusal, at the epoch of number k
abbrev pub RepliesAt : Scene → History → ℕ → SearchMode → AnswerKind → ℕ → ℕ → Option (List (Option ℕ)) → List ℕ → Type 0
RepliesAt scene h k mode kind s t limit text =
    (reply : Reply) × RepliesToQuery (network_at scene h k) mode k kind
    (record { from = s; to = t; limit = limit; budget = scene.budget }) reply text

-- the reply to a wait for an epoch of at least the number e: there is one, or there never will be, since k is the last
abbrev pub EndsWait : Scene → History → ℕ → ℕ → List ℕ → Type 0
EndsWait scene h k e text =
    ((e ≤ k) × (text ≡ epoch_reply k))
    ⊎ ((k < e) × (text ≡ closed_reply k) × (ends_closed h ≡ true) × (k ≡ last_number scene.origin h))

-- the reply to a request, which names the epoch of number k; to the one that ends the session there is none
abbrev pub RepliesTo : Scene → History → ℕ → SessionRequest → List ℕ → Type 0
RepliesTo scene h k (asks.Costs s t) text = RepliesAt scene h k mode.Plain Costs s t None text
RepliesTo scene h k (asks.Walks s t) text = RepliesAt scene h k mode.Plain Walks s t None text
RepliesTo scene h k (asks.Within s t limit) text = RepliesAt scene h k mode.Plain Walks s t (Some limit) text
RepliesTo scene h k (asks.Goal s t) text = RepliesAt scene h k mode.Goal Walks s t None text
RepliesTo scene h k (asks.GoalWithin s t limit) text = RepliesAt scene h k mode.Goal Walks s t (Some limit) text
RepliesTo scene h k (asks.Wait e) text = EndsWait scene h k e text
RepliesTo scene h k asks.Epoch text = text ≡ epoch_reply k
RepliesTo scene h k asks.Bye text = ⊥

-- the reply to a line, and the number of the epoch that it names
abbrev pub RepliesToLine : Scene → History → Line SessionRequest → Option ℕ → List ℕ → Type 0
RepliesToLine scene h line.Blank named text = (named ≡ None) × (text ≡ [])
RepliesToLine scene h line.Other named text = (named ≡ None) × (text ≡ line_refusal)
RepliesToLine scene h (line.Request r) (Some k) text = RepliesTo scene h k r text
RepliesToLine scene h (line.Request r) None text = ⊥

-- A line of a session has its reply.
pub record IsReplied (scene : Scene) (h : History) (t : Exchange) : Type 0 where
  pub what : Line SessionRequest
  pub is : IsLine (AsksOfSession scene.graph.criteria) t.line what
  pub replied : RepliesToLine scene h what t.named t.reply

-- a line ends a session
abbrev pub IsSessionBye : Scene → List ℕ → Type 0
IsSessionBye scene raw = IsLine (AsksOfSession scene.graph.criteria) raw (line.Request asks.Bye)

-- Lines of a session with their replies, where it had seen the history h0 before and h1 afterwards. Each reply is true of
-- the epoch that it names; these are published ones, and never go back.
pub record SessionRun (scene : Scene) (h0 h1 : History) (exchanges : List Exchange) : Type 0 where
  pub begins : IsPrefix h0 h1
  pub each : All (IsReplied scene h1) exchanges
  pub ascending : AllPairs ◌≤◌ (numbers_named exchanges)
  pub above : All (λ k. last_number scene.origin h0 ≤ k) (numbers_named exchanges)
  pub below : All (λ k. k ≤ last_number scene.origin h1) (numbers_named exchanges)

-- a session: the history that it has seen, and the numbers of the epochs that its replies named
pub record Session : Type 0 where
  pub seen : History
  pub named : List ℕ

-- Lines with their replies lead a session on: the numbers that they name are added to the others.
pub record SessionGoes (scene : Scene) (old : Session) (exchanges : List Exchange) (new : Session) : Type 0 where
  pub run : SessionRun scene old.seen new.seen exchanges
  pub named : new.named ≡ old.named ++ numbers_named exchanges
