-- What is replied to a query over a network, at the epoch of a number.
use Rattle.std.specs.Prelude.{◌≡◌, ℕ, List, ◌⊎◌}
use Rattle.road_network.specs.Network.{Network}
use Rattle.road_network.specs.Answers.{IsAnswer, Route}
use Rattle.road_network.specs.Queries.{HaveNodes, IsTooLarge, limit_of}
use Rattle.road_network.specs.declared.query.AnswerKind.{AnswerKind}
use Rattle.road_network.specs.declared.query.Query.{Query}
use Rattle.goal_laws.specs.Goal.{IsTooLargeToward}
use Rattle.answer_writer.specs.Replies.{node_refusal, budget_refusal, reply_of}
use Rattle.session_core.specs.declared.mode.SearchMode.{SearchMode}
use Rattle.session_core.specs.declared.mode.SearchMode.TheVariants.{Plain, Goal}
use Rattle.session_core.specs.declared.reply.Reply.{Reply}
use Rattle.session_core.specs.declared.reply.Reply.TheVariants.{Answer, Refusal}

-- the query has more pairs than its budget allows: relevant ones, or goal-relevant ones where it is directed to its target
abbrev pub IsTooLargeIn : SearchMode → Network → Query → Type 0
IsTooLargeIn Plain net query = IsTooLarge net query
IsTooLargeIn Goal net query = IsTooLargeToward net query

-- The reply is the answer: all best costs of the target within the limit, alone or each with its backward-least walk. The
-- query is within its budget.
pub record HasAnswer (net : Network) (mode : SearchMode) (epoch : ℕ) (kind : AnswerKind) (query : Query) (text : List ℕ) : Type 0 where
  pub nodes : HaveNodes net query
  pub within : ¬ IsTooLargeIn mode net query
  pub routes : List Route
  pub answer : IsAnswer net query.from query.to (limit_of net.criteria query) routes
  pub reply : text ≡ reply_of kind epoch query routes

-- The reply says that an end isn't a node.
pub record LacksNode (net : Network) (epoch : ℕ) (query : Query) (text : List ℕ) : Type 0 where
  pub no_nodes : ¬ HaveNodes net query
  pub reply : text ≡ node_refusal epoch query.from query.to

-- The reply says that the query passes its budget.
pub record PassesBudget (net : Network) (mode : SearchMode) (epoch : ℕ) (query : Query) (text : List ℕ) : Type 0 where
  pub nodes : HaveNodes net query
  pub passes : IsTooLargeIn mode net query
  pub reply : text ≡ budget_refusal epoch query.from query.to

-- the reply to the query, which is an answer or a refusal
abbrev pub RepliesToQuery : Network → SearchMode → ℕ → AnswerKind → Query → Reply → List ℕ → Type 0
RepliesToQuery net mode epoch kind query Answer text = HasAnswer net mode epoch kind query text
RepliesToQuery net mode epoch kind query Refusal text = LacksNode net epoch query text ⊎ PassesBudget net mode epoch query text
