-- How replies of a directed search stand to those of a plain one.
use Rattle.std.proofs.Common.{◌≡◌, ◌∙◌, ℕ, List, ap, inl, inr, sym}
use Rattle.road_network.specs.Network.{Network, IsNetwork}
use Rattle.road_network.specs.Queries.{limit_of}
use Rattle.road_network.specs.declared.query.AnswerKind.{AnswerKind}
use Rattle.road_network.specs.declared.query.Query.{Query}
use Rattle.road_network.proofs.AnswerLaws.{one_answer}
use Rattle.goal_laws.proofs.GoalLaws.{passes_by_goal}
use Rattle.answer_writer.specs.Replies.{reply_of}
use Rattle.session_core.specs.Queries.{RepliesToQuery}
use Rattle.session_core.specs.declared.mode.SearchMode.TheVariants.{Plain, Goal}
use Rattle.session_core.specs.declared.reply.Reply.{Reply}
use Rattle.session_core.specs.declared.reply.Reply.TheVariants.{Answer, Refusal}

module _ (net : Network) (epoch : ℕ) (kind : AnswerKind) (query : Query) where
  module _ (is : IsNetwork net) (text : List ℕ) where
    -- where a plain search answers, so does a directed one
    pub goal_answers : RepliesToQuery net Plain epoch kind query Answer text → RepliesToQuery net Goal epoch kind query Answer text
    goal_answers plain = record {
      nodes = plain.nodes;
      within = λ large. plain.within (passes_by_goal net is query.from query.to (limit_of net.criteria query) query.budget large);
      routes = plain.routes;
      answer = plain.answer;
      reply = plain.reply;
    }

    -- what a directed search refuses, a plain one does too
    pub goal_refuses : RepliesToQuery net Goal epoch kind query Refusal text → RepliesToQuery net Plain epoch kind query Refusal text
    goal_refuses (inl lacks) = inl lacks
    goal_refuses (inr large) = inr (record {
      nodes = large.nodes;
      passes = passes_by_goal net is query.from query.to (limit_of net.criteria query) query.budget large.passes;
      reply = large.reply;
    })

  -- where both answer, they say the same
  pub goal_alike : (text other : List ℕ) → RepliesToQuery net Plain epoch kind query Answer text → RepliesToQuery net Goal epoch kind query Answer other
      → text ≡ other
  goal_alike text other plain directed =
      let same = one_answer net query.from query.to (limit_of net.criteria query) plain.routes directed.routes plain.answer directed.answer in
      plain.reply ∙ ap (λ routes. reply_of kind epoch query routes) same ∙ sym directed.reply

  -- so each reply of a directed search is the answer of a plain one, where that answers
  pub goal_says_the_same : (is : IsNetwork net) (text other : List ℕ) → RepliesToQuery net Plain epoch kind query Answer text → (reply : Reply)
      → RepliesToQuery net Goal epoch kind query reply other → text ≡ other
  goal_says_the_same is text other plain Answer directed = goal_alike text other plain directed
  goal_says_the_same is text other plain Refusal (inl lacks) = absurd (lacks.no_nodes plain.nodes)
  goal_says_the_same is text other plain Refusal (inr large) =
      absurd (plain.within (passes_by_goal net is query.from query.to (limit_of net.criteria query) query.budget large.passes))
