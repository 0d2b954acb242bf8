-- The runs of single queries.
use Rattle.std.proofs.Common.{◌≡◌, ◌≤◌, ℕ, List, None, Ok, Err, length, refl, subst, sym}
use Rattle.std.proofs.lemmas.List.{length-replicate}
use Rattle.road_network.specs.Limits.{max_budget}
use Rattle.road_network.specs.Queries.{HaveNodes, IsAsked, IsQuery, limit_or_none}
use Rattle.road_network.specs.Network.{Network}
use Rattle.route_io.specs.Sinks.{SinkState}
use Rattle.road_network.specs.declared.query.AnswerKind.{AnswerKind}
use Rattle.road_network.specs.declared.query.Query.{Query}
use Rattle.session_core.specs.declared.reply.Reply.{Reply}
use Rattle.session_core.specs.declared.reply.Reply.TheVariants.{Answer, Refusal}
use Rattle.session_core.specs.declared.fault.ReplyFault.{ReplyFault}
use Rattle.session_core.specs.declared.fault.ReplyFault.TheVariants as fault
use Rattle.session_core.specs.Queries.{RepliesToQuery}
use Rattle.session_core.specs.declared.mode.SearchMode.{SearchMode}
use Rattle.session_core.specs.Sending.{Replied, SendsReply}
use Rattle.still_commands.specs.declared.stop.Stop.TheVariants as stop
use Rattle.still_commands.specs.Queries.{QueryReplies}
use Rattle.still_commands.specs.Stops.{Replies, outcome_of, reply_outcome, stop_at}
use Rattle.still_commands.proofs.RunsLemmas.{replies_so, sent_part, sent_reply, starves}

module _ (mode : SearchMode) (kind : AnswerKind) (query : Query) (net : Network) (out replied : SinkState) where
  -- a reply to the query ends its run
  ends_so : (reply : Reply) (text : List ℕ) → RepliesToQuery net mode 0 kind query reply text → QueryReplies mode kind query net (reply_outcome reply) text
  ends_so Answer text answers = answers
  ends_so Refusal text refuses = refuses

  -- the reply was sent whole
  pub replied_whole : (reply : Reply) → SendsReply (RepliesToQuery net mode 0 kind query) out replied reply (Ok tt)
      → Replies (QueryReplies mode kind query net) out replied (reply_outcome reply)
  replied_whole reply sends = replies_so (QueryReplies mode kind query net) (reply_outcome reply) sends.text out replied (reply_outcome reply)
      (ends_so reply sends.text sends.is) (sent_reply reply sends.text out replied sends.sent)

  -- it wasn't
  pub replied_in_part : (why : ReplyFault) → Replied (RepliesToQuery net mode 0 kind query) out replied (Err why)
      → Replies (QueryReplies mode kind query net) out replied (outcome_of (stop_at why))
  replied_in_part (fault.Out cut) sends = replies_so (QueryReplies mode kind query net) (reply_outcome sends.0) sends.1.text out replied
      (outcome_of (stop.Out cut)) (ends_so sends.0 sends.1.text sends.1.is) (sent_part (reply_outcome sends.0) sends.1.text out replied cut sends.1.sent)
  replied_in_part (fault.OutOfMemory want) same = rw same (starves (QueryReplies mode kind query net) out refl)

-- a query without a limit can be asked in all criteria
pub asked_unlimited : (criteria : ℕ) (query : Query) → query.limit ≡ None → query.budget ≤ max_budget → IsAsked criteria query
asked_unlimited criteria query unlimited most = record {
  limit = subst (λ l. length (limit_or_none criteria l) ≡ criteria) (sym unlimited) (length-replicate criteria None);
  budget = most;
}

-- and between nodes it can be searched
pub is_query_unlimited : (query : Query) (net : Network) → query.limit ≡ None → query.budget ≤ max_budget → HaveNodes net query → IsQuery net query
is_query_unlimited query net unlimited most nodes =
    let asked = asked_unlimited net.criteria query unlimited most in
    record { from = nodes.0; to = nodes.1; limit = asked.limit; budget = asked.budget }
