-- The reply to a query that is within its budget.
use Rattle.std.proofs.Common.{ℕ, List, Result, Ok, Err, refl}
use Rattle.road_network.specs.Network.{Network, IsNetwork}
use Rattle.road_network.specs.Answers.{IsAnswer, Route}
use Rattle.road_network.proofs.AnswerLaws.{has_answer, some_list}
use Rattle.route_io.specs.declared.fault.WriteFault.{WriteFault}
use Rattle.route_io.specs.Sinks.{SinkState}
use Rattle.road_network.specs.Queries.{HaveNodes, limit_of}
use Rattle.road_network.specs.declared.query.AnswerKind.{AnswerKind}
use Rattle.road_network.specs.declared.query.Query.{Query}
use Rattle.answer_writer.specs.Replies.{reply_of}
use Rattle.session_core.specs.declared.reply.Reply.{Reply}
use Rattle.session_core.specs.declared.reply.Reply.TheVariants.{Answer}
use Rattle.session_core.specs.declared.fault.ReplyFault.{ReplyFault}
use Rattle.session_core.specs.declared.fault.ReplyFault.TheVariants as fault
use Rattle.session_core.specs.declared.mode.SearchMode.{SearchMode}
use Rattle.session_core.specs.Queries.{IsTooLargeIn, RepliesToQuery}
use Rattle.session_core.specs.Sending.{IsReplyOf, Replied, SendsReply}

-- a reply of one kind is one of another
module _ (One Other : Reply → List ℕ → Type 0) (each : (reply : Reply) (text : List ℕ) → One reply text → Other reply text) (out replied : SinkState) where
  sends_as : (reply : Reply) (result : Result (Unit {0}) WriteFault) → SendsReply One out replied reply result → SendsReply Other out replied reply result
  sends_as reply result sends = record { text = sends.text; is = each reply sends.text sends.is; sent = sends.sent }

  pub replied_as : (result : Result Reply ReplyFault) → Replied One out replied result → Replied Other out replied result
  replied_as (Ok reply) sends = sends_as reply (Ok tt) sends
  replied_as (Err (fault.Out cut)) sends = (sends.0, sends_as sends.0 (Err cut) sends.1)
  replied_as (Err (fault.OutOfMemory want)) same = same

-- the query is within its budget, and the reply is its answer
pub answers_query : (net : Network) (mode : SearchMode) (epoch : ℕ) (kind : AnswerKind) (query : Query) (out replied : SinkState) (result : Result Reply ReplyFault)
    → IsNetwork net → HaveNodes net query → ¬ IsTooLargeIn mode net query
    → ((routes : List Route) → IsAnswer net query.from query.to (limit_of net.criteria query) routes
    → Replied (IsReplyOf Answer (reply_of kind epoch query routes)) out replied result)
    → Replied (RepliesToQuery net mode epoch kind query) out replied result
answers_query net mode epoch kind query out replied result is nodes within replies =
    let limit = limit_of net.criteria query in
    let best = some_list net query.from query.to is limit in
    let answer = has_answer net query.from query.to is limit best.0 best.1 in
    replied_as (IsReplyOf Answer (reply_of kind epoch query answer.0)) (RepliesToQuery net mode epoch kind query)
    (λ reply text is. rw (is.0, is.1) (record { nodes = nodes; within = within; routes = answer.0; answer = answer.1; reply = refl })) out replied result
    (replies answer.0 answer.1)
