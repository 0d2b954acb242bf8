-- What an operator's line comes to, as the code has it before the reply is sent.
use Rattle.std.specs.Prelude.{◌≡◌, ℕ, ⊤, List, [], ◌++◌, codes}
use Rattle.answer_writer.specs.Replies.{end_line}
use Rattle.arc_graph.specs.History.{Operator}
use Rattle.epoch_store.specs.Origin.{Origin}
use Rattle.session_requests.specs.Requests.{WeighsEach}
use Rattle.session_requests.specs.declared.line.Line.{Line}
use Rattle.session_requests.specs.declared.line.Line.TheVariants as line
use Rattle.session_requests.specs.declared.operator.OperatorRequest.{OperatorRequest}
use Rattle.session_requests.specs.declared.operator.OperatorRequest.TheVariants as asks
use Rattle.session_core.specs.declared.operator_reply.Applied.{Applied}
use Rattle.session_core.specs.declared.operator_reply.Applied.TheVariants as applied
use Rattle.session_core.specs.declared.operator_reply.OperatorReply.{OperatorReply}
use Rattle.session_core.specs.declared.operator_reply.OperatorReply.TheVariants.{Done, Epoch, Refused}
use Rattle.session_core.specs.declared.operator_reply.Refusal.{Refusal}
use Rattle.session_core.specs.declared.operator_reply.Refusal.TheVariants.{Arc, Full, Last, Line as NoRequest, Zero}
use Rattle.session_core.specs.Operators.{Obeys, ObeysLine, ok_reply}
use Rattle.session_core.specs.Sessions.{epoch_reply}

-- a request's weight has a component for each criterion
abbrev pub WeighsAs : ℕ → Line OperatorRequest → Type 0
WeighsAs d (line.Request r) = WeighsEach d r
WeighsAs d _ = ⊤

-- why a line is refused, as its reply says it
abbrev pub refusal_word : Refusal → List ℕ
refusal_word NoRequest = codes "line"
refusal_word Arc = codes "arc"
refusal_word Zero = codes "zero"
refusal_word Full = codes "full"
refusal_word Last = codes "last"

-- `x` and why a line is refused
abbrev pub refusal_text : Refusal → List ℕ
refusal_text why = codes "x " ++ refusal_word why ++ end_line

-- the text of a reply
abbrev pub reply_text : OperatorReply → List ℕ
reply_text Done = ok_reply
reply_text (Epoch k) = epoch_reply k
reply_text (Refused why) = refusal_text why

-- a request was carried out, or refused and changed nothing, which is to be replied so
abbrev pub ObeysBy : Origin → OperatorRequest → Operator → OperatorReply → Operator → Type 0
ObeysBy o r old reply new = Obeys o r old (reply_text reply) new

-- what a line comes to: a reply, none to a blank one, or the end of the session, which changes nothing
abbrev pub Applies : Origin → Line OperatorRequest → Operator → Applied → Operator → Type 0
Applies o what old applied.Silent new = ObeysLine o what old [] new
Applies o what old (applied.Says reply) new = ObeysLine o what old (reply_text reply) new
Applies o what old applied.Ends new = (what ≡ line.Request asks.Bye) × (new ≡ old)
