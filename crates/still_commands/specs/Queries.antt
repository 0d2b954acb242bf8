-- What the program replies to a query over a network.
use Rattle.std.specs.Prelude.{◌≡◌, ℕ, List, []}
use Rattle.road_network.specs.Network.{Network}
use Rattle.road_network.specs.declared.query.AnswerKind.{AnswerKind}
use Rattle.road_network.specs.declared.query.Query.{Query}
use Rattle.session_core.specs.declared.reply.Reply.TheVariants.{Answer, Refusal}
use Rattle.session_core.specs.Queries.{RepliesToQuery}
use Rattle.session_core.specs.declared.mode.SearchMode.{SearchMode}
use Rattle.still_commands.specs.Outcome.{Outcome, done, refused, no_memory}

-- The reply at epoch 0 is the answer or a refusal, unless memory runs out before its first byte.
abbrev pub QueryReplies : SearchMode → AnswerKind → Query → Network → Outcome → List ℕ → Type 0
QueryReplies mode kind query net done text = RepliesToQuery net mode 0 kind query Answer text
QueryReplies mode kind query net refused text = RepliesToQuery net mode 0 kind query Refusal text
QueryReplies mode kind query net no_memory text = text ≡ []
QueryReplies mode kind query net outcome text = ⊥
