-- Replies that are made in memory before they are sent.
use Rattle.std.specs.Prelude.{ℕ, List, Option, IfSome}
use Rattle.std.specs.List.{AllZip}
use Rattle.road_network.specs.Network.{Network}
use Rattle.road_network.specs.declared.query.AnswerKind.{AnswerKind}
use Rattle.road_network.specs.declared.query.Query.{Query}
use Rattle.session_core.specs.declared.made.MadeReply.{MadeReply}
use Rattle.session_core.specs.declared.mode.SearchMode.{SearchMode}
use Rattle.session_core.specs.Queries.{RepliesToQuery}

-- it is the whole reply to the query
abbrev pub IsMade : Network → SearchMode → ℕ → AnswerKind → Query → MadeReply → Type 0
IsMade net mode epoch kind query made = RepliesToQuery net mode epoch kind query made.reply made.text.sent

-- each query has its reply, in their order, or none where memory ran out
abbrev pub AreMade : Network → SearchMode → ℕ → AnswerKind → List Query → List (Option MadeReply) → Type 0
AreMade net mode epoch kind = AllZip (λ query made. IfSome made (IsMade net mode epoch kind query))
