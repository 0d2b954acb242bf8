-- Replies to the pairs of a batch that are made before it is their turn.
use Rattle.std.specs.Prelude.{List, Option, IfSome, length, take, reverse}
use Rattle.std.specs.List.{AllZip}
use Rattle.road_network.specs.Network.{Network}
use Rattle.road_network.specs.declared.query.AnswerKind.TheVariants.{Walks}
use Rattle.query_reader.specs.declared.pairs.Pair.{Pair}
use Rattle.session_core.specs.declared.made.MadeReply.{MadeReply}
use Rattle.session_core.specs.Making.{IsMade}
use Rattle.session_core.specs.declared.mode.SearchMode.{SearchMode}
use Rattle.command_words.specs.declared.limits.SearchLimits.{SearchLimits}
use Rattle.still_commands.specs.Batch.{query_between}

-- what was made for the pair is the reply to it, where memory sufficed
abbrev pub IsAhead : SearchMode → SearchLimits → Network → Pair → Option MadeReply → Type 0
IsAhead mode limits net pair made = IfSome made (IsMade net mode 0 Walks (query_between limits pair))

-- these were made for the first of the pairs, the first of them last
abbrev pub AreAhead : SearchMode → SearchLimits → Network → List Pair → List (Option MadeReply) → Type 0
AreAhead mode limits net pairs ahead = AllZip (IsAhead mode limits net) (take (length ahead) pairs) (reverse ahead)
