-- What the command `batch` does over a network: it reads a file of pairs, and replies to each of them in order. What is
-- said of the file's bytes holds where the folder tells its files.
use Rattle.std.specs.Prelude.{◌≡◌, ℕ, ◌<◌, Bool, true, false, List, [], Option, None, length, take}
use Rattle.std.specs.List.{AllZip, concat}
use Rattle.route_io.specs.Files.{FileMap}
use Rattle.road_network.specs.Network.{Network}
use Rattle.gr_reader.specs.declared.fault.LineKind.{LineKind}
use Rattle.query_reader.specs.Grammar.{IsPairs, PairFault}
use Rattle.query_reader.specs.declared.pairs.Pair.{Pair}
use Rattle.session_core.specs.declared.reply.Reply.{Reply}
use Rattle.session_core.specs.Queries.{RepliesToQuery}
use Rattle.session_core.specs.declared.mode.SearchMode.{SearchMode}
use Rattle.session_core.specs.declared.mode.SearchMode.TheVariants as search
use Rattle.road_network.specs.declared.query.AnswerKind.TheVariants.{Walks}
use Rattle.road_network.specs.declared.query.Query.{Query}
use Rattle.command_words.specs.declared.limits.SearchLimits.{SearchLimits}
use Rattle.command_words.specs.declared.commands.BatchWords.{BatchWords}
use Rattle.still_commands.specs.FilesRead.{ReadingStop, Tells, reading_limits}
use Rattle.still_commands.specs.Outcome.{Outcome, done, bad_pairs, no_memory}

-- the file of this name says these pairs
abbrev pub SaysPairs : Option FileMap → List ℕ → List Pair → Type 0
SaysPairs files name pairs = Tells files name (λ bytes. IsPairs reading_limits bytes pairs)

-- the first fault of the file of pairs of this name
abbrev pub HasFaultyPair : Option FileMap → List ℕ → ℕ → LineKind → Type 0
HasFaultyPair files name line kind = Tells files name (λ bytes. PairFault reading_limits bytes kind line)

-- how the reading of the file of pairs of this name ends a run
abbrev pub PairsStop : Option FileMap → List ℕ → Outcome → Type 0
PairsStop files name = ReadingStop (HasFaultyPair files name) (bad_pairs name) name

-- How a run ends that reads a file of pairs and then goes on over the pairs, and what it sends to `out`. `After` says how
-- it then ends, and what it sends.
pub data PairsEnd (After : List Pair → Outcome → List ℕ → Type 0) (files : Option FileMap) (name : List ℕ)
    : Outcome → List ℕ → Type 0 where
  -- the file of pairs ends it, and nothing is sent
  pairs_stop : {outcome : Outcome} → PairsStop files name outcome → PairsEnd After files name outcome []
  -- it was read, and the run goes on
  pairs_read : {outcome : Outcome} {text : List ℕ} (pairs : List Pair) → SaysPairs files name pairs
      → After pairs outcome text → PairsEnd After files name outcome text

-- how each query of a batch is searched
abbrev pub mode_of : Bool → SearchMode
mode_of true = search.Goal
mode_of false = search.Plain

-- the query from one node of a pair to the other, without a limit
abbrev pub query_between : SearchLimits → Pair → Query
query_between limits pair = record { from = pair.from; to = pair.to; limit = None; budget = limits.budget }

-- the reply to a pair is the answer with walks, or a refusal
abbrev pub RepliesTo : SearchMode → SearchLimits → Network → Pair → List ℕ → Type 0
RepliesTo mode limits net pair text =
    (reply : Reply) × RepliesToQuery net mode 0 Walks (query_between limits pair) reply text

-- The text is the replies to these pairs, one for each, in order.
pub record RepliesToEach (mode : SearchMode) (limits : SearchLimits) (net : Network) (pairs : List Pair) (text : List ℕ) : Type 0 where
  pub replies : List (List ℕ)
  pub each : AllZip (RepliesTo mode limits net) pairs replies
  pub whole : text ≡ concat replies

-- Memory ran out at a pair, before the first byte of its reply; those before it have theirs.
pub record StarvesAtPair (mode : SearchMode) (limits : SearchLimits) (net : Network) (pairs : List Pair) (text : List ℕ) : Type 0 where
  pub before : ℕ
  pub more : before < length pairs
  pub replied : RepliesToEach mode limits net (take before pairs) text

-- each pair has its reply, unless memory runs out at one of them; a refused pair ends nothing
abbrev pub PairsReplies : SearchMode → SearchLimits → Network → List Pair → Outcome → List ℕ → Type 0
PairsReplies mode limits net pairs done text = RepliesToEach mode limits net pairs text
PairsReplies mode limits net pairs no_memory text = StarvesAtPair mode limits net pairs text
PairsReplies mode limits net pairs outcome text = ⊥

-- how a batch ends over a network, and what it sends
abbrev pub BatchReplies : Option FileMap → BatchWords → Network → Outcome → List ℕ → Type 0
BatchReplies files asked net = PairsEnd (PairsReplies (mode_of asked.goal) asked.limits net) files asked.pairs
