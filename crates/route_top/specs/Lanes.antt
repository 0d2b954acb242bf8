-- What the command `lanes` does over a network: it reads the scripts in order, and serves all lanes. What is said of a
-- script's bytes holds where the folder tells its files.
use Rattle.std.specs.Prelude.{◌≡◌, ◌⊎◌, ℕ, zero, suc, ◌+◌, ◌^◌, ◌<◌, ◌≤◌, List, [], ◌∷◌, ◌++◌, Option, codes, length, map, get_or}
use Rattle.std.specs.List.{AllZip, flat_map, range_with_len}
use mathlib.Core.List.{IsPrefix}
use Rattle.route_io.specs.Files.{FileMap}
use Rattle.road_network.specs.Network.{Network}
use Rattle.arc_graph.specs.Graph.{Graph, Weights}
use Rattle.arc_graph.specs.History.{History, Operator, closed_history}
use Rattle.line_text.specs.Lines.{lines_of}
use Rattle.answer_writer.specs.Replies.{and_number, end_line}
use Rattle.epoch_store.specs.Origin.{Origin}
use Rattle.session_core.specs.Operators.{IsOperatorBye, OperatorRun}
use Rattle.session_core.specs.Sessions.{IsSessionBye, Scene, SessionRun}
use Rattle.session_core.specs.Exchanges.{Exchange, lines_exchanged, text_exchanged}
use Rattle.command_words.specs.Words.{scripts_of}
use Rattle.command_words.specs.declared.commands.LanesWords.{LanesWords}
use Rattle.still_commands.specs.FilesRead.{Tells}
use Rattle.still_commands.specs.Outcome.{Outcome, done, folder_failed, no_memory, script_too_long}

-- the most bytes of a script
abbrev pub max_script : ℕ
max_script = 2 ^ 24

-- The script of this name has these bytes, no more than a script may have.
pub record SaysScript (files : Option FileMap) (name script : List ℕ) : Type 0 where
  pub short : length script ≤ max_script
  pub exchanges : Tells files name (λ bytes. bytes ≡ script)

-- how the reading of the script of this name ends a run
pub data ScriptStop (files : Option FileMap) (name : List ℕ) : Outcome → Type 0 where
  -- the folder failed
  failed : ScriptStop files name (folder_failed name)
  -- it has more bytes than a script may have
  too_long : Tells files name (λ bytes. max_script < length bytes) → ScriptStop files name (script_too_long name)
  -- memory ran out
  starved : ScriptStop files name no_memory

-- A script comes after others that were all read.
pub record ComesAfterScripts (files : Option FileMap) (names : List (List ℕ)) (name : List ℕ) : Type 0 where
  pub before : List (List ℕ)
  pub after : List (List ℕ)
  pub place : names ≡ before ++ name ∷ after
  pub scripts : List (List ℕ)
  pub read : AllZip (SaysScript files) before scripts

-- the first script that isn't read ends a run
abbrev pub ScriptsStop : Option FileMap → List (List ℕ) → Outcome → Type 0
ScriptsStop files names outcome =
    (name : List ℕ) × ComesAfterScripts files names name × ScriptStop files name outcome

-- How a run ends that reads scripts and then goes on with them, and what it sends to `out`. `After` says how it then ends,
-- and what it sends.
pub data ScriptsEnd (After : List (List ℕ) → Outcome → List ℕ → Type 0) (files : Option FileMap) (names : List (List ℕ))
    : Outcome → List ℕ → Type 0 where
  -- the first that isn't read ends it, and nothing is sent
  scripts_stop : {outcome : Outcome} → ScriptsStop files names outcome → ScriptsEnd After files names outcome []
  -- all were read, and the run goes on
  scripts_read : {outcome : Outcome} {text : List ℕ} (scripts : List (List ℕ)) → AllZip (SaysScript files) names scripts
      → After scripts outcome text → ScriptsEnd After files names outcome text

-- the lines of a script up to the first that ends its lane, which has no reply, or all where none does
abbrev pub AreLinesOf : List ℕ → (List ℕ → Type 0) → List (List ℕ) → Type 0
AreLinesOf script IsBye lines =
    (lines ≡ lines_of script) ⊎ ((bye : List ℕ) × IsBye bye × IsPrefix (lines ++ bye ∷ []) (lines_of script))

-- The lines of the operator's script have these replies, and leave the store so.
pub record IsOperatorExchange (o : Origin) (script : List ℕ) (left : Operator) (exchanges : List Exchange) : Type 0 where
  pub run : OperatorRun o (record { published = []; pending = [] }) exchanges left
  pub lines : AreLinesOf script (IsOperatorBye o) (lines_exchanged exchanges)

-- The lines of a session's script have these replies, over this whole history.
pub record IsSessionExchange (scene : Scene) (whole : History) (script : List ℕ) (exchanges : List Exchange) : Type 0 where
  pub run : SessionRun scene [] whole exchanges
  pub lines : AreLinesOf script (IsSessionBye scene) (lines_exchanged exchanges)

-- the line above a lane's replies: `operator`, or `lane I` above those of session I
abbrev pub heading : ℕ → List ℕ
heading zero = codes "operator" ++ end_line
heading (suc n) = codes "lane" ++ and_number (suc n) ++ end_line

-- the replies of lanes, each below its heading, of which the first has this number
abbrev pub lanes_reply : ℕ → List (List ℕ) → List ℕ
lanes_reply first replies = flat_map (λ n. heading (first + n) ++ get_or replies n []) (range_with_len 0 (length replies))

-- the graph of a network
abbrev pub graph_of : Network → Graph
graph_of net = record { nodes = net.nodes; criteria = net.criteria; ends = net.ends }

-- the weights of a network
abbrev pub weights_of : Network → Weights
weights_of net = record { criteria = net.criteria; states = net.states }

-- The text is the replies to the scripts, the operator's first. What the operator has published in the end is, closed,
-- the history of all sessions.
pub record RepliesToScripts (asked : LanesWords) (net : Network) (scripts : List (List ℕ)) (text : List ℕ) : Type 0 where
  pub origin : Origin
  pub first_is : origin.first ≡ asked.epoch
  pub base_is : origin.base ≡ weights_of net
  pub operator_script : List ℕ
  pub session_scripts : List (List ℕ)
  pub scripts_are : scripts ≡ operator_script ∷ session_scripts
  pub left : Operator
  pub operator : List Exchange
  pub operator_exchange : IsOperatorExchange origin operator_script left operator
  pub sessions : List (List Exchange)
  pub sessions_exchange : AllZip (IsSessionExchange (record { graph = graph_of net; origin = origin; budget = asked.limits.budget })
      (closed_history left)) session_scripts sessions
  pub text_is : text ≡ lanes_reply 0 (map text_exchanged (operator ∷ sessions))

-- all scripts have their replies, unless memory runs out in a lane or before
abbrev pub LanesReplies : LanesWords → Network → List (List ℕ) → Outcome → List ℕ → Type 0
LanesReplies asked net scripts done text = RepliesToScripts asked net scripts text
LanesReplies asked net scripts no_memory text = text ≡ []
LanesReplies asked net scripts outcome text = ⊥

-- how lanes over a network end, and what they send
abbrev pub LanesEnd : Option FileMap → LanesWords → Network → Outcome → List ℕ → Type 0
LanesEnd files asked net = ScriptsEnd (LanesReplies asked net) files (scripts_of asked)
