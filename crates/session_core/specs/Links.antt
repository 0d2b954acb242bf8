-- What serving a link does: which lines were begun, and what was sent.
use Rattle.std.specs.Prelude.{◌≡◌, ℕ, ◌<◌, ◌≤◌, ◌⊎◌, Bool, true, false, List, [], ◌∷◌, ◌++◌, Option, IfSome, All, length, take}
use Rattle.std.specs.Io.KnownBytes.{Appends, Consumes, IsAtEnd}
use mathlib.Core.List.{IsPrefix}
use Rattle.route_io.specs.Sinks.{SinkState, WritesTo}
use Rattle.route_io.specs.Sources.{SourceState, ReadsFrom}
use Rattle.line_text.specs.Foreign.{is_foreign}
use Rattle.line_text.specs.Lines.{lines_of}
use Rattle.session_core.specs.declared.context.LinkPolicy.{LinkPolicy}
use Rattle.session_core.specs.declared.end.SessionEnd.{SessionEnd}
use Rattle.session_core.specs.declared.end.SessionEnd.TheVariants.{Ended, ReadFault, WriteFault, TooLong, OutOfMemory}
use Rattle.session_core.specs.Lines.{ended_lines}
use Rattle.session_core.specs.Exchanges.{Exchange, lines_exchanged, text_exchanged}

-- the test that a session ended so
abbrev pub is_read_fault : SessionEnd → Bool
is_read_fault ReadFault = true
is_read_fault end = false

-- the test that memory ran out
abbrev pub is_starved : SessionEnd → Bool
is_starved (OutOfMemory want) = true
is_starved end = false

-- the test that a session ended so
abbrev pub is_write_fault : SessionEnd → Bool
is_write_fault WriteFault = true
is_write_fault end = false

-- All of the input was taken, and it is shorter than the total.
pub record IsAll (total : ℕ) (taken : List ℕ) (left : Option (List ℕ)) : Type 0 where
  pub at_end : IsAtEnd left
  pub within : length taken < total

-- The lines are the first ones of what was taken. A last one without an LF is among them only where all of the input was
-- taken.
abbrev pub AreFirst : ℕ → List ℕ → Option (List ℕ) → List (List ℕ) → Type 0
AreFirst total taken left lines =
    IsPrefix lines (ended_lines taken) ⊎ (IsAll total taken left × IsPrefix lines (lines_of taken))

-- The lines are those before one that ends the session.
pub record EndsByBye (IsBye : List ℕ → Type 0) (total : ℕ) (taken : List ℕ) (left : Option (List ℕ)) (lines : List (List ℕ))
    : Type 0 where
  pub bye : List ℕ
  pub is_bye : IsBye bye
  pub first : AreFirst total taken left (lines ++ bye ∷ [])

-- which lines were begun, by how the session ended: those of the input, or those that an LF ends in what was taken, or,
-- where a reply was cut or memory ran out, the first ones
abbrev pub Begins : (List ℕ → Type 0) → ℕ → List ℕ → Option (List ℕ) → SessionEnd → List (List ℕ) → Type 0
Begins IsBye total taken left Ended lines =
    EndsByBye IsBye total taken left lines ⊎ (IsAll total taken left × (lines ≡ lines_of taken))
Begins IsBye total taken left ReadFault lines = (length taken < total) × (lines ≡ ended_lines taken)
Begins IsBye total taken left TooLong lines = (length taken ≡ total) × (lines ≡ ended_lines taken)
Begins IsBye total taken left WriteFault lines = AreFirst total taken left lines
Begins IsBye total taken left (OutOfMemory want) lines = AreFirst total taken left lines

-- The lines were begun, by how the session ended, among the bytes that were taken from a source that tells them.
pub record TakesLines (IsBye : List ℕ → Type 0) (total : ℕ) (before after : Option (List ℕ)) (end : SessionEnd)
    (lines : List (List ℕ)) : Type 0 where
  pub taken : List ℕ
  pub takes : Consumes before after taken
  pub within : length taken ≤ total
  pub begun : Begins IsBye total taken after end lines

-- All replies were sent but for the last one, of which a part from the front was, short of the whole.
pub record CutsLast (old new : SinkState) (exchanges : List Exchange) : Type 0 where
  pub front : List Exchange
  pub last : Exchange
  pub parts : exchanges ≡ front ++ last ∷ []
  pub size : ℕ
  pub short : size < length last.reply
  pub sent : Appends old.sent new.sent (text_exchanged front ++ take size last.reply)

-- what was sent, by how the session ended and whether the sink itself wanted memory
abbrev pub SendsReplies : SessionEnd → Bool → SinkState → SinkState → List Exchange → Type 0
SendsReplies WriteFault wanted old new exchanges = CutsLast old new exchanges
SendsReplies (OutOfMemory want) true old new exchanges = CutsLast old new exchanges
SendsReplies end wanted old new exchanges = Appends old.sent new.sent (text_exchanged exchanges)

-- a line ends a link: it ends a session, or the link is guarded, and the line is of another protocol
abbrev pub EndsLink : LinkPolicy → (List ℕ → Type 0) → List ℕ → Type 0
EndsLink policy IsBye raw = IsBye raw ⊎ ((policy.guarded ≡ true) × (is_foreign raw ≡ true))

-- no line of another protocol was replied to, where the link is guarded
abbrev pub RepliesToNoForeign : LinkPolicy → List Exchange → Type 0
RepliesToNoForeign policy exchanges = policy.guarded ≡ true → All (λ t. is_foreign t.line ≡ false) exchanges

-- Lines that come from a link were replied to on it, one after another, until the session ended so. `Progresses` says how lines
-- with their replies led on, `IsBye` which line ends a session, and `policy` how many bytes are taken at most.
pub record Serves {State : Type 0} (Progresses : State → List Exchange → State → Type 0) (IsBye : List ℕ → Type 0)
    (policy : LinkPolicy) (old new : State) (from after : SourceState) (to replied : SinkState) (end : SessionEnd) : Type 0 where
  -- the lines that were begun, with their replies
  pub exchanges : List Exchange
  pub runs : Progresses old exchanges new
  -- each of them took a byte at least
  pub each : length exchanges ≤ policy.bytes
  pub no_foreign : RepliesToNoForeign policy exchanges
  -- where the source tells its bytes, they are the lines of those that were taken
  pub lines : IfSome from.left (λ _. TakesLines (EndsLink policy IsBye) policy.bytes from.left after.left end
      (lines_exchanged exchanges))
  -- whether the sink itself wanted memory
  pub wanted : Bool
  pub wants : wanted ≡ true → is_starved end ≡ true
  pub sent : SendsReplies end wanted to replied exchanges
  -- the source's failures alone make a read fault, and those of the sink a write fault
  pub reads : ReadsFrom from after (is_read_fault end)
  pub writes : WritesTo to replied (is_write_fault end) wanted
