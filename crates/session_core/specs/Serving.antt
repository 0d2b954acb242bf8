-- What stands between two lines of a link that is served.
use Rattle.std.specs.Prelude.{◌≡◌, ℕ, ◌+◌, ◌<◌, ◌≤◌, ◌⊎◌, true, false, List, [], ◌++◌, Option, Some, None, IfSome, length, Result, Ok, Err}
use Rattle.std.specs.Io.KnownBytes.{prepend_known}
use Rattle.route_io.specs.Sinks.{SinkState, Sends}
use Rattle.route_io.specs.Sources.{SourceState, ReadsFrom}
use Rattle.route_io.specs.declared.fault.WriteFault.TheVariants as write
use Rattle.line_text.specs.Lines.{lines_of}
use Rattle.line_text.specs.Reading.{KnowsEnd, Lines}
use Rattle.line_text.specs.declared.limits.LineFault.{LineFault}
use Rattle.line_text.specs.declared.limits.LineFault.TheVariants as line
use Rattle.session_core.specs.declared.fault.ReplyFault.{ReplyFault}
use Rattle.session_core.specs.declared.fault.ReplyFault.TheVariants as reply
use Rattle.session_core.specs.declared.end.SessionEnd.{SessionEnd}
use Rattle.session_core.specs.declared.end.SessionEnd.TheVariants.{Ended, ReadFault, WriteFault, TooLong, OutOfMemory}
use Rattle.session_core.specs.declared.handler.Answered.{Answered}
use Rattle.session_core.specs.declared.handler.Answered.TheVariants.{Replied, Bye}
use Rattle.session_core.specs.Lines.{ended_lines, max_request}
use Rattle.session_core.specs.Links.{RepliesToNoForeign, Serves}
use Rattle.session_core.specs.declared.context.LinkPolicy.{LinkPolicy}
use Rattle.session_core.specs.Exchanges.{Exchange, lines_exchanged, text_exchanged}

-- In front of each text the bytes are these lines, and an LF ends each of them.
pub record AreEnded (passed : List ℕ) (lines : List (List ℕ)) : Type 0 where
  pub all : (text : List ℕ) → lines_of (passed ++ text) ≡ lines ++ lines_of text
  pub ended : (text : List ℕ) → ended_lines (passed ++ text) ≡ lines ++ ended_lines text

-- The bytes are the whole input, shorter than the total, and these are its lines. The reader knows that it has ended.
pub record AreAll (total : ℕ) (reader : Lines) (passed rest : List ℕ) (lines : List (List ℕ)) : Type 0 where
  pub ended : reader.ended ≡ true
  pub nothing : rest ≡ []
  pub within : length passed < total
  pub all : lines_of passed ≡ lines

-- Of a text these lines were passed, and nothing else. What is left of it is held, or the source has it left.
pub record PassesLines (total : ℕ) (text : List ℕ) (reader : Lines) (left : Option (List ℕ)) (lines : List (List ℕ)) : Type 0
  where
    pub passed : List ℕ
    pub rest : List ℕ
    pub parts : text ≡ passed ++ rest
    pub behind : prepend_known reader.held left ≡ Some rest
    pub size : length passed ≡ reader.passed
    pub are : AreEnded passed lines ⊎ AreAll total reader passed rest lines

-- Lines that come from a link were replied to on it, each with its whole reply, and the session goes on.
pub record Served {State : Type 0} (Progresses : State → List Exchange → State → Type 0) (policy : LinkPolicy) (old new : State)
    (from after : SourceState) (to replied : SinkState) (reader : Lines) : Type 0 where
  pub exchanges : List Exchange
  pub runs : Progresses old exchanges new
  pub limits : reader.limits ≡ record { line = max_request; total = policy.bytes }
  pub keeps_none : reader.fault ≡ None
  pub knows_end : KnowsEnd reader after
  pub within : reader.passed + length reader.held ≤ policy.bytes
  pub each : length exchanges ≤ reader.passed
  pub no_foreign : RepliesToNoForeign policy exchanges
  pub passes : IfSome from.left (λ text. PassesLines policy.bytes text reader after.left (lines_exchanged exchanges))
  pub sent : Sends {T = Unit {0}} to replied (text_exchanged exchanges) (Ok tt)
  pub reads : ReadsFrom from after false

-- what one more line does: the session goes on, or it ended
abbrev pub ServesOne : {State : Type 0} → (State → List Exchange → State → Type 0) → (List ℕ → Type 0) → LinkPolicy → State → State
    → SourceState → SourceState → SinkState → SinkState → Lines → Option SessionEnd → Type 0
ServesOne Progresses IsBye policy old new from after to replied reader None = Served Progresses policy old new from after to replied reader
ServesOne Progresses IsBye policy old new from after to replied reader (Some end) =
    Serves Progresses IsBye policy old new from after to replied end

-- how a session ends where there is no next line
abbrev pub end_by_input : LineFault → SessionEnd
end_by_input line.Read = ReadFault
end_by_input line.Total = TooLong
end_by_input line.TooLong = TooLong

-- whether what became of a line ends a session, and how
abbrev pub end_by_answer : Result Answered ReplyFault → Option SessionEnd
end_by_answer (Ok Replied) = None
end_by_answer (Ok Bye) = Some Ended
end_by_answer (Err (reply.Out write.Failed)) = Some WriteFault
end_by_answer (Err (reply.Out (write.OutOfMemory want))) = Some (OutOfMemory want)
end_by_answer (Err (reply.OutOfMemory want)) = Some (OutOfMemory want)
