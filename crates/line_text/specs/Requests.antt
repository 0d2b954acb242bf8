-- The next line as a request: a line that is too long is skipped, and no byte past the total is taken.
use Rattle.std.specs.Prelude.{◌≡◌, ◌<◌, ◌≤◌, ◌+◌, ◌-◌, ℕ, nat_lt, max, if◌then◌else◌, true, List, [], ◌∷◌, length, drop}
use Rattle.std.specs.Prelude.{Option, Some, None, IfSome, Result, Ok, Err}
use Rattle.route_io.specs.Sources.{SourceState}
use Rattle.line_text.specs.declared.limits.LineFault.{LineFault}
use Rattle.line_text.specs.declared.limits.LineFault.TheVariants.{Total, Read, TooLong}
use Rattle.line_text.specs.declared.limits.LineLimits.{LineLimits}
use Rattle.line_text.specs.declared.limits.Request.{Request}
use Rattle.line_text.specs.declared.limits.Request.TheVariants.{Whole, Long}
use Rattle.line_text.specs.Foreign.{is_foreign}
use Rattle.line_text.specs.Lines.{first_lf, raw_line, after_line, line_size, without_cr, lines_of}
use Rattle.line_text.specs.Reading.{Lines, rest_of, LosesNone, Ends, CountsLine, CountsNone}

-- what a line of so many bytes before its LF is
abbrev pub request_by : LineLimits → ℕ → Request
request_by limits raw = if nat_lt limits.line raw then Long else Whole

-- what the first line of a text is, if it has one
abbrev pub first_request : LineLimits → List ℕ → Option Request
first_request limits [] = None
first_request limits (byte ∷ text) = Some (request_by limits (length (raw_line (byte ∷ text))))

-- the answer where this text is left behind `passed` bytes of the input: the total is reached where as many bytes are
-- there and none of them ends the first line
abbrev pub request_of : LineLimits → ℕ → List ℕ → Result (Option Request) LineFault
request_of limits passed text =
    if nat_lt (passed + length (raw_line text)) limits.total then Ok (first_request limits text) else Err Total

-- the current line behind a request with these bytes before its LF: none where it was skipped
abbrev pub request_text : Request → List ℕ → List ℕ
request_text Whole raw = without_cr raw
request_text Long raw = []

-- A line within the limit is current, without one CR at its end.
pub record CountsWhole (old new : Lines) : Type 0 where
  pub counts : CountsLine old new
  pub raw : List ℕ
  pub short : length raw ≤ old.limits.line
  pub text : new.text ≡ without_cr raw
  pub foreign : new.foreign ≡ is_foreign raw

-- A line is skipped: it counts, and has more bytes than the limit.
pub record CountsLong (old new : Lines) : Type 0 where
  pub text : new.text ≡ []
  pub number : new.number ≡ old.number + 1
  pub more : old.passed + old.limits.line < new.passed
  pub raw : List ℕ
  pub long : old.limits.line < length raw
  pub foreign : new.foreign ≡ is_foreign raw

-- There is no current line, and no line was counted. A part of a line that is too long may be skipped.
pub record CountsFault (old new : Lines) : Type 0 where
  pub text : new.text ≡ []
  pub number : new.number ≡ old.number
  pub passed : old.passed ≤ new.passed

-- A read failed: what is held has no whole line, and the total isn't reached.
pub record FailsRead (old new : Lines) : Type 0 where
  pub counts : CountsFault old new
  pub part : first_lf new.held ≡ length new.held
  pub within : new.passed + length new.held < new.limits.total

-- The input has ended before the total, and no byte of it is left.
pub record CountsEnd (old new : Lines) : Type 0 where
  pub counts : CountsNone old new
  pub nothing : new.held ≡ []
  pub within : new.passed < new.limits.total
  pub ended : new.ended ≡ true

-- The total was reached: as many bytes were taken, and of a whole line that is held the LF stands behind them.
pub record ReachesTotal (old new : Lines) : Type 0 where
  pub counts : CountsFault old new
  pub taken : new.limits.total ≤ new.passed + first_lf new.held

-- what an answer says of the counts, over every source: no other faults come
abbrev pub RequestCounts : Lines → Lines → Result (Option Request) LineFault → Type 0
RequestCounts old new (Ok (Some Whole)) = CountsWhole old new
RequestCounts old new (Ok (Some Long)) = CountsLong old new
RequestCounts old new (Ok None) = CountsEnd old new
RequestCounts old new (Err Read) = FailsRead old new
RequestCounts old new (Err Total) = ReachesTotal old new
RequestCounts old new (Err TooLong) = ⊥

-- The first line of the rest is this request, and what stands behind it is left.
pub record TakesFirst (old new : Lines) (rest : List ℕ) (after : Option (List ℕ)) (request : Request) : Type 0 where
  pub answer : request_of old.limits old.passed rest ≡ Ok (Some request)
  pub text : new.text ≡ request_text request (raw_line rest)
  pub foreign : new.foreign ≡ is_foreign (raw_line rest)
  pub passed : new.passed ≡ old.passed + line_size rest
  pub left : after ≡ Some (after_line rest)
  pub lines : lines_of rest ≡ raw_line rest ∷ lines_of (after_line rest)
  pub last : first_lf rest ≡ length rest → new.ended ≡ true

-- A part of the first line was passed, or nothing, and what stands behind it is left.
pub record PassesPart (old new : Lines) (rest : List ℕ) (after : Option (List ℕ)) : Type 0 where
  pub part : new.passed ≤ old.passed + length (raw_line rest)
  pub left : after ≡ Some (drop (new.passed - old.passed) rest)

-- No line is taken, and this is the answer for the rest.
pub record TakesNone (old new : Lines) (rest : List ℕ) (after : Option (List ℕ)) (result : Result (Option Request) LineFault) : Type 0 where
  pub answer : request_of old.limits old.passed rest ≡ result
  pub part : PassesPart old new rest after

-- what an answer says of the rest, and what is left of it afterwards
abbrev pub TellsRequest : Lines → Lines → List ℕ → Option (List ℕ) → Result (Option Request) LineFault → Type 0
TellsRequest old new rest after (Ok (Some request)) = TakesFirst old new rest after request
TellsRequest old new rest after (Ok None) = TakesNone old new rest after (Ok None)
TellsRequest old new rest after (Err Read) = PassesPart old new rest after
TellsRequest old new rest after (Err fault) = TakesNone old new rest after (Err fault)

-- What a call does to a reader that keeps no fault, and to the source: the next request, or the answer that there is
-- none. No byte past the total is taken.
pub record Requests (old new : Lines) (before after : SourceState) (result : Result (Option Request) LineFault) : Type 0
  where
    pub limits : new.limits ≡ old.limits
    pub counts : RequestCounts old new result
    pub request : IfSome (rest_of old before) (λ rest. TellsRequest old new rest (rest_of new after) result)
    pub loses_none : LosesNone old new before after
    pub ends : Ends old new before after result
    pub none_past : new.passed + length new.held ≤ max old.limits.total (old.passed + length old.held)

-- The first line is held with its LF.
abbrev pub HoldsLine : Lines → Type 0
HoldsLine lines = first_lf lines.held < length lines.held
