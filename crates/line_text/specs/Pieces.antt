-- What the steps of a reader do to the bytes that it holds.
use Rattle.std.specs.Prelude.{◌≡◌, ◌<◌, ◌≤◌, ◌+◌, ℕ, Bool, true, false, not, List, [], ◌++◌, length, slice_range, Option, Some, None, Result, Ok, Err, is_err}
use Rattle.std.specs.Io.KnownBytes.{Consumes, IsAtEnd}
use Rattle.route_io.specs.Sources.{SourceState, ReadsFrom}
use Rattle.route_io.specs.declared.fault.Failed.{Failed}
use Rattle.line_text.specs.declared.lines.Span.{Span}
use Rattle.line_text.specs.declared.limits.LineFault.{LineFault}
use Rattle.line_text.specs.declared.limits.LineLimits.{LineLimits}
use Rattle.line_text.specs.Lines.{first_lf, raw_line, after_line, line_size, without_cr}
use Rattle.line_text.specs.Marks.{first_fault}
use Rattle.line_text.specs.Reading.{KnowsEnd, Lines, left_for, max_line}

-- a part of a buffer
abbrev pub part_of : List ℕ → Span → List ℕ
part_of bytes span = slice_range bytes span.start span.end

-- The part lies in a buffer of so many bytes.
pub record LiesIn (size : ℕ) (span : Span) : Type 0 where
  pub ordered : span.start ≤ span.end
  pub within : span.end ≤ size

-- The counts are within the limits, at most one byte past the total was taken, and the line's limit leaves room.
pub record InBounds (limits : LineLimits) (text_len held_len number passed : ℕ) : Type 0 where
  pub counted : number ≤ passed
  pub within_total : passed ≤ limits.total
  pub one_past : passed + held_len ≤ limits.total + 1
  pub within_line : text_len ≤ limits.line
  pub leaves_room : limits.line ≤ max_line

-- what an answer says of the bytes that are held: some more, or none at the end of input and where the read failed
abbrev pub Took : List ℕ → List ℕ → Option (List ℕ) → Result Bool Failed → Type 0
Took old new left (Ok true) = length old < length new
Took old new left (Ok false) = (new ≡ old) × IsAtEnd left
Took old new left (Err failed) = new ≡ old

-- One read, whose bytes stand behind those that were held.
pub record Fills (old new : List ℕ) (before after : SourceState) (result : Result Bool Failed) : Type 0 where
  pub more : List ℕ
  pub grown : new ≡ old ++ more
  pub taken : Consumes before.left after.left more
  pub answer : Took old new after.left result
  pub source : ReadsFrom before after (is_err result)

-- the test that an answer of a read says that the input has ended
abbrev pub is_end : Result Bool Failed → Bool
is_end (Ok some) = not some
is_end (Err failed) = false

-- what an answer says of what was read for a reader: some bytes, or none at the end of input and where the read failed
abbrev pub Refilled : Lines → Lines → List ℕ → Result Bool Failed → Type 0
Refilled old new more (Ok true) = (0 < length more) × (new.ended ≡ old.ended)
Refilled old new more (Ok false) = (more ≡ []) × (new.ended ≡ true)
Refilled old new more (Err failed) = (more ≡ []) × (old.ended ≡ false) × (new.ended ≡ false)

-- One read for a reader, or none where its input has ended. The bytes stand behind those that were held.
pub record Refills (old new : Lines) (before after : SourceState) (result : Result Bool Failed) : Type 0 where
  pub more : List ℕ
  pub grown : new.held ≡ old.held ++ more
  pub taken : Consumes before.left after.left more
  pub known : Consumes (left_for old before) (left_for new after) more
  pub answer : Refilled old new more result
  pub knows_end : KnowsEnd old before → KnowsEnd new after
  pub source : ReadsFrom before after (is_err result)

-- the reader behind the first line that is held
abbrev pub past_line : Lines → Lines
past_line lines = record lines {
  held = after_line lines.held;
  text = without_cr (raw_line lines.held);
  number = lines.number + 1;
  passed = lines.passed + line_size lines.held;
}

-- The first line is held with its LF, and it is taken.
pub record TakesWhole (old new : Lines) : Type 0 where
  pub within : first_fault old.limits old.passed old.held ≡ None
  pub whole : first_lf old.held < length old.held
  pub taken : new ≡ past_line old

-- Nothing changes, and the first line is held in part.
pub record LacksLf (old new : Lines) : Type 0 where
  pub same : new ≡ old
  pub within : first_fault new.limits new.passed new.held ≡ None
  pub part : first_lf new.held ≡ length new.held
  pub short : length new.held ≤ max_line

-- What is held of the first line breaks the limits.
pub record Breaks (old new : Lines) (fault : LineFault) : Type 0 where
  pub some : 0 < length old.held
  pub broken : first_fault old.limits old.passed old.held ≡ Some fault
  pub same : new ≡ old

-- what an answer says of the first line that is held
abbrev pub TakesHeld : Lines → Lines → Result Bool LineFault → Type 0
TakesHeld old new (Ok true) = TakesWhole old new
TakesHeld old new (Ok false) = LacksLf old new
TakesHeld old new (Err fault) = Breaks old new fault
