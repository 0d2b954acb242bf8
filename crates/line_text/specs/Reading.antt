-- What a reader of lines shows, and what the next line does to it.
use Rattle.std.specs.Prelude.{◌≡◌, ◌+◌, ◌<◌, ◌≤◌, ℕ, if◌then◌else◌, Bool, true, false, List, [], ◌∷◌, length, Option, Some, None}
use Rattle.std.specs.Prelude.{IfSome, IsSomeAnd, Result, Ok, Err}
use Rattle.std.specs.Io.KnownBytes.{IsAtEnd, prepend_known}
use Rattle.route_io.specs.Sources.{SourceState}
use Rattle.line_text.specs.declared.limits.LineFault.{LineFault}
use Rattle.line_text.specs.declared.limits.LineFault.TheVariants as fault
use Rattle.line_text.specs.declared.limits.LineLimits.{LineLimits}
use Rattle.line_text.specs.Lines.{first_lf, raw_line, after_line, line_size, without_cr, lines_of}
use Rattle.line_text.specs.Marks.{answer_of}

-- the greatest limit of a line, in bytes before its LF
abbrev pub max_line : ℕ
max_line = 65536

-- the most bytes that a reader holds
abbrev pub max_held : ℕ
max_held = 131072

-- a reader of lines
pub record Lines : Type 0 where
  pub limits : LineLimits
  -- the bytes that were taken from the source and stand behind the current line
  pub held : List ℕ
  -- the current line without its LF and without one CR at its end
  pub text : List ℕ
  -- how many lines there were so far
  pub number : ℕ
  -- how many bytes of the input stand up to the end of the current line, its LF counted
  pub passed : ℕ
  -- the fault that is kept
  pub fault : Option LineFault
  -- whether the source said that it is at its end
  pub ended : Bool
  -- whether the line that was taken last as a request is of another protocol
  pub foreign : Bool

-- a reader before its first line
abbrev pub begun : LineLimits → Lines
begun limits = record {
  limits = limits;
  held = [];
  text = [];
  number = 0;
  passed = 0;
  fault = None;
  ended = false;
  foreign = false;
}

-- what the source has left for a reader, where it tells: nothing where the input has ended
abbrev pub left_for : Lines → SourceState → Option (List ℕ)
left_for lines source = if lines.ended then Some [] else source.left

-- what is left to read: the bytes that are held, and then what the source has left
abbrev pub rest_of : Lines → SourceState → Option (List ℕ)
rest_of lines source = prepend_known lines.held (left_for lines source)

-- Where the input has ended for a reader, its source is at its end.
abbrev pub KnowsEnd : Lines → SourceState → Type 0
KnowsEnd lines source = lines.ended ≡ true → IsAtEnd source.left

-- The counts are within the limits: each line has a byte at least. At most one byte past the total was taken from the
-- source, and no more bytes are held than the buffer has.
pub record InLimits (lines : Lines) : Type 0 where
  pub number : lines.number ≤ lines.passed
  pub passed : lines.passed ≤ lines.limits.total
  pub text : length lines.text ≤ lines.limits.line
  pub one_past : lines.passed + length lines.held ≤ lines.limits.total + 1
  pub in_the_buffer : length lines.held ≤ max_held

-- One more line is current. It takes a byte at least, and at most its text, a CR and an LF.
pub record CountsLine (old new : Lines) : Type 0 where
  pub number : new.number ≡ old.number + 1
  pub more : old.passed < new.passed
  pub holds_text : old.passed + length new.text ≤ new.passed
  pub at_most : new.passed ≤ old.passed + length new.text + 2

-- No byte is lost: where the source tells what it has left, as many bytes as before are passed, held or left.
abbrev pub LosesNone : Lines → Lines → SourceState → SourceState → Type 0
LosesNone old new before after =
    IfSome before.left (λ left. IsSomeAnd after.left (λ more.
    new.passed + length new.held + length more ≡ old.passed + length old.held + length left))

-- There is no current line, and the counts stand.
pub record CountsNone (old new : Lines) : Type 0 where
  pub text : new.text ≡ []
  pub number : new.number ≡ old.number
  pub passed : new.passed ≡ old.passed

-- what an answer says of the counts, and of the end of input
abbrev pub Counts : Lines → Lines → Result Bool LineFault → Type 0
Counts old new (Ok true) = CountsLine old new
Counts old new (Ok false) = CountsNone old new × (new.ended ≡ true)
Counts old new (Err other) = CountsNone old new

-- the test that the source failed in a call with this answer, where this fault was kept before the call
abbrev pub line_failed : {T : Type 0} → Option LineFault → Result T LineFault → Bool
line_failed None (Err fault.Read) = true
line_failed kept other = false

-- The first line of the rest is current, and what stands behind it is left.
pub record TakesLine (old new : Lines) (rest : List ℕ) (after : Option (List ℕ)) : Type 0
  where
    pub answer : answer_of old.limits old.passed rest ≡ Ok true
    pub text : new.text ≡ without_cr (raw_line rest)
    pub passed : new.passed ≡ old.passed + line_size rest
    pub left : after ≡ Some (after_line rest)
    pub lines : lines_of rest ≡ raw_line rest ∷ lines_of (after_line rest)
    pub last : first_lf rest ≡ length rest → new.ended ≡ true

-- The rest stays, and this is the answer for it.
pub record KeepsRest (old : Lines) (rest : List ℕ) (after : Option (List ℕ)) (result : Result Bool LineFault) : Type 0 where
  pub answer : answer_of old.limits old.passed rest ≡ result
  pub left : after ≡ Some rest

-- what an answer says of the rest, and what is left of it afterwards
abbrev pub Tells : Lines → Lines → List ℕ → Option (List ℕ) → Result Bool LineFault → Type 0
Tells old new rest after (Ok true) = TakesLine old new rest after
Tells old new rest after (Ok false) = KeepsRest old rest after (Ok false)
Tells old new rest after (Err fault.Read) = after ≡ Some rest
Tells old new rest after (Err other) = KeepsRest old rest after (Err other)

-- What a call does to what a reader knows of the end of input: it stays known, and no read fails behind it.
pub record Ends {T : Type 0} (old new : Lines) (before after : SourceState) (result : Result T LineFault) : Type 0 where
  pub stays : old.ended ≡ true → new.ended ≡ true
  pub knows_end : KnowsEnd old before → KnowsEnd new after
  pub fails_before : result ≡ Err fault.Read → old.ended ≡ false

-- What a call does to a reader that keeps no fault, and to the source: the next line, or the answer that there is none.
pub record Advances (old new : Lines) (before after : SourceState) (result : Result Bool LineFault) : Type 0 where
  pub limits : new.limits ≡ old.limits
  pub counts : Counts old new result
  pub lines : IfSome (rest_of old before) (λ rest. Tells old new rest (rest_of new after) result)
  pub loses_none : LosesNone old new before after
  pub ends : Ends old new before after result
  -- a read fails only where no whole line is held
  pub fails_within : result ≡ Err fault.Read → first_lf new.held ≡ length new.held
