-- How far a reader has come in the text of its source, line by line, up to the end or the first line that breaks a limit.
use Rattle.std.specs.Prelude.{◌≡◌, ⊤, ℕ, ◌+◌, ◌-◌, ◌≤◌, min, sum_by, Bool, true, false, List, [], ◌∷◌, ◌++◌, length, map, All}
use Rattle.std.specs.Prelude.{Option, Some, None, IfSome, IsSomeAnd, Result, Ok, Err}
use Rattle.route_io.specs.Sources.{SourceState, ReadsFrom}
use Rattle.line_text.specs.declared.limits.LineFault.{LineFault}
use Rattle.line_text.specs.declared.limits.LineFault.TheVariants as fault
use Rattle.line_text.specs.declared.limits.LineLimits.{LineLimits}
use Rattle.line_text.specs.Lines.{lines_of, without_cr}
use Rattle.line_text.specs.Marks.{line_fault}
use Rattle.line_text.specs.Reading.{Lines, InLimits, LosesNone, begun, rest_of}

-- how many bytes a line takes behind `passed` of so many in all: its LF is one of them, which the last line may lack
abbrev pub size_in : ℕ → ℕ → List ℕ → ℕ
size_in total passed line = min (length line + 1) (total - passed)

-- how many bytes these first lines take of a text of so many
abbrev pub passed_by : ℕ → List (List ℕ) → ℕ
passed_by total front = min (sum_by (λ line. length line + 1) front) total

-- the limit that a line breaks behind these in a text of so many bytes
abbrev pub fault_behind : LineLimits → ℕ → List (List ℕ) → List ℕ → Option LineFault
fault_behind limits total front line =
    line_fault limits (passed_by total front) (length line) (size_in total (passed_by total front) line)

-- The first lines of a text, of which none breaks a limit: without CR they are these texts, and so many stand behind them.
pub record Front (limits : LineLimits) (bytes : List ℕ) (taken back : List (List ℕ)) : Type 0 where
  pub front : List (List ℕ)
  pub parts : lines_of bytes ≡ front ++ back
  pub texts : taken ≡ map without_cr front
  pub short : All (λ line. length line ≤ limits.line) front
  pub within : passed_by (length bytes) front ≤ limits.total

-- What is left of a text behind these first lines, which take so many bytes.
pub record Leaves (limits : LineLimits) (bytes : List ℕ) (texts : List (List ℕ)) (size : ℕ) (rest : List ℕ) : Type 0 where
  pub lines : Front limits bytes texts (lines_of rest)
  pub passed : size ≡ passed_by (length bytes) lines.front
  pub sizes : size + length rest ≡ length bytes

-- Behind these first lines stands one that breaks this limit, or none.
pub record Follows (limits : LineLimits) (bytes : List ℕ) (texts : List (List ℕ)) (line : List ℕ) (broken : Option LineFault) : Type 0 where
  pub back : List (List ℕ)
  pub lines : Front limits bytes texts (line ∷ back)
  pub fault : fault_behind limits (length bytes) lines.front line ≡ broken

-- what the next line's answer says of the text behind these first lines, where this is then the current line
abbrev pub NextOf : LineLimits → List ℕ → List (List ℕ) → List ℕ → Result Bool LineFault → Type 0
NextOf limits bytes texts text (Ok true) = (line : List ℕ) × (text ≡ without_cr line) × Follows limits bytes texts line None
NextOf limits bytes texts text (Ok false) = Front limits bytes texts []
NextOf limits bytes texts text (Err fault.Read) = ⊤
NextOf limits bytes texts text (Err broken) = (line : List ℕ) × Follows limits bytes texts line (Some broken)

-- A reader that began where its source was at the start has taken these texts of lines, and no fault came.
pub record HasCome (limits : LineLimits) (start now : SourceState) (lines : Lines) (texts : List (List ℕ)) : Type 0 where
  pub limited : lines.limits ≡ limits
  pub goes_on : lines.fault ≡ None
  pub number : lines.number ≡ length texts
  pub in_limits : InLimits lines
  pub source : ReadsFrom start now false
  pub loses_none : LosesNone (begun limits) lines start now
  pub text : IfSome start.left (λ bytes. IsSomeAnd (rest_of lines now) (Leaves limits bytes texts lines.passed))

-- at most so many bytes were taken from a source, which still tells what is left where it told it before
abbrev pub TakesAtMost : ℕ → SourceState → SourceState → Type 0
TakesAtMost most before after =
    IfSome before.left (λ bytes. IsSomeAnd after.left (λ rest. length bytes ≤ length rest + most))
