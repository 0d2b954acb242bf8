-- What the steps of a request do to the bytes that a reader holds.
use Rattle.std.specs.Prelude.{◌≡◌, ◌<◌, ◌≤◌, ◌+◌, ℕ, nat_lt, ◌||◌, if◌then◌else◌, Bool, true, false, [], length}
use Rattle.std.specs.Prelude.{Option, Some, None, is_some, Result, Ok, Err, List, ◌++◌}
use Rattle.line_text.specs.declared.limits.LineFault.{LineFault}
use Rattle.line_text.specs.declared.limits.LineFault.TheVariants.{Total}
use Rattle.line_text.specs.declared.limits.LineLimits.{LineLimits}
use Rattle.line_text.specs.declared.limits.Request.{Request}
use Rattle.line_text.specs.declared.limits.Request.TheVariants.{Whole, Long}
use Rattle.line_text.specs.Foreign.{IsSkipped, is_foreign}
use Rattle.line_text.specs.declared.foreign.LineSeen.{LineSeen}
use Rattle.line_text.specs.Lines.{first_lf, raw_line, after_line, line_size}
use Rattle.line_text.specs.Reading.{Lines}
use Rattle.line_text.specs.Requests.{HoldsLine, request_text}

-- what a line is that has so many bytes before its LF, or more of them where a part was skipped
abbrev pub request_behind : LineLimits → Bool → ℕ → Request
request_behind limits cut raw = if cut || nat_lt limits.line raw then Long else Whole

-- the reader behind the first line that is held, taken as this request, which is of another protocol or not
abbrev pub past_request : Lines → Request → Bool → Lines
past_request lines request foreign = record lines {
  held = after_line lines.held;
  text = request_text request (raw_line lines.held);
  number = lines.number + 1;
  passed = lines.passed + line_size lines.held;
  foreign = foreign;
}

-- The line that was taken is of another protocol or not, whatever was skipped of it.
abbrev pub TellsForeign : Lines → Lines → Option LineSeen → Type 0
TellsForeign old new skipped = (front : List ℕ) → IsSkipped skipped front → new.foreign ≡ is_foreign (front ++ raw_line old.held)

-- The first line is held with its LF, and it is taken.
pub record TakesEnded (old new : Lines) (skipped : Option LineSeen) (request : Request) : Type 0 where
  pub whole : HoldsLine old
  pub within : old.passed + first_lf old.held < old.limits.total
  pub answer : request ≡ request_behind old.limits (is_some skipped) (length (raw_line old.held))
  pub taken : new ≡ past_request old request new.foreign
  pub foreign : TellsForeign old new skipped

-- Nothing changes, no LF is held, and the total isn't reached.
pub record LacksEnd (old new : Lines) : Type 0 where
  pub same : new ≡ old
  pub part : first_lf new.held ≡ length new.held
  pub within : new.passed + length new.held < new.limits.total

-- Nothing changes, and the first line isn't ended within the total.
pub record EndsPast (old new : Lines) (fault : LineFault) : Type 0 where
  pub total : fault ≡ Total
  pub same : new ≡ old
  pub past : old.limits.total ≤ old.passed + first_lf old.held

-- what an answer says of the first line that is held
abbrev pub TakesAsked : Lines → Lines → Option LineSeen → Result (Option Request) LineFault → Type 0
TakesAsked old new skipped (Ok (Some request)) = TakesEnded old new skipped request
TakesAsked old new skipped (Ok None) = LacksEnd old new
TakesAsked old new skipped (Err fault) = EndsPast old new fault

-- What is held was the last of the input, and it is taken as this request.
pub record TakesLast (old new : Lines) (skipped : Option LineSeen) (request : Request) : Type 0 where
  pub answer : request ≡ request_behind old.limits (is_some skipped) (length (raw_line old.held))
  pub taken : new ≡ past_request old request new.foreign
  pub foreign : TellsForeign old new skipped
  pub some : is_some skipped ≡ false → 0 < length old.held

-- Nothing is held, and nothing was skipped.
pub record LacksLine (old new : Lines) (skipped : Option LineSeen) : Type 0 where
  pub uncut : is_some skipped ≡ false
  pub nothing : old.held ≡ []
  pub same : new ≡ old

-- what an answer at the end of input says
abbrev pub EndsInput : Lines → Lines → Option LineSeen → Option Request → Type 0
EndsInput old new skipped (Some request) = TakesLast old new skipped request
EndsInput old new skipped None = LacksLine old new skipped

-- what was skipped of a line, where what is held of it is skipped too or not
abbrev pub skipped_with : List ℕ → List ℕ → Bool → List ℕ
skipped_with front held true = front ++ held
skipped_with front held false = front

-- the reader without the bytes that are held of a line that is too long
abbrev pub without_held : Lines → Bool → Lines
without_held lines true = record lines { held = []; passed = lines.passed + length lines.held }
without_held lines false = lines
