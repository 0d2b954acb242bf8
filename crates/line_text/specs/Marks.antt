-- Where a line breaks the limits, and which fault that is.
use Rattle.std.specs.Prelude.{ℕ, ◌+◌, nat_lt, if◌then◌else◌, Bool, true, false, List, [], ◌∷◌, length, Option, Some}
use Rattle.std.specs.Prelude.{None, Result, Ok, Err}
use Rattle.line_text.specs.declared.limits.LineFault.{LineFault}
use Rattle.line_text.specs.declared.limits.LineFault.TheVariants.{TooLong, Total}
use Rattle.line_text.specs.declared.limits.LineLimits.{LineLimits}
use Rattle.line_text.specs.Lines.{raw_line, line_size}

-- the number of the byte of the input at which a line is too long: it has `raw` bytes before its LF
abbrev pub line_mark : LineLimits → ℕ → ℕ → Option ℕ
line_mark limits passed raw =
    if nat_lt limits.line raw then Some (passed + limits.line + 1) else None

-- the number of the byte past the total, if it stands in the line: that has `size` bytes with its LF
abbrev pub total_mark : LineLimits → ℕ → ℕ → Option ℕ
total_mark limits passed size =
    if nat_lt limits.total (passed + size) then Some (limits.total + 1) else None

-- the mark at the earlier byte decides, and the line's where both stand at the same byte
abbrev pub fault_of_marks : Option ℕ → Option ℕ → Option LineFault
fault_of_marks None None = None
fault_of_marks (Some line) None = Some TooLong
fault_of_marks None (Some total) = Some Total
fault_of_marks (Some line) (Some total) = if nat_lt total line then Some Total else Some TooLong

-- the fault of a line that stands behind `passed` bytes of the input
abbrev pub line_fault : LineLimits → ℕ → ℕ → ℕ → Option LineFault
line_fault limits passed raw size =
    fault_of_marks (line_mark limits passed raw) (total_mark limits passed size)

-- the fault of the first line of a text
abbrev pub first_fault : LineLimits → ℕ → List ℕ → Option LineFault
first_fault limits passed text = line_fault limits passed (length (raw_line text)) (line_size text)

-- the answer for a line: its fault, or that there is one
abbrev pub line_answer : Option LineFault → Result Bool LineFault
line_answer None = Ok true
line_answer (Some fault) = Err fault

-- the answer where this text is left behind `passed` bytes of the input: false at its end
abbrev pub answer_of : LineLimits → ℕ → List ℕ → Result Bool LineFault
answer_of limits passed [] = Ok false
answer_of limits passed (byte ∷ text) = line_answer (first_fault limits passed (byte ∷ text))
