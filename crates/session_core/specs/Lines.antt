-- The lines that a session and an operator send, and what each of them is.
use Rattle.std.specs.Prelude.{◌≡◌, ℕ, ◌<◌, ◌≤◌, List, [], length, take, filter}
use Rattle.line_text.specs.Fields.{fields_of}
use Rattle.line_text.specs.Lines.{is_lf, lines_of, without_cr}
use Rattle.line_text.specs.declared.limits.Request.{Request as Kind}
use Rattle.line_text.specs.declared.limits.Request.TheVariants.{Whole, Long}
use Rattle.session_requests.specs.declared.line.Line.{Line}
use Rattle.session_requests.specs.declared.line.Line.TheVariants.{Blank, Request, Other}

-- the most bytes of a request before its LF
abbrev pub max_request : ℕ
max_request = 1024

-- of the lines of a text those that an LF ends
abbrev pub ended_lines : List ℕ → List (List ℕ)
ended_lines text = take (length (filter is_lf text)) (lines_of text)

-- the line is no longer than a request may be, a CR at its end counted, and has no field
abbrev pub IsBlank : List ℕ → Type 0
IsBlank raw = (length raw ≤ max_request) × (fields_of (without_cr raw) ≡ [])

-- the line is no longer than that, and asks for this, where `Asks` says what the text of a request asks
abbrev pub IsRequest : {R : Type 0} → (List ℕ → R → Type 0) → List ℕ → R → Type 0
IsRequest Asks raw r = (length raw ≤ max_request) × Asks (without_cr raw) r

-- what a line is: one that is too long for a request is neither blank nor a request
abbrev pub IsLine : {R : Type 0} → (List ℕ → R → Type 0) → List ℕ → Line R → Type 0
IsLine Asks raw Blank = IsBlank raw
IsLine Asks raw (Request r) = IsRequest Asks raw r
IsLine {R} Asks raw Other = (¬ IsBlank raw) × ((r : R) → ¬ IsRequest Asks raw r)

-- the text is that of the line without one CR at its end; there is none where the line is too long for a request
abbrev pub IsText : Kind → List ℕ → List ℕ → Type 0
IsText Whole text raw = (length raw ≤ max_request) × (text ≡ without_cr raw)
IsText Long text raw = max_request < length raw
