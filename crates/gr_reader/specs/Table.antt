-- Which fault a line has: the first of the table that fits it.
use Rattle.std.specs.Prelude.{ℕ, nat_le, if◌then◌else◌, not, Bool, true, false, is_none, is_some, List, []}
use Rattle.std.specs.Prelude.{◌∷◌, length, find, Option, Some, None, option_and_then}
use Rattle.std.specs.Option.{option_or}
use Rattle.line_text.specs.declared.limits.LineFault.{LineFault}
use Rattle.line_text.specs.declared.limits.LineFault.TheVariants as lines
use Rattle.line_text.specs.declared.limits.LineLimits.{LineLimits}
use Rattle.line_text.specs.Lines.{without_cr}
use Rattle.line_text.specs.Marks.{line_fault}
use Rattle.line_text.specs.Texts.{size_in}
use Rattle.gr_reader.specs.declared.fault.LineKind.{LineKind}
use Rattle.gr_reader.specs.declared.fault.LineKind.TheVariants.{BadLine, NoProblem, SecondProblem, SizeRange, NodeRange}
use Rattle.gr_reader.specs.declared.fault.LineKind.TheVariants.{WeightRange, CountWrong, LineTooLong, FileTooLong}
use Rattle.gr_reader.specs.Rules.{LineForm, Rules, form_of}
use Rattle.gr_reader.specs.Rules.LineForm.{Problem, Record, Malformed}

-- what stands before a place of a file: what the problem line says, and how many records, lines and bytes
pub record State (P : Type 0) : Type 0 where
  pub problem : Option P
  pub come : ℕ
  pub number : ℕ
  pub passed : ℕ

-- the faults of what a line says, in the order in which they are tried
abbrev pub order : List LineKind
order = BadLine ∷ NoProblem ∷ SecondProblem ∷ SizeRange ∷ CountWrong ∷ NodeRange ∷ WeightRange ∷ []

-- a limit that is broken
abbrev pub limit_kind : Option LineFault → Option LineKind
limit_kind None = None
limit_kind (Some lines.TooLong) = Some LineTooLong
limit_kind (Some lines.Total) = Some FileTooLong
limit_kind (Some lines.Read) = None

module _ {P R : Type 0} (rules : Rules P R) where
  -- the test that a line of this form has this fault, where this problem line and so many records stand before it
  abbrev pub fits : Option P → ℕ → LineForm P R → LineKind → Bool
  fits problem come Malformed BadLine = true
  fits problem come (Record r) NoProblem = is_none problem
  fits problem come (Problem sizes) SecondProblem = is_some problem
  fits problem come (Problem sizes) SizeRange = not (rules.is_size sizes)
  fits (Some known) come (Record r) CountWrong = nat_le (rules.count known) come
  fits (Some known) come (Record r) NodeRange = not (rules.has_nodes known r)
  fits problem come (Record r) WeightRange = not (rules.has_weight r)
  fits problem come form kind = false

  -- the first fault of what a line says
  abbrev pub form_kind : Option P → ℕ → LineForm P R → Option LineKind
  form_kind problem come form = find (fits problem come form) order

  -- the first fault of a line in a file of so many bytes: a broken limit comes before what it says
  abbrev pub line_kind : LineLimits → ℕ → State P → List ℕ → Option LineKind
  line_kind limits total state line =
      option_or
      (limit_kind (line_fault limits state.passed (length line) (size_in total state.passed line)))
      (option_and_then (form_kind state.problem state.come) (form_of rules (without_cr line)))

  -- what a file lacks at its end, where this problem line and so many records stand in it
  abbrev pub lacking : Option P → ℕ → Option LineKind
  lacking None come = Some NoProblem
  lacking (Some known) come = if nat_le (rules.count known) come then None else Some CountWrong

  -- the fault of the place behind the last line
  abbrev pub end_kind : State P → Option LineKind
  end_kind state = lacking state.problem state.come
