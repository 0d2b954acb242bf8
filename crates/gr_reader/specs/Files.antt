-- Whole files of records, and the first fault of a text that is none.
use Rattle.std.specs.Prelude.{◌≡◌, ℕ, ◌+◌, ◌-◌, ◌<◌, ◌≤◌, Bool, true, false, List, [], ◌∷◌, length, map, min, take}
use Rattle.std.specs.Prelude.{sum_by, count_by, slice_get, Option, Some, None, All}
use Rattle.std.specs.List.{filter_map}
use Rattle.line_text.specs.Lines.{lines_of, without_cr}
use Rattle.line_text.specs.declared.limits.LineLimits.{LineLimits}
use Rattle.gr_reader.specs.declared.fault.LineKind.{LineKind}
use Rattle.gr_reader.specs.Rules.{LineForm, Rules, form_of, IsWithinRange}
use Rattle.gr_reader.specs.Rules.LineForm.{Problem, Record, Malformed}
use Rattle.gr_reader.specs.Table.{State, line_kind, end_kind}

module _ {P R : Type 0} where
  -- what the first problem line says
  abbrev pub problem_in : List (LineForm P R) → Option P
  problem_in [] = None
  problem_in (Problem sizes ∷ forms) = Some sizes
  problem_in (Record r ∷ forms) = problem_in forms
  problem_in (Malformed ∷ forms) = problem_in forms

  -- the test that a line is a record
  abbrev pub is_record : LineForm P R → Bool
  is_record (Problem sizes) = false
  is_record (Record r) = true
  is_record Malformed = false

module _ {P R : Type 0} (rules : Rules P R) where
  -- what the lines say that aren't ignored, in order
  abbrev pub forms_of : List (List ℕ) → List (LineForm P R)
  forms_of lines = filter_map (λ line. form_of rules (without_cr line)) lines

  -- The text is a file of this problem line and these records. But for blank lines and comments it has one problem line
  -- and behind it as many records as that says.
  pub record IsFile (limits : LineLimits) (bytes : List ℕ) (problem : P) (records : List R) : Type 0 where
    pub short_lines : All (λ line. length line ≤ limits.line) (lines_of bytes)
    pub short_file : length bytes ≤ limits.total
    pub lines : forms_of (lines_of bytes) ≡ Problem problem ∷ map Record records
    pub right_size : rules.is_size problem ≡ true
    pub counted : length records ≡ rules.count problem
    pub in_range : All (IsWithinRange rules problem) records

  -- the state behind these first lines of a file of so many bytes
  abbrev pub state_behind : ℕ → List (List ℕ) → State P
  state_behind total lines = record {
    problem = problem_in (forms_of lines);
    come = count_by is_record (forms_of lines);
    number = length lines;
    passed = min (sum_by (λ line. length line + 1) lines) total;
  }

  -- the fault of a line, or of the place behind the last one
  abbrev pub kind_there : LineLimits → ℕ → State P → Option (List ℕ) → Option LineKind
  kind_there limits total state (Some line) = line_kind rules limits total state line
  kind_there limits total state None = end_kind rules state

  -- the fault of the place number i, from 0
  abbrev pub kind_at : LineLimits → List ℕ → ℕ → Option LineKind
  kind_at limits bytes i =
      kind_there limits (length bytes) (state_behind (length bytes) (take i (lines_of bytes)))
      (slice_get (lines_of bytes) i)

  -- The line of this number, from 1, is the first faulty one, and this is the first fault that fits it. The place
  -- behind the last line counts as a line.
  pub record FirstFault (limits : LineLimits) (bytes : List ℕ) (kind : LineKind) (line : ℕ) : Type 0 where
    pub counted : 1 ≤ line
    pub within : line ≤ length (lines_of bytes) + 1
    pub faulty : kind_at limits bytes (line - 1) ≡ Some kind
    pub first : (i : ℕ) → i < line - 1 → kind_at limits bytes i ≡ None
