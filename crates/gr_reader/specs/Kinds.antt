-- The kinds of faults.
use Rattle.std.specs.Prelude.{ℕ}
use Rattle.line_text.specs.declared.limits.LineFault.{LineFault}
use Rattle.line_text.specs.declared.limits.LineFault.TheVariants as lines
use Rattle.gr_reader.specs.declared.fault.FileFault.{FileFault}
use Rattle.gr_reader.specs.declared.fault.FileFault.TheVariants.{Line, Read}
use Rattle.gr_reader.specs.declared.fault.LineKind.{LineKind}
use Rattle.gr_reader.specs.declared.fault.LineKind.TheVariants.{BadLine, NoProblem, SecondProblem, SizeRange, NodeRange}
use Rattle.gr_reader.specs.declared.fault.LineKind.TheVariants.{WeightRange, CountWrong, LineTooLong, FileTooLong}

-- the number of a kind
abbrev pub kind_number : LineKind → ℕ
kind_number BadLine = 1
kind_number NoProblem = 2
kind_number SecondProblem = 3
kind_number SizeRange = 4
kind_number NodeRange = 5
kind_number WeightRange = 6
kind_number CountWrong = 7
kind_number LineTooLong = 8
kind_number FileTooLong = 9

-- a fault of a reader of lines, found at this line, as a file's fault
abbrev pub known_as : LineFault → ℕ → FileFault
known_as lines.TooLong line = Line LineTooLong line
known_as lines.Total line = Line FileTooLong line
known_as lines.Read line = Read
