-- The calls of a form in memory, of which some are to fail.
use Rattle.std.specs.Prelude.{ℕ, List, Contains, Result, Ok, Err}
use Rattle.route_io.specs.declared.fault.WriteFault.{WriteFault}
use Rattle.route_io.specs.declared.fault.WriteFault.TheVariants as write
use Rattle.route_io.specs.Causes.{count_up}

-- the numbers of the calls that are to fail, how many calls were made, and how many faults there were
pub record CallList : Type 0 where
  pub fails : List ℕ
  pub made : ℕ
  pub faults : ℕ

-- no call was made yet
abbrev pub none_made : List ℕ → CallList
none_made fails = record { fails = fails; made = 0; faults = 0 }

-- The next call's number, which starts at 0, is listed.
abbrev pub IsToFail : CallList → Type 0
IsToFail calls = Contains calls.fails calls.made

-- after a call that was no fault
abbrev pub counted : CallList → CallList
counted calls = record calls { made = count_up calls.made }

-- after a call that was a fault
abbrev pub faulted : CallList → CallList
faulted calls = record calls { made = count_up calls.made; faults = count_up calls.faults }

-- after a read or a selection with this answer
abbrev pub after_call : {T E : Type 0} → CallList → Result T E → CallList
after_call calls (Ok value) = counted calls
after_call calls (Err fault) = faulted calls

-- after a write with this answer
abbrev pub after_write : {T : Type 0} → CallList → Result T WriteFault → CallList
after_write calls (Ok n) = counted calls
after_write calls (Err write.Failed) = faulted calls
after_write calls (Err (write.OutOfMemory want)) = counted calls
