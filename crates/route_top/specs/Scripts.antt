-- What the reading of a script answers.
use Rattle.std.specs.Prelude.{◌≡◌, ℕ, ◌<◌, ◌≤◌, List, Bool, true, false, Option, Result, Ok, Err, IfSome, length}
use Rattle.std.specs.Global.{Vec}
use Rattle.route_io.specs.Files.{FileMap}
use Rattle.still_commands.specs.declared.stop.ScriptFault.{ScriptFault}
use Rattle.still_commands.specs.declared.stop.ScriptFault.TheVariants as fault
use Rattle.still_commands.specs.declared.stop.Stop.{Stop}
use Rattle.still_commands.specs.Stops.{outcome_of}
use Rattle.route_top.specs.Lanes.{SaysScript, ScriptStop, max_script}

-- the test that the source of a script failed
abbrev pub script_failed : {T : Type 0} → Result T ScriptFault → Bool
script_failed (Err fault.Folder) = true
script_failed other = false

-- all that was left of a source was read, or it is too long for a script
abbrev pub WholeRead : Option (List ℕ) → Result (Vec ℕ) ScriptFault → Type 0
WholeRead left (Ok bytes) = (length bytes.items ≤ max_script) × IfSome left (λ all. all ≡ bytes.items)
WholeRead left (Err fault.TooLong) = IfSome left (λ all. max_script < length all)
WholeRead left (Err _) = Unit {0}

-- the script of this name, or why it wasn't read
abbrev pub ScriptRead : Option FileMap → List ℕ → Result (Vec ℕ) Stop → Type 0
ScriptRead files name (Ok bytes) = SaysScript files name bytes.items
ScriptRead files name (Err stop) = ScriptStop files name (outcome_of stop)
