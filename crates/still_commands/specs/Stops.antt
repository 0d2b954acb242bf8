-- The outcomes that the code's answers stand for.
use Rattle.std.specs.Prelude.{◌≡◌, ◌++◌, ℕ, List, Result, Ok, Err, decimal}
use Rattle.command_words.specs.declared.fault.WordsFault.TheVariants as words
use Rattle.arc_graph.specs.declared.join.JoinFault.{JoinFault}
use Rattle.arc_graph.specs.declared.join.JoinFault.TheVariants as join
use Rattle.link_doors.specs.declared.town.TownFault.{TownFault}
use Rattle.link_doors.specs.declared.town.TownFault.TheVariants as town
use Rattle.route_io.specs.Sinks.{SinkState}
use Rattle.route_io.specs.Sources.{SourceState}
use Rattle.route_io.specs.declared.fault.WriteFault.TheVariants as write
use Rattle.session_core.specs.declared.reply.Reply.{Reply}
use Rattle.session_core.specs.declared.reply.Reply.TheVariants.{Answer, Refusal}
use Rattle.session_core.specs.declared.fault.ReplyFault.{ReplyFault}
use Rattle.session_core.specs.declared.fault.ReplyFault.TheVariants as reply
use Rattle.still_commands.specs.declared.stop.Script.{Script}
use Rattle.still_commands.specs.declared.stop.Script.TheVariants.{Operator, Session}
use Rattle.still_commands.specs.declared.stop.ScriptFault.{ScriptFault}
use Rattle.still_commands.specs.declared.stop.ScriptFault.TheVariants as script
use Rattle.still_commands.specs.declared.stop.Stop.{Stop}
use Rattle.still_commands.specs.declared.stop.Stop.TheVariants as stop
use Rattle.still_commands.specs.Outcome.{Outcome, done, bad_words, folder_failed, out_failed, bad_file, bad_files}
use Rattle.still_commands.specs.Outcome.{bad_pairs, bad_cert, failed_rule, script_too_long, town_failed, refused, no_memory, out_wanted}
use Rattle.still_commands.specs.Output.{RunsCommand}

-- the name of a script
abbrev pub script_name : Script → List ℕ
script_name (Operator name) = name.now
script_name (Session stem number) = stem.now ++ decimal number

-- the outcome that a script which wasn't read is
abbrev pub script_outcome : List ℕ → ScriptFault → Outcome
script_outcome name script.Folder = folder_failed name
script_outcome name script.TooLong = script_too_long name
script_outcome name (script.OutOfMemory want) = no_memory

-- the outcome that a reason is
abbrev pub outcome_of : Stop → Outcome
outcome_of (stop.Words words.Refused) = bad_words
outcome_of (stop.Words (words.OutOfMemory want)) = no_memory
outcome_of (stop.Folder name) = folder_failed name.now
outcome_of (stop.Out write.Failed) = out_failed
outcome_of (stop.Out (write.OutOfMemory want)) = out_wanted
outcome_of (stop.File name line kind) = bad_file name.now line kind
outcome_of (stop.Files way) = bad_files way
outcome_of (stop.Pairs name line kind) = bad_pairs name.now line kind
outcome_of (stop.Script one fault) = script_outcome (script_name one) fault
outcome_of (stop.Cert name line) = bad_cert name.now line
outcome_of (stop.Rule name rule label) = failed_rule name.now rule label
outcome_of stop.Refused = refused
outcome_of stop.Town = town_failed
outcome_of (stop.OutOfMemory want) = no_memory

-- how a run ended
abbrev pub run_outcome : {T : Type 0} → Result T Stop → Outcome
run_outcome (Ok value) = done
run_outcome (Err stop) = outcome_of stop

-- the outcome of a run whose reply is of this kind, once it was sent whole
abbrev pub reply_outcome : Reply → Outcome
reply_outcome Answer = done
reply_outcome Refusal = refused

-- why files that give no network end a run
abbrev pub stop_of : JoinFault → Stop
stop_of (join.Files way) = stop.Files way
stop_of (join.OutOfMemory want) = stop.OutOfMemory want

-- why a town that doesn't listen ends a run
abbrev pub stop_of_town : TownFault → Stop
stop_of_town town.Failed = stop.Town
stop_of_town (town.OutOfMemory want) = stop.OutOfMemory want

-- why a reply that wasn't sent whole ends a run
abbrev pub stop_at : ReplyFault → Stop
stop_at (reply.Out cut) = stop.Out cut
stop_at (reply.OutOfMemory want) = stop.OutOfMemory want

-- what is sent is this text, and the run ends so
abbrev pub IsReply : Outcome → List ℕ → Outcome → List ℕ → Type 0
IsReply end reply outcome text = (outcome ≡ end) × (text ≡ reply)

-- what a call does to the sink of replies that leaves the folder alone
abbrev pub Replies : (Outcome → List ℕ → Type 0) → SinkState → SinkState → Outcome → Type 0
Replies Ending out replied outcome = (folder : SourceState) → RunsCommand Ending folder folder out replied outcome
