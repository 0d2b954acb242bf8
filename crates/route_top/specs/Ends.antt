-- How a run of each command ends.
use Rattle.std.specs.Prelude.{ℕ, List, Option}
use Rattle.route_io.specs.Files.{FileMap}
use Rattle.command_words.specs.declared.commands.Command.{Command}
use Rattle.command_words.specs.declared.commands.Command.TheVariants.{Still, Waiting}
use Rattle.command_words.specs.declared.commands.WaitingCommand.TheVariants.{Follow, Lanes, Serve}
use Rattle.still_commands.specs.FilesRead.{FilesEnd}
use Rattle.still_commands.specs.Outcome.{Outcome}
use Rattle.still_commands.specs.Output.{StillEnds}
use Rattle.route_top.specs.Follow.{FollowEnds}
use Rattle.route_top.specs.Lanes.{LanesEnd}
use Rattle.route_top.specs.Serve.{ServeReplies}

-- how a run of a command ends, and what it sends to `out`, where nothing cuts that short
abbrev pub Ends : Option FileMap → Command → Outcome → List ℕ → Type 0
Ends files (Still command) = StillEnds files command
Ends files (Waiting (Lanes asked)) = FilesEnd (LanesEnd files asked) files asked.files
Ends files (Waiting (Serve asked)) = FilesEnd (λ net. ServeReplies asked) files asked.files
Ends files (Waiting (Follow asked)) = FollowEnds files asked
