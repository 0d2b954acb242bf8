-- What a run does by its words: what it reads and sends, and how it ends.
use Rattle.std.specs.Prelude.{◌≡◌, ◌==◌, ℕ, ◌<◌, List, [], Option, Result, length, take, Contains}
use Rattle.std.specs.Io.KnownBytes.{Appends}
use Rattle.route_io.specs.Files.{FileMap}
use Rattle.route_io.specs.Sinks.{SinkState, Sends, WritesTo}
use Rattle.route_io.specs.Sources.{SourceState, ReadsFiles}
use Rattle.route_io.specs.declared.fault.WriteFault.{WriteFault}
use Rattle.road_network.specs.declared.query.AnswerKind.TheVariants.{Walks}
use Rattle.session_core.specs.declared.mode.SearchMode.TheVariants as search
use Rattle.command_words.specs.Words.{Asks}
use Rattle.command_words.specs.declared.commands.Command.TheVariants.{Still}
use Rattle.command_words.specs.declared.commands.StillCommand.{StillCommand}
use Rattle.command_words.specs.declared.commands.StillCommand.TheVariants.{Batch, Check, Gen, Goal, Prove, Single, Verify}
use Rattle.still_commands.specs.Batch.{BatchReplies}
use Rattle.still_commands.specs.Check.{CheckReplies}
use Rattle.still_commands.specs.FilesRead.{FilesEnd}
use Rattle.still_commands.specs.Gen.{GenEnds}
use Rattle.still_commands.specs.Outcome.{Outcome, bad_words, out_failed, no_memory, out_wanted}
use Rattle.still_commands.specs.Outcome.{status_of, note_of, failed_file, out_has_wanted}
use Rattle.still_commands.specs.Prove.{ProveReplies}
use Rattle.still_commands.specs.Queries.{QueryReplies}
use Rattle.still_commands.specs.Verify.{VerifyEnds}

-- the words ask for this command, which waits for nobody
abbrev pub AsksStill : List (List ℕ) → StillCommand → Type 0
AsksStill words command = Asks words (Still command)

-- the words are those of a command that waits for nobody
abbrev pub AreStillWords : List (List ℕ) → Type 0
AreStillWords words = (command : StillCommand) × AsksStill words command

-- a name is one of those that are asked for
abbrev pub IsAskedName : {Command : Type 0} → (Command → List (List ℕ)) → (Command → Type 0) → List ℕ → Type 0
IsAskedName {Command} names_of IsAsked name = (asked : Command) × IsAsked asked × Contains (names_of asked) name

-- how a run of a command that waits for nobody ends, and what it sends to `out`, where nothing cuts that short
abbrev pub StillEnds : Option FileMap → StillCommand → Outcome → List ℕ → Type 0
StillEnds files (Single asked) = FilesEnd (QueryReplies search.Plain asked.kind asked.query) files asked.files
StillEnds files (Goal asked) = FilesEnd (QueryReplies search.Goal Walks asked.query) files asked.files
StillEnds files (Check names) = FilesEnd CheckReplies files names
StillEnds files (Batch asked) = FilesEnd (BatchReplies files asked) files asked.files
StillEnds files (Gen asked) = GenEnds asked
StillEnds files (Prove asked) = FilesEnd (ProveReplies asked.query) files asked.files
StillEnds files (Verify asked) = FilesEnd (VerifyEnds files asked.cert) files asked.files

-- the same of a run, by what its words ask for; `Ends` says it of each command
pub data EndsByWords {Command : Type 0} (Ends : Option FileMap → Command → Outcome → List ℕ → Type 0) (IsAsked : Command → Type 0)
    (files : Option FileMap) : Outcome → List ℕ → Type 0 where
  -- the words ask for no command
  no_command : ¬ ((asked : Command) × IsAsked asked) → EndsByWords Ends IsAsked files bad_words []
  -- memory ran out while they were read
  starved : EndsByWords Ends IsAsked files no_memory []
  -- the words ask for a command, which ends so
  asks : {outcome : Outcome} {text : List ℕ} (asked : Command) → IsAsked asked → Ends files asked outcome text
      → EndsByWords Ends IsAsked files outcome text

-- A part from the front, short of the whole, of what a run sends that nothing cuts short.
pub record IsCut (Ending : Outcome → List ℕ → Type 0) (text : List ℕ) : Type 0 where
  pub outcome : Outcome
  pub whole : List ℕ
  pub ends : Ending outcome whole
  pub size : ℕ
  pub short : size < length whole
  pub part : text ≡ take size whole

-- how a run ends, and what it sends, where the sink of replies may cut that short
pub data EndsOrCut (Ending : Outcome → List ℕ → Type 0) : Outcome → List ℕ → Type 0 where
  -- nothing cut it
  uncut : {outcome : Outcome} {text : List ℕ} → Ending outcome text → EndsOrCut Ending outcome text
  -- the sink failed
  failed : {text : List ℕ} → IsCut Ending text → EndsOrCut Ending out_failed text
  -- the sink wanted memory
  wanted : {text : List ℕ} → IsCut Ending text → EndsOrCut Ending out_wanted text

-- What a run did to the folder and to the sink of replies, all of it by how it ended.
pub record RunsCommand (Ending : Outcome → List ℕ → Type 0) (folder after : SourceState) (out replied : SinkState)
    (outcome : Outcome) : Type 0 where
  -- what was sent, where the sink tells it
  pub text : List ℕ
  pub took : Appends out.sent replied.sent text
  pub ends : EndsOrCut Ending outcome text
  -- the folder's failures alone make status 3, whose note names the file selected last; those of the sink make status 4
  pub reads : ReadsFiles folder after (failed_file outcome)
  pub writes : WritesTo out replied (status_of outcome == 4) (out_has_wanted outcome)

-- The sink took the note, or a part of it from the front, short of the whole, and failed or wanted memory.
abbrev pub TookNote : SinkState → SinkState → List ℕ → Type 0
TookNote err noted note = (result : Result (Unit {0}) WriteFault) × Sends err noted note result

-- What a run does, all of it by one outcome: what it reads and sends by what its words ask for, its note and its status.
pub record Output {Command : Type 0} (Ends : Option FileMap → Command → Outcome → List ℕ → Type 0) (IsAsked : Command → Type 0)
    (folder after : SourceState) (out replied err noted : SinkState) (status : ℕ) : Type 0 where
  pub outcome : Outcome
  pub runs : RunsCommand (EndsByWords Ends IsAsked folder.files) folder after out replied outcome
  pub note : TookNote err noted (note_of outcome)
  pub status_is : status ≡ status_of outcome
