-- What the command `serve` does over a network: it has the town listen, says so, and serves the links of its doors.
use Rattle.std.specs.Prelude.{◌≡◌, ◌≢◌, ◌⊎◌, ℕ, ◌^◌, is_some, ltb, Bool, true, false, List, [], ◌++◌, Option, Result, Ok, Err, codes}
use Rattle.route_io.specs.Causes.{Rose}
use Rattle.route_io.specs.Files.{FileMap}
use Rattle.route_io.specs.Sinks.{SinkState, Sends}
use Rattle.route_io.specs.declared.fault.WriteFault.{WriteFault}
use Rattle.route_io.specs.declared.fault.WriteFault.TheVariants as write
use Rattle.link_doors.specs.Doors.{DoorState}
use Rattle.link_doors.specs.Towns.{HandsOut, TakesBack, TownState}
use Rattle.answer_writer.specs.Replies.{and_number, end_line}
use Rattle.out_of_memory.specs.declared.OutOfMemory.{OutOfMemory}
use Rattle.road_network.specs.Network.{Network}
use Rattle.command_words.specs.declared.commands.Command.{Command}
use Rattle.command_words.specs.declared.commands.Command.TheVariants.{Waiting}
use Rattle.command_words.specs.declared.commands.ServeWords.{ServeWords}
use Rattle.command_words.specs.declared.commands.WaitingCommand.TheVariants.{Serve}
use Rattle.session_core.specs.declared.context.LinkPolicy.{LinkPolicy}
use Rattle.route_lanes.specs.Serving.{ServesLanes}
use Rattle.route_lanes.specs.declared.serve.Served.{Served}
use Rattle.still_commands.specs.FilesRead.{FilesStop, ReadAs}
use Rattle.still_commands.specs.Outcome.{Outcome, done, no_memory, out_failed, out_wanted, status_of, town_failed}
use Rattle.route_top.specs.Lanes.{graph_of, weights_of}

-- the most bytes that are taken from a link
abbrev pub max_taken : ℕ
max_taken = 2 ^ 40

-- how each link is served: a line of another protocol ends it, so that no web page can have a line obeyed
abbrev pub serve_policy : LinkPolicy
serve_policy = record { bytes = max_taken; guarded = true }

-- `ready L`: links may come in, for L lanes of sessions
abbrev pub ready_reply : ℕ → List ℕ
ready_reply lanes = codes "ready" ++ and_number lanes ++ end_line

-- what is sent: that links may come in, unless the town failed or memory ran out before
abbrev pub ServeReplies : ServeWords → Outcome → List ℕ → Type 0
ServeReplies asked done text = text ≡ ready_reply asked.lanes
ServeReplies asked town_failed text = (text ≡ []) ⊎ (text ≡ ready_reply asked.lanes)
ServeReplies asked no_memory text = (text ≡ []) ⊎ (text ≡ ready_reply asked.lanes)
ServeReplies asked outcome text = ⊥

-- how a run ends whose reply wasn't sent whole
abbrev pub cut_outcome : WriteFault → Outcome
cut_outcome write.Failed = out_failed
cut_outcome (write.OutOfMemory want) = out_wanted

-- how a run ends by whether memory ran out in a link, and whether a door failed
abbrev pub served_by : Bool → Bool → Outcome
served_by true failed = no_memory
served_by false true = town_failed
served_by false false = done

-- how a run ends by what became of the doors
abbrev pub served_outcome : Result Served OutOfMemory → Outcome
served_outcome (Ok served) = served_by (is_some served.want) (ltb 0 served.failed)
served_outcome (Err fault) = no_memory

-- What became of the doors that a town handed out, and how that ends the run.
pub data ServesDoors (asked : ServeWords) (net : Network) (doors after : List DoorState) (out replied : SinkState)
    : Outcome → Type 0 where
  -- it couldn't be said that links may come in, and no door was asked for one
  unready : (fault : WriteFault) → Sends {T = Unit {0}} out replied (ready_reply asked.lanes) (Err fault) → after ≡ doors
      → ServesDoors asked net doors after out replied (cut_outcome fault)
  -- it was said, and all lanes served their doors
  served : (result : Result Served OutOfMemory) → Sends {T = Unit {0}} out replied (ready_reply asked.lanes) (Ok tt)
      → ServesLanes (graph_of net) (weights_of net) asked.epoch asked.limits.budget serve_policy doors after result
      → ServesDoors asked net doors after out replied (served_outcome result)

-- How a town stands after it was asked to listen, what was sent then, and how that ends the run.
pub data ServesTown (asked : ServeWords) (net : Network) (old new : TownState) (out replied : SinkState) : Outcome → Type 0
  where
    -- it wanted memory, and is as it was
    unheard : new ≡ old → replied ≡ out → ServesTown asked net old new out replied no_memory
    -- it failed
    refused : (faults : ℕ) → Rose old.faults faults → new ≡ record old { asked = true; faults = faults } → replied ≡ out
        → ServesTown asked net old new out replied town_failed
    -- it handed out doors, which were served, and has them back
    listened : {outcome : Outcome} (mid : TownState) (doors after : List DoorState) → HandsOut old mid asked.lanes asked.links doors
        → ServesDoors asked net doors after out replied outcome → TakesBack mid new after
        → ServesTown asked net old new out replied outcome

-- What a run of `serve` does to the town, and how that ends it.
pub data AsksTown (files : Option FileMap) (asked : ServeWords) (old new : TownState) (out replied : SinkState)
    : Outcome → Type 0 where
  -- the weight files ended the run, the town wasn't asked, and nothing was said
  unasked : {outcome : Outcome} → FilesStop files asked.files outcome → new ≡ old → replied ≡ out
      → AsksTown files asked old new out replied outcome
  -- they say this network, and the town was asked
  asks : {outcome : Outcome} (net : Network) → ReadAs files asked.files net → ServesTown asked net old new out replied outcome
      → AsksTown files asked old new out replied outcome

-- what a run does to the town by what its words ask for, and how it ends
pub data TownByWords (IsAsked : Command → Type 0) (files : Option FileMap) (old new : TownState) (out replied : SinkState)
    : Outcome → Type 0 where
  -- the words don't ask for `serve`, and the town wasn't asked
  left_alone : {outcome : Outcome} → ((asked : ServeWords) → ¬ IsAsked (Waiting (Serve asked))) → status_of outcome ≢ 10 → new ≡ old
      → TownByWords IsAsked files old new out replied outcome
  -- memory ran out while they were read, and nothing was said
  unread : new ≡ old → replied ≡ out → TownByWords IsAsked files old new out replied no_memory
  -- they ask for `serve`
  serves : {outcome : Outcome} (asked : ServeWords) → IsAsked (Waiting (Serve asked)) → AsksTown files asked old new out replied outcome
      → TownByWords IsAsked files old new out replied outcome

-- The town wasn't asked yet, and may be asked for what words of `serve` say.
abbrev pub IsReadyTown : (Command → Type 0) → (List ℕ → List ℕ → ℕ → ℕ → Type 0) → TownState → Type 0
IsReadyTown IsAsked Admits town = (town.asked ≡ false)
    × ((asked : ServeWords) → IsAsked (Waiting (Serve asked)) → Admits asked.listen asked.operator asked.lanes asked.links)

-- What a run did to the town, and how that ended it, by the exit status. Status 10 comes of the town's failures alone, and they
-- lead to no other, unless memory runs out.
pub record EndsTown (IsAsked : Command → Type 0) (files : Option FileMap) (old new : TownState) (out replied : SinkState)
    (status : ℕ) : Type 0 where
  pub outcome : Outcome
  pub by_words : TownByWords IsAsked files old new out replied outcome
  pub status_is : status ≡ status_of outcome
  pub failed : status ≡ 10 → Rose old.faults new.faults
  pub stands : status ≢ 10 → status ≢ 9 → new.faults ≡ old.faults
