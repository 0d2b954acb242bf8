-- Runs of the command `lanes`.
use Rattle.std.proofs.Common.{◌≡◌, ◌≤◌, ℕ, List, [], ◌∷◌, ◌++◌, length, map, false, None, refl, subst, arith, Ok, Err}
use Rattle.std.specs.Prelude.{◌==◌, All, Option}
use Rattle.std.proofs.lemmas.List.Elements.{All-cons, All-head, All-nil, All-tail}
use Rattle.std.specs.List.{AllZip}
use Rattle.road_network.specs.Network.{Network}
use Rattle.route_io.specs.declared.fault.WriteFault.{WriteFault}
use Rattle.route_io.specs.Files.{FileMap}
use Rattle.route_io.specs.Sinks.{SinkState, Sends}
use Rattle.route_io.specs.Sources.{SourceState, ReadsFiles}
use Rattle.command_words.specs.Words.{scripts_of}
use Rattle.command_words.specs.declared.commands.Command.TheVariants.{Waiting}
use Rattle.command_words.specs.declared.commands.LanesWords.{LanesWords}
use Rattle.command_words.specs.declared.commands.WaitingCommand.TheVariants.{Lanes}
use Rattle.still_commands.specs.declared.stop.Stop.TheVariants as stop
use Rattle.still_commands.specs.FilesRead.{ReadAs}
use Rattle.still_commands.specs.Outcome.{Outcome, done, no_memory, failed_file}
use Rattle.still_commands.specs.Output.{RunsCommand}
use Rattle.still_commands.specs.Stops.{Replies, outcome_of}
use Rattle.still_commands.proofs.FilesReadLemmas.{ends_over}
use Rattle.still_commands.proofs.RunsLemmas.{LeavesOut, nothing_sent, replies_so, runs_then, sent_done, sent_part, starves}
use Rattle.route_top.specs.Lanes.{LanesEnd, LanesReplies, RepliesToScripts, SaysScript, ScriptStop, ScriptsEnd, ScriptsStop, failed, max_script, scripts_read, scripts_stop, starved, too_long}
use Rattle.route_top.specs.Ends.{Ends}

-- what holds of all names that are read holds of those of the scripts
pub of_scripts : (P : List ℕ → Type 0) (files scripts : List (List ℕ)) → All P (files ++ scripts) → All P scripts
of_scripts P [] scripts all = all
of_scripts P (file ∷ files) scripts all = of_scripts P files scripts (All-tail P file (files ++ scripts) all)

-- and of the first of two lists
pub of_front : (P : List ℕ → Type 0) (names more : List (List ℕ)) → All P (names ++ more) → All P names
of_front P [] more all = All-nil P
of_front P (name ∷ names) more all = All-cons P name names (All-head P name (names ++ more) all) (of_front P names more (All-tail P name (names ++ more) all))

module _ {L : Type 0} (script_of : L → List ℕ) (files : Option FileMap) where
  -- each script is short enough
  pub all_short : (names : List (List ℕ)) (links : List L) → AllZip (SaysScript files) names (map script_of links)
      → All (λ link. length (script_of link) ≤ max_script) links
  all_short names [] says = All-nil (λ link. length (script_of link) ≤ max_script)
  all_short [] (link ∷ links) says = absurd says
  all_short (name ∷ names) (link ∷ links) says =
      All-cons (λ l. length (script_of l) ≤ max_script) link links says.0.short (all_short names links says.1)

  -- there is a link for each script
  pub count_links : (names : List (List ℕ)) (links : List L) → AllZip (SaysScript files) names (map script_of links) → length links ≡ length names
  count_links [] [] says = refl
  count_links [] (link ∷ links) says = absurd says
  count_links (name ∷ names) [] says = absurd says
  count_links (name ∷ names) (link ∷ links) says = omega (arith, count_links names links says.1)

pub script_leaves_out : {files : Option FileMap} {name : List ℕ} {outcome : Outcome} → ScriptStop files name outcome → LeavesOut outcome
script_leaves_out failed = record { no_fault = refl; no_want = refl }
script_leaves_out (too_long exchanges) = record { no_fault = refl; no_want = refl }
script_leaves_out starved = record { no_fault = refl; no_want = refl }

module _ (asked : LanesWords) (net : Network) (scripts : List (List ℕ)) where
  -- memory ran out before anything was sent
  pub lanes_starve : (out : SinkState) → Replies (LanesReplies asked net scripts) out out no_memory
  lanes_starve out = starves (LanesReplies asked net scripts) out refl

  module _ (text : List ℕ) (exchanges : RepliesToScripts asked net scripts text) (out replied : SinkState) where
    -- all replies were sent
    pub lanes_replied : Sends {T = Unit {0}} out replied text (Ok tt) → Replies (LanesReplies asked net scripts) out replied done
    lanes_replied sent = replies_so (LanesReplies asked net scripts) done text out replied done exchanges (sent_done text out replied sent)

    -- a part of them was
    pub lanes_cut : (fault : WriteFault) → Sends {T = Unit {0}} out replied text (Err fault)
        → Replies (LanesReplies asked net scripts) out replied (outcome_of (stop.Out fault))
    lanes_cut fault sent = replies_so (LanesReplies asked net scripts) done text out replied (outcome_of (stop.Out fault)) exchanges
        (sent_part done text out replied fault sent)

-- the network was read, and the run goes on to the scripts
module _ (asked : LanesWords) (folder mid after : SourceState) (net : Network) (read : ReadAs folder.files asked.files net)
    (reads : ReadsFiles folder mid None) where
  goes_on_to_scripts : (out replied : SinkState) (outcome : Outcome)
      → RunsCommand (ScriptsEnd (LanesReplies asked net) mid.files (scripts_of asked)) mid after out replied outcome
      → RunsCommand (Ends folder.files (Waiting (Lanes asked))) folder after out replied outcome
  goes_on_to_scripts out replied outcome runs =
      ends_over (LanesEnd folder.files asked) asked.files folder after net mid out replied outcome read reads
      (subst (λ files. RunsCommand (ScriptsEnd (LanesReplies asked net) files (scripts_of asked)) mid after out replied outcome) reads.files runs)

  -- the scripts end the run
  pub ends_at_scripts : {outcome : Outcome} (out : SinkState) → ScriptsStop mid.files (scripts_of asked) outcome → ReadsFiles mid after (failed_file outcome)
      → RunsCommand (Ends folder.files (Waiting (Lanes asked))) folder after out out outcome
  ends_at_scripts {outcome} out why more = goes_on_to_scripts out out outcome
      (nothing_sent (ScriptsEnd (LanesReplies asked net) mid.files (scripts_of asked)) outcome mid after out (script_leaves_out why.2) (scripts_stop why) more)

  -- they were read, and the run only replies
  pub ends_over_scripts : (scripts : List (List ℕ)) (out replied : SinkState) (outcome : Outcome)
      → AllZip (SaysScript mid.files) (scripts_of asked) scripts → ReadsFiles mid after None → Replies (LanesReplies asked net scripts) out replied outcome
      → RunsCommand (Ends folder.files (Waiting (Lanes asked))) folder after out replied outcome
  ends_over_scripts scripts out replied outcome says more replies = goes_on_to_scripts out replied outcome
      (runs_then (LanesReplies asked net scripts) (ScriptsEnd (LanesReplies asked net) mid.files (scripts_of asked))
      (λ o text then. scripts_read scripts says then) mid after after out replied outcome more (replies after))
