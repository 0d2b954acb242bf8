-- Runs of the command `follow`.
use Rattle.std.proofs.Common.{◌∙◌, ℕ, List, [], ◌∷◌, ◌++◌, append_assoc, ap, arith, false, None, length, ◌≤◌, refl, subst, sym, Ok, Err}
use Rattle.std.specs.Prelude.{◌==◌, Option}
use Rattle.std.specs.List.{AllZip}
use Rattle.road_network.specs.Network.{Network}
use Rattle.route_io.specs.declared.fault.WriteFault.{WriteFault}
use Rattle.route_io.specs.Files.{FileMap}
use Rattle.route_io.specs.Sinks.{SinkState, Sends}
use Rattle.route_io.specs.Sources.{SourceState, ReadsFiles}
use Rattle.still_commands.specs.declared.stop.Stop.TheVariants as stop
use Rattle.still_commands.specs.FilesRead.{FilesEnd, ReadAs}
use Rattle.still_commands.specs.Outcome.{Outcome, done, no_memory, failed_file}
use Rattle.still_commands.specs.Output.{RunsCommand}
use Rattle.still_commands.specs.Stops.{Replies, outcome_of}
use Rattle.still_commands.proofs.FilesReadLemmas.{ends_over}
use Rattle.still_commands.proofs.RunsLemmas.{nothing_sent, replies_so, runs_then, sent_done, sent_part}
use Rattle.route_top.specs.Lanes.{SaysScript, ScriptStop, ScriptsEnd, ScriptsStop, scripts_read, scripts_stop, starved}
use Rattle.route_top.proofs.LanesRuns.{script_leaves_out}

-- scripts behind one another
pub says_append : (files : Option FileMap) (names more : List (List ℕ)) (scripts others : List (List ℕ)) → AllZip (SaysScript files) names scripts
    → AllZip (SaysScript files) more others → AllZip (SaysScript files) (names ++ more) (scripts ++ others)
says_append files [] more [] others says also = also
says_append files [] more (script ∷ scripts) others says also = absurd says
says_append files (name ∷ names) more [] others says also = absurd says
says_append files (name ∷ names) more (script ∷ scripts) others says also = (says.0, says_append files names more scripts others says.1 also)

-- memory may run out at the first
pub starves_first : (files : Option FileMap) (names : List (List ℕ)) → 1 ≤ length names → ScriptsStop files names no_memory
starves_first files [] some = absurd (omega (arith, some))
starves_first files (name ∷ names) some = (name, record { before = []; after = names; place = refl; scripts = []; read = tt }, starved)

-- the only one ends the run
pub stops_only : (files : Option FileMap) (name : List ℕ) {outcome : Outcome} → ScriptStop files name outcome → ScriptsStop files (name ∷ []) outcome
stops_only files name why = (name, record { before = []; after = []; place = refl; scripts = []; read = tt }, why)

module _ (files : Option FileMap) (names more : List (List ℕ)) where
  -- one of the first that isn't read ends the run
  pub stops_first : {outcome : Outcome} → ScriptsStop files names outcome → ScriptsStop files (names ++ more) outcome
  stops_first why =
      let comes = why.1 in (
        why.0,
        record {
          before = comes.before;
          after = comes.after ++ more;
          place = ap (λ (l : List (List ℕ)). l ++ more) comes.place ∙ append_assoc comes.before (why.0 ∷ comes.after) more;
          scripts = comes.scripts;
          read = comes.read;
        },
        why.2,
      )

  -- so does one of the others, where the first were read
  pub stops_later : {outcome : Outcome} (scripts : List (List ℕ)) → AllZip (SaysScript files) names scripts → ScriptsStop files more outcome
      → ScriptsStop files (names ++ more) outcome
  stops_later scripts says why =
      let comes = why.1 in (
        why.0,
        record {
          before = names ++ comes.before;
          after = comes.after;
          place = ap (λ (l : List (List ℕ)). names ++ l) comes.place ∙ sym (append_assoc names comes.before (why.0 ∷ comes.after));
          scripts = scripts ++ comes.scripts;
          read = says_append files names comes.before scripts comes.scripts says comes.read;
        },
        why.2,
      )

-- the network was read, and the run goes on to files that are read whole
module _ (After : Network → List (List ℕ) → Outcome → List ℕ → Type 0) (files names : List (List ℕ)) (folder mid after : SourceState)
    (net : Network) (read : ReadAs folder.files files net) (reads : ReadsFiles folder mid None) where
  goes_on_to : (out replied : SinkState) (outcome : Outcome)
      → RunsCommand (ScriptsEnd (After net) mid.files names) mid after out replied outcome
      → RunsCommand (FilesEnd (λ n. ScriptsEnd (After n) folder.files names) folder.files files) folder after out replied outcome
  goes_on_to out replied outcome runs =
      ends_over (λ n. ScriptsEnd (After n) folder.files names) files folder after net mid out replied outcome read reads
      (subst (λ fs. RunsCommand (ScriptsEnd (After net) fs names) mid after out replied outcome) reads.files runs)

  -- one of them ends the run
  pub ends_at_named : {outcome : Outcome} (out : SinkState) → ScriptsStop mid.files names outcome → ReadsFiles mid after (failed_file outcome)
      → RunsCommand (FilesEnd (λ n. ScriptsEnd (After n) folder.files names) folder.files files) folder after out out outcome
  ends_at_named {outcome} out why more = goes_on_to out out outcome
      (nothing_sent (ScriptsEnd (After net) mid.files names) outcome mid after out (script_leaves_out why.2) (scripts_stop why) more)

  -- they were read, and the run only replies
  pub ends_over_named : (scripts : List (List ℕ)) (out replied : SinkState) (outcome : Outcome)
      → AllZip (SaysScript mid.files) names scripts → ReadsFiles mid after None → Replies (After net scripts) out replied outcome
      → RunsCommand (FilesEnd (λ n. ScriptsEnd (After n) folder.files names) folder.files files) folder after out replied outcome
  ends_over_named scripts out replied outcome says more replies = goes_on_to out replied outcome
      (runs_then (After net scripts) (ScriptsEnd (After net) mid.files names) (λ o text then. scripts_read scripts says then)
      mid after after out replied outcome more (replies after))

-- what is sent whole or in part
module _ (Ending : Outcome → List ℕ → Type 0) (text : List ℕ) (whole : Ending done text) (out replied : SinkState) where
  pub sends_whole : Sends {T = Unit {0}} out replied text (Ok tt) → Replies Ending out replied done
  sends_whole sent = replies_so Ending done text out replied done whole (sent_done text out replied sent)

  pub sends_part : (fault : WriteFault) → Sends {T = Unit {0}} out replied text (Err fault) → Replies Ending out replied (outcome_of (stop.Out fault))
  sends_part fault sent = replies_so Ending done text out replied (outcome_of (stop.Out fault)) whole (sent_part done text out replied fault sent)
