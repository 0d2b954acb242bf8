-- The named files that come one by one to the joiner, and the run that goes on over their network.
use Rattle.std.proofs.Common.{false, refl, sym, ap, subst, ◌∙◌, append_assoc, arith}
use Rattle.std.proofs.Common.{◌≡◌, ℕ, ◌+◌, ◌<◌, ◌≤◌, List, [], ◌∷◌, ◌++◌, Option, Some, None, IfSome, take, drop, get_or, length, map}
use Rattle.std.specs.Prelude.{◌==◌}
use Rattle.std.specs.List.{All}
use Rattle.std.proofs.lemmas.List.{get_or-map, length-map, take_all, take_more, take-append-drop}
use Rattle.std.proofs.lemmas.Slice.Zip.{all_zipped_more}
use Rattle.route_io.specs.Files.{FileMap, Opens}
use Rattle.route_io.specs.Sinks.{SinkState}
use Rattle.route_io.specs.Sources.{SourceState, ReadsFiles}
use Rattle.road_network.specs.Network.{Network}
use Rattle.arc_graph.specs.declared.join.JoinFault.{JoinFault}
use Rattle.arc_graph.specs.declared.join.JoinFault.TheVariants as join
use Rattle.arc_graph.specs.Agreement.{IsFaultOf}
use Rattle.arc_graph.specs.Joiner.{Joiner}
use Rattle.gr_reader.specs.Sinks.{JoinerHasTaken, TakesFile}
use Rattle.gr_reader.specs.declared.fault.LineKind.{LineKind}
use Rattle.still_commands.specs.FilesRead.{Tells, Says, FileStop, ReadingStop, FilesStop, FilesEnd, ReadAs}
use Rattle.still_commands.specs.FilesRead.{reading_limits, failed, faulty, starved, at_file, disagree, unjoined, stops, goes_on}
use Rattle.still_commands.specs.Outcome.{Outcome, failed_file}
use Rattle.still_commands.specs.Output.{RunsCommand}
use Rattle.still_commands.specs.ReadResults.{HasRead, TakesNamed}
use Rattle.still_commands.specs.Stops.{outcome_of, stop_of}
use Rattle.still_commands.proofs.RunsLemmas.{LeavesOut, nothing_sent, runs_then}

-- what holds of the bytes of the file that was opened
pub tells : (files : Option FileMap) (name : List ℕ) (left : Option (List ℕ)) (Holds : List ℕ → Type 0) → Opens files name left
    → IfSome left Holds → Tells files name Holds
tells None name left Holds opens holds = tt
tells (Some file_of) name left Holds opens holds =
    record { bytes = opens.0; found = opens.1; holds = rw opens.2 at holds }

-- the joiner has taken the file that was opened
pub takes_named : (files : Option FileMap) (name : List ℕ) (left : Option (List ℕ)) (before now : Joiner) → Opens files name left
    → TakesFile reading_limits left (JoinerHasTaken before now) → TakesNamed files name before now
takes_named files name left before now opens takes =
    record { contents = takes.file; says = tells files name left _ opens takes.is_gr; taken = takes.taken }

module _ {N : Type 0} (text : N → List ℕ) (items : List N) (i : ℕ) (d : N) (within : i < length items) where
  within_texts : i < length (map text items)
  within_texts = omega (arith, length-map items text)

  next : get_or (map text items) i [] ≡ text (get_or items i d)
  next = get_or-map text items i d [] within

  -- what holds of all names holds of the next one
  pub next_of : (P : List ℕ → Type 0) → All P (map text items) → P (text (get_or items i d))
  next_of P all = subst P next (all i [] within_texts)

  module _ (files exchanges : Option FileMap) (same : exchanges ≡ files) (joiner : Joiner) (has : HasRead files (take i (map text items)) joiner) where
    one_name_more : take (i + 1) (map text items) ≡ take i (map text items) ++ text (get_or items i d) ∷ []
    one_name_more = take_more (map text items) i [] within_texts ∙ ap (λ name. take i (map text items) ++ name ∷ []) next

    -- one file more was read
    pub reads_more : (more : Joiner) → TakesNamed exchanges (text (get_or items i d)) joiner more → HasRead files (take (i + 1) (map text items)) more
    reads_more more one =
        let says = rw same at one.says in
        rw one_name_more (record {
          contents = has.contents ++ one.contents ∷ [];
          read = all_zipped_more (Says files) (take i (map text items)) has.contents (text (get_or items i d)) one.contents has.read says;
          stands = one.taken.stands has.contents has.stands;
        })

    place : map text items ≡ take i (map text items) ++ text (get_or items i d) ∷ drop (i + 1) (map text items)
    place =
        sym (take-append-drop (i + 1) (map text items)) ∙ ap (λ front. front ++ drop (i + 1) (map text items)) one_name_more
        ∙ append_assoc (take i (map text items)) (text (get_or items i d) ∷ []) (drop (i + 1) (map text items))

    -- the next one couldn't be read
    pub stopped_at : {outcome : Outcome} → FileStop exchanges (text (get_or items i d)) outcome → FilesStop files (map text items) outcome
    stopped_at stop = at_file _ (record {
      before = take i (map text items);
      after = drop (i + 1) (map text items);
      place = place;
      contents = has.contents;
      read = has.read;
    }) (rw same at stop)

-- all files were read
pub has_all : {N : Type 0} (text : N → List ℕ) (items : List N) (i : ℕ) (files : Option FileMap) (joiner : Joiner) → length items ≤ i
    → HasRead files (take i (map text items)) joiner → HasRead files (map text items) joiner
has_all text items i files joiner past has = rw (take_all i (map text items) (omega (arith, length-map items text))) at has

-- all files were read, but the joining says no network
pub not_joined : (files : Option FileMap) (names : List (List ℕ)) (joiner : Joiner) (has : HasRead files names joiner) (fault : JoinFault)
    → IsFaultOf has.contents fault → FilesStop files names (outcome_of (stop_of fault))
not_joined files names joiner has (join.Files way) is = disagree (record { contents = has.contents; read = has.read; fault_is = is })
not_joined files names joiner has (join.OutOfMemory want) is = unjoined

-- what keeps a file from being read is nothing of the sink of replies
pub reading_leaves_out : {Fault : ℕ → LineKind → Type 0} {bad : ℕ → LineKind → Outcome} {name : List ℕ} {outcome : Outcome}
    → ((line : ℕ) (kind : LineKind) → LeavesOut (bad line kind)) → ReadingStop Fault bad name outcome → LeavesOut outcome
reading_leaves_out bad_leaves failed = record { no_fault = refl; no_want = refl }
reading_leaves_out bad_leaves (faulty {line} {kind} exchanges) = bad_leaves line kind
reading_leaves_out bad_leaves starved = record { no_fault = refl; no_want = refl }

leaves_out : {files : Option FileMap} {names : List (List ℕ)} {outcome : Outcome} → FilesStop files names outcome → LeavesOut outcome
leaves_out (at_file name comes stop) = reading_leaves_out (λ line kind. record { no_fault = refl; no_want = refl }) stop
leaves_out (disagree read) = record { no_fault = refl; no_want = refl }
leaves_out unjoined = record { no_fault = refl; no_want = refl }

module _ (After : Network → Outcome → List ℕ → Type 0) (names : List (List ℕ)) (folder after : SourceState) where
  -- the files end the run
  pub ends_at_files : {outcome : Outcome} (out : SinkState) → FilesStop folder.files names outcome → ReadsFiles folder after (failed_file outcome)
      → RunsCommand (FilesEnd After folder.files names) folder after out out outcome
  ends_at_files out stop reads = nothing_sent (FilesEnd After folder.files names) _ folder after out (leaves_out stop) (stops stop) reads

  -- the run goes on over the network
  pub ends_over : (net : Network) (mid : SourceState) (out replied : SinkState) (outcome : Outcome) → ReadAs folder.files names net
      → ReadsFiles folder mid None → RunsCommand (After net) mid after out replied outcome → RunsCommand (FilesEnd After folder.files names) folder after out replied outcome
  ends_over net mid out replied outcome read reads runs =
      runs_then (After net) (FilesEnd After folder.files names) (λ o text then. goes_on net read then) folder mid after out replied outcome reads runs
