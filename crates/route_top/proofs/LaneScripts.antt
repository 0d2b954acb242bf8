-- The scripts of lanes, one after another.
use Rattle.std.proofs.Common.{◌≡◌, ◌∙◌, ◌<◌, ◌≤◌, ◌+◌, ◌++◌, ◌∷◌, ℕ, zero, suc, List, [], Option, Err, Ok, ap, append_assoc, arith, drop, get_or, length, sym, take}
use Rattle.std.specs.List.{AllZip}
use Rattle.std.proofs.lemmas.List.{take_more, take-append-drop}
use Rattle.std.proofs.lemmas.Slice.Zip.{all_zipped_more}
use Rattle.std.specs.Global.{Vec}
use Rattle.std.proofs.lemmas.List.FromFn.{get_or-map-range_with_len, length-map-range_with_len}
use Rattle.route_io.specs.Files.{FileMap, Opens}
use Rattle.command_words.specs.Words.{scripts_of, session_name}
use Rattle.command_words.specs.declared.commands.LanesWords.{LanesWords}
use Rattle.still_commands.specs.declared.stop.ScriptFault.{ScriptFault}
use Rattle.still_commands.specs.declared.stop.ScriptFault.TheVariants as fault
use Rattle.still_commands.specs.Outcome.{Outcome}
use Rattle.still_commands.specs.Stops.{script_outcome}
use Rattle.still_commands.proofs.FilesReadLemmas.{tells}
use Rattle.route_top.specs.Lanes.{SaysScript, ScriptStop, ScriptsStop, failed, max_script, starved, too_long}
use Rattle.route_top.specs.Scripts.{WholeRead}

-- the script behind the operator's and those of the sessions before is that of the next session
pub session_at : (asked : LanesWords) (n : ℕ) → 1 ≤ n → n ≤ asked.count → session_name asked.stem n ≡ get_or (scripts_of asked) n []
session_at asked zero some within = absurd (omega (arith, some))
session_at asked (suc n) some within =
    sym (get_or-map-range_with_len (session_name asked.stem) 1 asked.count n (suc n) [] (omega (arith, within)) (omega arith))

module _ (files : Option FileMap) (name : List ℕ) (left : Option (List ℕ)) where
  -- the script that was opened was read whole
  pub script_is_read : (bytes : Vec ℕ) → Opens files name left → WholeRead left (Ok bytes) → SaysScript files name bytes.items
  script_is_read bytes opens read = record { short = read.0; exchanges = tells files name left (λ all. all ≡ bytes.items) opens read.1 }

  -- it wasn't
  pub reading_stops : (why : ScriptFault) → Opens files name left → WholeRead left (Err why) → ScriptStop files name (script_outcome name why)
  reading_stops fault.Folder opens read = failed
  reading_stops fault.TooLong opens read = too_long (tells files name left (λ all. max_script < length all) opens read)
  reading_stops (fault.OutOfMemory want) opens read = starved

module _ (files : Option FileMap) (names : List (List ℕ)) (n : ℕ) (within : n < length names) (scripts : List (List ℕ))
    (read : AllZip (SaysScript files) (take n names) scripts) where
  one_name_more : take (n + 1) names ≡ take n names ++ get_or names n [] ∷ []
  one_name_more = take_more names n [] within

  -- one script more was read
  pub one_script_more : (script : List ℕ) → SaysScript files (get_or names n []) script
      → AllZip (SaysScript files) (take (n + 1) names) (scripts ++ script ∷ [])
  one_script_more script says =
      rw one_name_more (all_zipped_more (SaysScript files) (take n names) scripts (get_or names n []) script read says)

  -- the next one ends the run
  pub stops_at : {outcome : Outcome} → ScriptStop files (get_or names n []) outcome → ScriptsStop files names outcome
  stops_at why = (
    get_or names n [],
    record {
      before = take n names;
      after = drop (n + 1) names;
      place = sym (take-append-drop (n + 1) names) ∙ ap (λ front. front ++ drop (n + 1) names) one_name_more
          ∙ append_assoc (take n names) (get_or names n [] ∷ []) (drop (n + 1) names);
      scripts = scripts;
      read = read;
    },
    why,
  )

-- there are one script more than sessions
pub count_scripts : (asked : LanesWords) → length (scripts_of asked) ≡ 1 + asked.count
count_scripts asked =
    let sessions = length-map-range_with_len (session_name asked.stem) 1 asked.count in omega (arith, sessions)
