-- What a run does, by its words.
use Rattle.std.proofs.Common.{◌≡◌, ◌≢◌, ℕ, List, [], ◌⊎◌, inl, inr, length, refl, subst, ap, arith}
use Rattle.std.specs.Prelude.{◌==◌, is_some, Option, Some, None, MatchOption}
use Rattle.route_io.specs.Causes.{IsCounted}
use Rattle.route_io.specs.Files.{FileMap}
use Rattle.route_io.specs.Sinks.{SinkState}
use Rattle.route_io.specs.Sources.{SourceState, ReadsFiles}
use Rattle.command_words.specs.Words.{Fails, asked as asked_by}
use Rattle.command_words.specs.declared.commands.GenWords.{GenWords}
use Rattle.command_words.specs.declared.commands.StillCommand.{StillCommand}
use Rattle.command_words.specs.declared.commands.StillCommand.TheVariants.{Batch, Check, Gen, Goal, Prove, Single, Verify}
use Rattle.command_words.specs.declared.fault.WordsFault.{WordsFault}
use Rattle.command_words.specs.declared.fault.WordsFault.TheVariants.{OutOfMemory, Refused}
use Rattle.still_commands.specs.Batch.{pairs_read, pairs_stop}
use Rattle.still_commands.specs.FilesRead.{at_file, stops, goes_on}
use Rattle.still_commands.specs.Gen.{SendsFile, SendsSummary}
use Rattle.still_commands.specs.Outcome.{Outcome}
use Rattle.still_commands.specs.Outcome.{done, bad_words, folder_failed, out_failed, bad_cert, bad_file, bad_files, bad_pairs, failed_rule, failed_file, script_too_long, refused, no_memory, out_wanted, status_of, town_failed}
use Rattle.still_commands.specs.Output.{EndsByWords, no_command, starved, asks, EndsOrCut, uncut, failed, wanted, RunsCommand, StillEnds}
use Rattle.still_commands.specs.Verify.{cert_holds, cert_stops}
use Rattle.still_commands.specs.Stops.{outcome_of}
use Rattle.still_commands.specs.declared.stop.Stop.TheVariants as stop
use Rattle.still_commands.proofs.RunsLemmas.{nothing_sent, runs_then, starves, stays}

is_bad_words : (outcome : Outcome) → status_of outcome ≡ 2 → outcome ≡ bad_words
is_bad_words bad_words two = refl
is_bad_words done two = cc
is_bad_words (folder_failed name) two = cc
is_bad_words out_failed two = cc
is_bad_words (bad_file name line kind) two = cc
is_bad_words (bad_files way) two = cc
is_bad_words (bad_pairs name line kind) two = cc
is_bad_words (script_too_long name) two = cc
is_bad_words refused two = cc
is_bad_words no_memory two = cc
is_bad_words out_wanted two = cc
is_bad_words town_failed two = cc
is_bad_words (bad_cert name line) two = cc
is_bad_words (failed_rule name rule label) two = cc

-- status 3 and a file at which the folder failed go together
fails_at_three : (outcome : Outcome) → is_some (failed_file outcome) ≡ (status_of outcome == 3)
fails_at_three done = refl
fails_at_three bad_words = refl
fails_at_three (folder_failed name) = refl
fails_at_three out_failed = refl
fails_at_three (bad_file name line kind) = refl
fails_at_three (bad_files way) = refl
fails_at_three (bad_pairs name line kind) = refl
fails_at_three (script_too_long name) = refl
fails_at_three refused = refl
fails_at_three no_memory = refl
fails_at_three out_wanted = refl
fails_at_three town_failed = refl
fails_at_three (bad_cert name line) = refl
fails_at_three (failed_rule name rule label) = refl

-- the folder's failures alone make status 3
pub counts_at_three : {old new : SourceState} (outcome : Outcome) (status : ℕ) → status ≡ status_of outcome
    → ReadsFiles old new (failed_file outcome) → IsCounted (status == 3) old.faults new.faults
counts_at_three {old} {new} outcome status is reads =
    rw is (subst (λ failed. IsCounted failed old.faults new.faults) (fails_at_three outcome) reads.cause)

-- runs whose commands end so
module _ {Command : Type 0} (Ends : Option FileMap → Command → Outcome → List ℕ → Type 0) (IsAsked : Command → Type 0) where
  -- the words ask for the command that ran so
  pub runs_asked : (asked : Command) → IsAsked asked → (folder after : SourceState) (out replied : SinkState) (outcome : Outcome)
      → RunsCommand (Ends folder.files asked) folder after out replied outcome
      → RunsCommand (EndsByWords Ends IsAsked folder.files) folder after out replied outcome
  runs_asked asked is folder after out replied outcome runs =
      runs_then (Ends folder.files asked) (EndsByWords Ends IsAsked folder.files) (λ o text ends. asks asked is ends) folder folder after out replied outcome
      (stays folder) runs

  -- no command was read
  pub nothing_read : (words : List (List ℕ)) (folder : SourceState) (out : SinkState) (fault : WordsFault) → Fails fault (asked_by words)
      → (asked_by words ≡ None → ¬ ((asked : Command) × IsAsked asked))
      → RunsCommand (EndsByWords Ends IsAsked folder.files) folder folder out out (outcome_of (stop.Words fault))
  nothing_read words folder out Refused is none =
      nothing_sent (EndsByWords Ends IsAsked folder.files) bad_words folder folder out (record { no_fault = refl; no_want = refl })
      (no_command (none is)) (stays folder)
  nothing_read words folder out (OutOfMemory want) is none = starves (EndsByWords Ends IsAsked folder.files) out starved folder

  -- status 2 comes only where the words ask for nothing
  pub none_of_two : (files : Option FileMap) → ((asked : Command) (text : List ℕ) → ¬ Ends files asked bad_words text)
      → {outcome : Outcome} {text : List ℕ} → EndsOrCut (EndsByWords Ends IsAsked files) outcome text → status_of outcome ≡ 2
      → ¬ ((asked : Command) × IsAsked asked)
  none_of_two files never (uncut (no_command none)) two = none
  none_of_two files never (uncut starved) two = cc
  none_of_two files never {outcome} {text} (uncut (asks asked is ends)) two =
      absurd (never asked text (subst (λ o. Ends files asked o text) (is_bad_words outcome two) ends))
  none_of_two files never (failed cut) two = cc
  none_of_two files never (wanted cut) two = cc

  module _ (files : Option FileMap) (none : ¬ ((asked : Command) × IsAsked asked)) where
    -- words that ask for nothing end the run
    whole_of_none : {outcome : Outcome} {text : List ℕ} → EndsByWords Ends IsAsked files outcome text
        → (text ≡ []) × ((status_of outcome ≡ 2) ⊎ (status_of outcome ≡ 9))
    whole_of_none (no_command no_words) = (refl, inl refl)
    whole_of_none starved = (refl, inr refl)
    whole_of_none (asks asked is ends) = absurd (none (asked, is))

    pub ends_of_none : {outcome : Outcome} {text : List ℕ} → EndsOrCut (EndsByWords Ends IsAsked files) outcome text
        → (status_of outcome ≡ 2) ⊎ (status_of outcome ≡ 9)
    ends_of_none (uncut whole) = (whole_of_none whole).1
    ends_of_none (failed cut) = let nothing = ap length (whole_of_none cut.ends).0 in absurd (omega (arith, cut.short))
    ends_of_none (wanted cut) = inr refl

never_bad_gen : (asked : GenWords) (text : List ℕ) (file : Option ℕ)
    → ¬ MatchOption file (SendsSummary asked bad_words text) (λ number. SendsFile asked.plan number bad_words text)
never_bad_gen asked text (Some number) ends = ends
never_bad_gen asked text None ends = ends

-- no command that waits for nobody ends as one that wasn't asked for
pub never_bad : (files : Option FileMap) (asked : StillCommand) (text : List ℕ) → ¬ StillEnds files asked bad_words text
never_bad files (Single asked) text (stops (at_file name comes stop)) = elim stop [ ]
never_bad files (Single asked) text (goes_on net read replies) = replies
never_bad files (Goal asked) text (stops (at_file name comes stop)) = elim stop [ ]
never_bad files (Goal asked) text (goes_on net read replies) = replies
never_bad files (Check names) text (stops (at_file name comes stop)) = elim stop [ ]
never_bad files (Check names) text (goes_on net read replies) = replies
never_bad files (Batch asked) text (stops (at_file name comes stop)) = elim stop [ ]
never_bad files (Batch asked) text (goes_on net read (pairs_stop stop)) = elim stop [ ]
never_bad files (Batch asked) text (goes_on net read (pairs_read pairs says replies)) = replies
never_bad files (Gen asked) text ends = never_bad_gen asked text asked.file ends
never_bad files (Prove asked) text (stops (at_file name comes stop)) = elim stop [ ]
never_bad files (Prove asked) text (goes_on net read replies) = replies
never_bad files (Verify asked) text (stops (at_file name comes stop)) = elim stop [ ]
never_bad files (Verify asked) text (goes_on net read (cert_stops stop)) = elim stop [ ]
never_bad files (Verify asked) text (goes_on net read (cert_holds cert is says replies)) = replies

never_town_by : (asked : GenWords) (text : List ℕ) (file : Option ℕ)
    → ¬ MatchOption file (SendsSummary asked town_failed text) (λ number. SendsFile asked.plan number town_failed text)
never_town_by asked text (Some number) ends = ends
never_town_by asked text None ends = ends

-- nor by the town
pub never_town : (files : Option FileMap) (asked : StillCommand) (text : List ℕ) → ¬ StillEnds files asked town_failed text
never_town files (Single asked) text (stops (at_file name comes stop)) = elim stop [ ]
never_town files (Single asked) text (goes_on net read replies) = replies
never_town files (Goal asked) text (stops (at_file name comes stop)) = elim stop [ ]
never_town files (Goal asked) text (goes_on net read replies) = replies
never_town files (Check names) text (stops (at_file name comes stop)) = elim stop [ ]
never_town files (Check names) text (goes_on net read replies) = replies
never_town files (Batch asked) text (stops (at_file name comes stop)) = elim stop [ ]
never_town files (Batch asked) text (goes_on net read (pairs_stop stop)) = elim stop [ ]
never_town files (Batch asked) text (goes_on net read (pairs_read pairs says replies)) = replies
never_town files (Gen asked) text ends = never_town_by asked text asked.file ends
never_town files (Prove asked) text (stops (at_file name comes stop)) = elim stop [ ]
never_town files (Prove asked) text (goes_on net read replies) = replies
never_town files (Verify asked) text (stops (at_file name comes stop)) = elim stop [ ]
never_town files (Verify asked) text (goes_on net read (cert_stops stop)) = elim stop [ ]
never_town files (Verify asked) text (goes_on net read (cert_holds cert is says replies)) = replies

is_town_failed : (outcome : Outcome) → status_of outcome ≡ 10 → outcome ≡ town_failed
is_town_failed town_failed ten = refl
is_town_failed done ten = cc
is_town_failed bad_words ten = cc
is_town_failed (folder_failed name) ten = cc
is_town_failed out_failed ten = cc
is_town_failed (bad_file name line kind) ten = cc
is_town_failed (bad_files way) ten = cc
is_town_failed (bad_pairs name line kind) ten = cc
is_town_failed (script_too_long name) ten = cc
is_town_failed refused ten = cc
is_town_failed no_memory ten = cc
is_town_failed out_wanted ten = cc
is_town_failed (bad_cert name line) ten = cc
is_town_failed (failed_rule name rule label) ten = cc

-- what never ends by the town never ends with status 10
pub never_ten_of : (Ending : Outcome → List ℕ → Type 0) → ((text : List ℕ) → ¬ Ending town_failed text) → {outcome : Outcome} {text : List ℕ}
    → EndsOrCut Ending outcome text → status_of outcome ≢ 10
never_ten_of Ending never {outcome} {text} (uncut ends) = λ ten. never text (subst (λ o. Ending o text) (is_town_failed outcome ten) ends)
never_ten_of Ending never (failed cut) = λ ten. cc
never_ten_of Ending never (wanted cut) = λ ten. cc
