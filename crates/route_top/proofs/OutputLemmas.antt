-- What the program does, by its words.
use Rattle.std.proofs.Common.{◌≢◌, ℕ, List}
use Rattle.std.specs.Prelude.{Option}
use Rattle.route_io.specs.Files.{FileMap}
use Rattle.command_words.specs.declared.commands.Command.{Command}
use Rattle.command_words.specs.declared.commands.Command.TheVariants.{Still, Waiting}
use Rattle.command_words.specs.declared.commands.FollowWords.{FollowWords}
use Rattle.command_words.specs.declared.commands.FollowWords.TheVariants.{Take, Write}
use Rattle.command_words.specs.declared.commands.LanesWords.{LanesWords}
use Rattle.command_words.specs.declared.commands.WaitingCommand.TheVariants.{Follow, Lanes, Serve}
use Rattle.still_commands.specs.FilesRead.{at_file, stops, goes_on}
use Rattle.still_commands.specs.Outcome.{Outcome, bad_words, status_of, town_failed}
use Rattle.still_commands.specs.Output.{EndsOrCut}
use Rattle.still_commands.proofs.OutputLemmas.{never_bad, never_ten_of}
use Rattle.route_top.specs.Ends.{Ends}
use Rattle.route_top.specs.Lanes.{scripts_read, scripts_stop}

-- no command ends as one that wasn't asked for
pub never_bad_words : (files : Option FileMap) (asked : Command) (text : List ℕ) → ¬ Ends files asked bad_words text
never_bad_words files (Waiting (Lanes asked)) text (stops (at_file name comes stop)) = elim stop [ ]
never_bad_words files (Waiting (Lanes asked)) text (goes_on net read (scripts_stop why)) = elim why.2 [ ]
never_bad_words files (Waiting (Lanes asked)) text (goes_on net read (scripts_read scripts says replies)) = replies
never_bad_words files (Waiting (Serve asked)) text (stops (at_file name comes stop)) = elim stop [ ]
never_bad_words files (Waiting (Serve asked)) text (goes_on net read replies) = replies
never_bad_words files (Waiting (Follow (Write asked))) text (stops (at_file name comes stop)) = elim stop [ ]
never_bad_words files (Waiting (Follow (Write asked))) text (goes_on net read (scripts_stop why)) = elim why.2 [ ]
never_bad_words files (Waiting (Follow (Write asked))) text (goes_on net read (scripts_read scripts says replies)) = replies
never_bad_words files (Waiting (Follow (Take asked))) text (stops (at_file name comes stop)) = elim stop [ ]
never_bad_words files (Waiting (Follow (Take asked))) text (goes_on net read (scripts_stop why)) = elim why.2 [ ]
never_bad_words files (Waiting (Follow (Take asked))) text (goes_on net read (scripts_read scripts says replies)) = replies
never_bad_words files (Still asked) text ends = never_bad files asked text ends

lanes_never_town : (files : Option FileMap) (l : LanesWords) (text : List ℕ) → ¬ Ends files (Waiting (Lanes l)) town_failed text
lanes_never_town files l text (stops (at_file name comes stop)) = elim stop [ ]
lanes_never_town files l text (goes_on net read (scripts_stop why)) = elim why.2 [ ]
lanes_never_town files l text (goes_on net read (scripts_read scripts says replies)) = replies

-- a run of `lanes` never ends with status 10
pub never_ten_of_lanes : (files : Option FileMap) (l : LanesWords) {outcome : Outcome} {text : List ℕ} → EndsOrCut (Ends files (Waiting (Lanes l))) outcome text
    → status_of outcome ≢ 10
never_ten_of_lanes files l ends = never_ten_of (Ends files (Waiting (Lanes l))) (lanes_never_town files l) ends

follow_never_town : (files : Option FileMap) (f : FollowWords) (text : List ℕ) → ¬ Ends files (Waiting (Follow f)) town_failed text
follow_never_town files (Write asked) text (stops (at_file name comes stop)) = elim stop [ ]
follow_never_town files (Write asked) text (goes_on net read (scripts_stop why)) = elim why.2 [ ]
follow_never_town files (Write asked) text (goes_on net read (scripts_read scripts says replies)) = replies
follow_never_town files (Take asked) text (stops (at_file name comes stop)) = elim stop [ ]
follow_never_town files (Take asked) text (goes_on net read (scripts_stop why)) = elim why.2 [ ]
follow_never_town files (Take asked) text (goes_on net read (scripts_read scripts says replies)) = replies

-- nor does one of `follow`
pub never_ten_of_follow : (files : Option FileMap) (f : FollowWords) {outcome : Outcome} {text : List ℕ} → EndsOrCut (Ends files (Waiting (Follow f))) outcome text
    → status_of outcome ≢ 10
never_ten_of_follow files f ends = never_ten_of (Ends files (Waiting (Follow f))) (follow_never_town files f) ends
