use Rattle.std.proofs.Common.{◌∙◌, sym}
use Rattle.command_words.specs.Words.{texts_of}
use Rattle.still_commands.specs.Output.{AsksStill, StillEnds}
use Rattle.still_commands.specs.Stops.{run_outcome}
use Rattle.still_commands.proofs.OutputLemmas.{counts_at_three, ends_of_none, never_bad, none_of_two}
use Rattle.still_commands.proofs.run_still.Goals as goal

pub returns-clause-output : goal.returns-clause-output
returns-clause-output g c =
    record { outcome = run_outcome c.run.result; runs = c.run.ensures; note = c.end.ensures.note; status_is = c.end.ensures.status }

pub returns-clause-bad_words : goal.returns-clause-bad_words
returns-clause-bad_words g c = λ two. none_of_two StillEnds (AsksStill (texts_of c.args.words.now)) _ (never_bad _) c.run.ensures.ends (sym c.end.ensures.status ∙ two)

pub returns-clause-only_bad_words : goal.returns-clause-only_bad_words
returns-clause-only_bad_words g c = λ none. rw c.end.ensures.status (ends_of_none StillEnds _ _ none c.run.ensures.ends)

pub returns-clause-folder : goal.returns-clause-folder
returns-clause-folder g c = counts_at_three (run_outcome c.run.result) _ c.end.ensures.status c.run.ensures.reads
