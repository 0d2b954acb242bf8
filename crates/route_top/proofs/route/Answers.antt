use Rattle.std.proofs.Common.{◌∙◌, sym}
use Rattle.command_words.specs.Words.{Asks, texts_of}
use Rattle.still_commands.specs.Stops.{run_outcome}
use Rattle.still_commands.proofs.OutputLemmas.{counts_at_three, ends_of_none, none_of_two}
use Rattle.route_top.specs.Ends.{Ends}
use Rattle.route_top.proofs.OutputLemmas.{never_bad_words}
use Rattle.route_top.proofs.ServeLemmas.{town_ends}
use Rattle.route_top.proofs.route.Goals as goal

pub returns-clause-output : goal.returns-clause-output
returns-clause-output g c =
    record { outcome = run_outcome c.run.result; runs = c.run.ensures.runs; note = c.end.ensures.note; status_is = c.end.ensures.status }

pub returns-clause-bad_words : goal.returns-clause-bad_words
returns-clause-bad_words g c = λ two. none_of_two Ends (Asks (texts_of c.args.words.now)) _ (never_bad_words _) c.run.ensures.runs.ends (sym c.end.ensures.status ∙ two)

pub returns-clause-only_bad_words : goal.returns-clause-only_bad_words
returns-clause-only_bad_words g c = λ none. rw c.end.ensures.status (ends_of_none Ends _ _ none c.run.ensures.runs.ends)

pub returns-clause-town : goal.returns-clause-town
returns-clause-town g c = town_ends (Asks (texts_of c.args.words.now)) _ _ _ _ _ _ c.run.ensures.town c.end.ensures.status

pub returns-clause-folder : goal.returns-clause-folder
returns-clause-folder g c = counts_at_three (run_outcome c.run.result) _ c.end.ensures.status c.run.ensures.runs.reads
