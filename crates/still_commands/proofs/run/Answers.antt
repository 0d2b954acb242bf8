use Rattle.std.proofs.Common.{refl, rules, subst}
use Rattle.std.specs.Prelude.{get_or}
use Rattle.std.proofs.lemmas.List.Elements.{Contains-get_or}
use Rattle.command_words.specs.Words.{Asks, names_of_still, texts_of}
use Rattle.command_words.specs.declared.commands.Command.{Command}
use Rattle.still_commands.specs.Outcome.{bad_words}
use Rattle.still_commands.specs.Output.{AsksStill, EndsByWords, StillEnds, no_command}
use Rattle.still_commands.proofs.OutputLemmas.{nothing_read, runs_asked}
use Rattle.still_commands.proofs.RunsLemmas.{nothing_sent, stays}
use Rattle.still_commands.proofs.run.Goals as goal

pub returns-in-Ok-Still : goal.returns-in-Ok-Still
returns-in-Ok-Still g c =
    let words = texts_of c.args.words.now in
    let asks = subst (λ (k : Command). Asks words k) c.in-Ok-Still.field-0-is c.in-Ok-Still.ensures in
    runs_asked StillEnds (AsksStill words) c.in-Ok-Still.command asks _ _ _ _ _ c.carry_out.ensures

pub returns-in-Ok-Waiting : goal.returns-in-Ok-Waiting
returns-in-Ok-Waiting g c =
    let words = texts_of c.args.words.now in
    let asks = subst (λ (k : Command). Asks words k) c.in-Ok-Waiting.field-0-is c.in-Ok-Waiting.ensures in
    nothing_sent (EndsByWords StillEnds (AsksStill words) _) bad_words _ _ _ (record { no_fault = refl; no_want = refl })
    (no_command (λ still. let also = still.1 in cc)) (stays _)

pub returns : goal.returns
returns g c =
    nothing_read StillEnds (AsksStill (texts_of c.args.words.now)) (texts_of c.args.words.now) _ _ c.in-Err.fault c.in-Err.ensures
    (λ none still. let also = still.1 in cc)

pub carry_out-requires : goal.carry_out-requires
carry_out-requires g c =
    let words = texts_of c.args.words.now in
    let asks = subst (λ (k : Command). Asks words k) c.in-Ok-Still.field-0-is c.in-Ok-Still.ensures in
    let names = names_of_still c.in-Ok-Still.command in
    (search rules, (search rules, λ k d there. c.requires (get_or names k d) (c.in-Ok-Still.command, asks, Contains-get_or names k d there)))
