use Rattle.std.proofs.Common.{refl, rules, subst, sym}
use Rattle.std.specs.Prelude.{get_or}
use Rattle.std.proofs.lemmas.List.Elements.{Contains-get_or}
use Rattle.command_words.specs.Words.{Asks, names_of, texts_of}
use Rattle.command_words.specs.declared.commands.Command.{Command}
use Rattle.command_words.specs.declared.commands.Command.TheVariants.{Still, Waiting}
use Rattle.still_commands.specs.Output.{StillEnds}
use Rattle.still_commands.proofs.OutputLemmas.{never_ten_of, never_town, nothing_read, runs_asked}
use Rattle.route_top.specs.Ends.{Ends}
use Rattle.route_top.specs.Serve.{left_alone}
use Rattle.route_top.proofs.ServeLemmas.{town_by, town_unread}
use Rattle.route_top.proofs.run.Goals as goal

pub returns-in-Ok-Still-clause-runs : goal.returns-in-Ok-Still-clause-runs
returns-in-Ok-Still-clause-runs g c =
    let asks = subst (λ (k : Command). Asks (texts_of c.args.words.now) k) c.in-Ok-Still.field-0-is c.in-Ok-Still.ensures in
    runs_asked Ends (Asks (texts_of c.args.words.now)) (Still c.in-Ok-Still.command) asks _ _ _ _ _ c.carry_out.ensures

pub returns-in-Ok-Still-clause-town : goal.returns-in-Ok-Still-clause-town
returns-in-Ok-Still-clause-town g c =
    let asks = subst (λ (k : Command). Asks (texts_of c.args.words.now) k) c.in-Ok-Still.field-0-is c.in-Ok-Still.ensures in
    let files = (g.F.Source.state c.args.folder.now).files in
    left_alone (λ s also. cc) (never_ten_of (StillEnds files c.in-Ok-Still.command) (never_town files c.in-Ok-Still.command) c.carry_out.ensures.ends) refl

pub returns-in-Ok-Waiting-clause-runs : goal.returns-in-Ok-Waiting-clause-runs
returns-in-Ok-Waiting-clause-runs g c =
    let asks = subst (λ (k : Command). Asks (texts_of c.args.words.now) k) c.in-Ok-Waiting.field-0-is c.in-Ok-Waiting.ensures in
    runs_asked Ends (Asks (texts_of c.args.words.now)) (Waiting c.in-Ok-Waiting.command) asks _ _ _ _ _ c.run_waiting.ensures.runs

pub returns-in-Ok-Waiting-clause-town : goal.returns-in-Ok-Waiting-clause-town
returns-in-Ok-Waiting-clause-town g c =
    let asks = subst (λ (k : Command). Asks (texts_of c.args.words.now) k) c.in-Ok-Waiting.field-0-is c.in-Ok-Waiting.ensures in
    town_by (texts_of c.args.words.now) _ _ _ _ _ (Waiting c.in-Ok-Waiting.command) asks c.run_waiting.ensures.town

pub returns-in-Err-clause-runs : goal.returns-in-Err-clause-runs
returns-in-Err-clause-runs g c =
    nothing_read Ends (Asks (texts_of c.args.words.now)) (texts_of c.args.words.now) _ _ c.in-Err.fault c.in-Err.ensures
    (λ none asks. let also = asks.1 in cc)

pub returns-in-Err-clause-town : goal.returns-in-Err-clause-town
returns-in-Err-clause-town g c = town_unread (texts_of c.args.words.now) _ _ _ _ _ c.in-Err.fault c.in-Err.ensures refl refl

pub carry_out-requires : goal.carry_out-requires
carry_out-requires g c =
    let asks = subst (λ (k : Command). Asks (texts_of c.args.words.now) k) c.in-Ok-Still.field-0-is c.in-Ok-Still.ensures in
    let names = names_of (Still c.in-Ok-Still.command) in
    (search rules, (search rules, λ k d there. c.requires.admitted (get_or names k d) (Still c.in-Ok-Still.command, asks, Contains-get_or names k d there)))

pub run_waiting-requires-clause-admitted : goal.run_waiting-requires-clause-admitted
run_waiting-requires-clause-admitted g c = λ κs within k d there.
    let asks = subst (λ (k : Command). Asks (texts_of c.args.words.now) k) c.in-Ok-Waiting.field-0-is c.in-Ok-Waiting.ensures in
    let names = names_of (Waiting c.in-Ok-Waiting.command) in
    c.requires.admitted (get_or names k d) (Waiting c.in-Ok-Waiting.command, asks, Contains-get_or names k d there)

pub run_waiting-requires-clause-town : goal.run_waiting-requires-clause-town
run_waiting-requires-clause-town g c = λ κs within.
    let asks = subst (λ (k : Command). Asks (texts_of c.args.words.now) k) c.in-Ok-Waiting.field-0-is c.in-Ok-Waiting.ensures in
    (c.requires.town.0, λ s is. c.requires.town.1 s (subst (Asks (texts_of c.args.words.now)) (sym is) asks))
