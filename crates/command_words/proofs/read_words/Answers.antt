use Rattle.std.proofs.Common.{◌∙◌, ap}
use Rattle.std.proofs.lemmas.Result.{err_from_is_err_and}
use Rattle.clap.specs.Words.{is_simple_and_free}
use Rattle.command_words.specs.Words.{texts_of}
use Rattle.command_words.proofs.AskLemmas.{apps_simple, asked_by, fails_by}
use Rattle.command_words.proofs.read_words.Goals as goal

pub matches_of-requires : goal.matches_of-requires
matches_of-requires c = ap is_simple_and_free c.in_ok-app.ensures ∙ apps_simple _ c.in-Some.first.1

pub returns-in_err-matches : goal.returns-in_err-matches
returns-in_err-matches c =
    let p = err_from_is_err_and c.from_residual-in_err-matches.result c.from_residual-in_err-matches.ensures.1 in
    rw (p.1, p.2) (fails_by (texts_of c.args.words.now) _ _ _ c.in-Some.ensures.word c.in-Some.ensures.names c.in_ok-app.ensures
    c.in_err-matches.field-0.0 (λ is. c.in_err-matches.ensures.refused (cc)))

pub returns : goal.returns
returns c =
    rw (asked_by (texts_of c.args.words.now) _ _ _ c.in-Some.ensures.word c.in-Some.ensures.names c.in_ok-app.ensures _
    c.in_ok-matches.ensures.accepted c.in_ok-matches.ensures.rows) c.read.ensures
