use Rattle.std.proofs.lemmas.Result.{err_from_is_err_and}
use Rattle.still_commands.specs.Outcome.{done}
use Rattle.still_commands.proofs.RunsLemmas.{sent_done, sent_part}
use Rattle.still_commands.proofs.reply.send.Goals as goal

pub returns-in_err-put_all : goal.returns-in_err-put_all
returns-in_err-put_all g c =
    let p = err_from_is_err_and c.from_residual.result c.from_residual.ensures.1 in
    rw (p.1, p.2) (sent_part done c.args.text.now _ _ _ c.in_err-put_all.ensures.sent)

pub returns : goal.returns
returns g c = sent_done c.args.text.now _ _ c.in_ok-put_all.ensures.sent
