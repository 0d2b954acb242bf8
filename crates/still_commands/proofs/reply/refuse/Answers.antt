use Rattle.std.proofs.Common.{refl}
use Rattle.std.proofs.lemmas.Result.{err_from_is_err_and}
use Rattle.still_commands.specs.Outcome.{refused}
use Rattle.still_commands.proofs.RunsLemmas.{sent_part, sent_whole}
use Rattle.still_commands.proofs.reply.refuse.Goals as goal

pub returns-in_err-put_refusal : goal.returns-in_err-put_refusal
returns-in_err-put_refusal g c =
    let p = err_from_is_err_and c.from_residual.result c.from_residual.ensures.1 in
    rw (p.1, p.2) (sent_part refused _ _ _ _ c.in_err-put_refusal.ensures.sent)

pub returns : goal.returns
returns g c = sent_whole refused _ _ _ (record { no_fault = refl; no_want = refl }) refl c.in_ok-put_refusal.ensures.sent
