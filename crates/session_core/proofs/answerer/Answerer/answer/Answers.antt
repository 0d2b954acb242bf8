use Rattle.std.proofs.Common.{refl}
use Rattle.std.proofs.lemmas.Result.{err_from_is_err_and}
use Rattle.session_core.specs.declared.reply.Reply.TheVariants.{Answer}
use Rattle.session_core.proofs.answerer.Answerer.answer.Goals as goal

pub returns-in_err-put_found : goal.returns-in_err-put_found
returns-in_err-put_found g c = λ routes is.
    let p = err_from_is_err_and c.from_residual-in_err-put_found.result c.from_residual-in_err-put_found.ensures.1 in
    rw (p.1, p.2) (Answer, record { text = _; is = (refl, refl); sent = c.in_err-put_found.ensures routes is })

pub returns : goal.returns
returns g c = λ routes is. record { text = _; is = (refl, refl); sent = c.in_ok-put_found.ensures routes is }
