use Rattle.std.proofs.Common.{refl}
use Rattle.std.proofs.lemmas.Result.{err_from_is_err_and}
use Rattle.still_commands.specs.Queries.{QueryReplies}
use Rattle.still_commands.proofs.QueryLemmas.{replied_in_part, replied_whole}
use Rattle.still_commands.proofs.RunsLemmas.{starves}
use Rattle.still_commands.proofs.single.reply_once.Goals as goal

pub returns-in_err-room : goal.returns-in_err-room
returns-in_err-room g c =
    let p = err_from_is_err_and c.from_residual.result c.from_residual.ensures.1 in
    let net = c.args.answerer.now.network.now in
    rw (p.1, p.2) (starves (QueryReplies c.args.answerer.now.mode c.args.kind c.args.query.now net) _ refl)

pub returns-in_err-reply : goal.returns-in_err-reply
returns-in_err-reply g c =
    let p = err_from_is_err_and c.from_residual-in_err-reply.result c.from_residual-in_err-reply.ensures.1 in
    let net = c.args.answerer.now.network.now in
    rw (p.1, p.2) (replied_in_part c.args.answerer.now.mode c.args.kind c.args.query.now net _ _ _ c.in_err-reply.ensures)

pub returns : goal.returns
returns g c =
    let net = c.args.answerer.now.network.now in
    rw c.end_of.ensures (replied_whole c.args.answerer.now.mode c.args.kind c.args.query.now net _ _ _ c.in_ok-reply.ensures)
