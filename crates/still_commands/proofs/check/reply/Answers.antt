use Rattle.std.proofs.Common.{refl}
use Rattle.std.proofs.lemmas.Result.{err_from_is_err_and}
use Rattle.still_commands.specs.Check.{TellsSizes}
use Rattle.still_commands.specs.Outcome.{done}
use Rattle.still_commands.proofs.RunsLemmas.{replies_so, starves}
use Rattle.still_commands.proofs.check.reply.Goals as goal

pub returns-in_err-put_reply : goal.returns-in_err-put_reply
returns-in_err-put_reply g c =
    let p = err_from_is_err_and c.from_residual.result c.from_residual.ensures.1 in
    rw (p.1, p.2) (starves (TellsSizes c.args.sizes.nodes c.args.sizes.arcs c.args.sizes.criteria) _ refl)

pub returns : goal.returns
returns g c = replies_so (TellsSizes c.args.sizes.nodes c.args.sizes.arcs c.args.sizes.criteria) done _ _ _ _
    c.in_ok-put_reply.ensures (rw c.sent.ensures at c.send.ensures)
