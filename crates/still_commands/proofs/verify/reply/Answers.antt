use Rattle.std.proofs.Common.{refl}
use Rattle.std.proofs.lemmas.Result.{err_from_is_err_and}
use Rattle.still_commands.specs.Outcome.{done}
use Rattle.still_commands.specs.Verify.{CertReplies}
use Rattle.still_commands.proofs.RunsLemmas.{replies_so, sent_done, sent_part, starves}
use Rattle.still_commands.proofs.VerifyLemmas.{its_answer}
use Rattle.still_commands.proofs.verify.reply.Goals as goal

pub returns-in_err-room : goal.returns-in_err-room
returns-in_err-room g c =
    let p = err_from_is_err_and c.from_residual.result c.from_residual.ensures.1 in
    rw (p.1, p.2) (starves (CertReplies c.args.network.now c.args.listing.now.cert) _ refl)

pub returns-in_err-put_answer : goal.returns-in_err-put_answer
returns-in_err-put_answer g c =
    let p = err_from_is_err_and c.from_residual-in_err-put_answer.result c.from_residual-in_err-put_answer.ensures.1 in
    let net = c.args.network.now in
    let cert = c.args.listing.now.cert in
    let (routes, answer, has) = its_answer net c.nodes.ensures.network.network cert in
    let sends = rw c.query_of-query.ensures at c.in_err-put_answer.ensures.sent in
    rw (p.1, p.2) (replies_so (CertReplies net cert) done _ _ _ _ has (sent_part done _ _ _ _ (sends routes answer)))

pub returns : goal.returns
returns g c =
    let net = c.args.network.now in
    let cert = c.args.listing.now.cert in
    let (routes, answer, has) = its_answer net c.nodes.ensures.network.network cert in
    let sends = rw c.query_of-query.ensures at c.in_ok-put_answer.ensures.sent in
    replies_so (CertReplies net cert) done _ _ _ _ has (sent_done _ _ _ (sends routes answer))
