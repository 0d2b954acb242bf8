use Rattle.std.proofs.Common.{refl}
use Rattle.std.proofs.lemmas.Result.{err_from_is_err_and}
use Rattle.still_commands.specs.Outcome.{done}
use Rattle.still_commands.specs.Prove.{ProveReplies}
use Rattle.still_commands.proofs.ProveLemmas.{has_certificate}
use Rattle.still_commands.proofs.RunsLemmas.{replies_so, sent_done, sent_part, starves}
use Rattle.still_commands.proofs.prove.put_cert.Goals as goal

pub returns-in_err-listing : goal.returns-in_err-listing
returns-in_err-listing g c =
    let p = err_from_is_err_and c.from_residual.result c.from_residual.ensures.1 in
    rw (p.1, p.2) (starves (ProveReplies c.args.query.now c.args.network.now) _ refl)

pub returns-in_err-write_cert : goal.returns-in_err-write_cert
returns-in_err-write_cert g c =
    let p = err_from_is_err_and c.from_residual-in_err-write_cert.result c.from_residual-in_err-write_cert.ensures.1 in
    let lists = c.in_ok-listing.ensures in
    let has = has_certificate c.args.query.now c.args.network.now c.nodes.ensures.network c.in_ok-listing.listing c.requires.nodes c.requires.in_budget lists.of lists.ends
    lists.certificate lists.relevant in
    rw (p.1, p.2) (replies_so (ProveReplies c.args.query.now c.args.network.now) done _ _ _ _ has (sent_part done _ _ _ _ c.in_err-write_cert.ensures))

pub returns : goal.returns
returns g c =
    let lists = c.in_ok-listing.ensures in
    let has = has_certificate c.args.query.now c.args.network.now c.nodes.ensures.network c.in_ok-listing.listing c.requires.nodes c.requires.in_budget lists.of lists.ends
    lists.certificate lists.relevant in
    replies_so (ProveReplies c.args.query.now c.args.network.now) done _ _ _ _ has (sent_done _ _ _ c.in_ok-write_cert.ensures)
