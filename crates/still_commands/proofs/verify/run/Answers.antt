use Rattle.std.proofs.lemmas.Result.{err_from_is_err_and}
use Rattle.still_commands.specs.Verify.{VerifyEnds}
use Rattle.still_commands.proofs.FilesReadLemmas.{ends_at_files}
use Rattle.still_commands.proofs.VerifyLemmas.{ends_at_cert, ends_over_cert}
use Rattle.still_commands.proofs.verify.run.Goals as goal

pub returns-in_err-graph : goal.returns-in_err-graph
returns-in_err-graph g c =
    let p = err_from_is_err_and c.from_residual.result c.from_residual.ensures.1 in
    let stop = c.in_err-graph.ensures.read in
    rw (p.1, p.2) (ends_at_files (VerifyEnds (g.F.Source.state c.args.folder.now).files c.args.asked.now.cert) _ _ _ _ stop c.in_err-graph.ensures.folder)

pub returns-in_err-listing : goal.returns-in_err-listing
returns-in_err-listing g c =
    let p = err_from_is_err_and c.from_residual-in_err-listing.result c.from_residual-in_err-listing.ensures.1 in
    let read = c.in_ok-graph.ensures.read in
    let stop = rw (c.new-network.ensures, c.text.ensures) at c.in_err-listing.ensures.read in
    rw (p.1, p.2) (ends_at_cert c.args.asked.now _ _ _ _ read c.in_ok-graph.ensures.folder _ stop c.in_err-listing.ensures.folder)

pub returns : goal.returns
returns g c =
    let read = c.in_ok-graph.ensures.read in
    let says = rw (c.new-network.ensures, c.text.ensures) at c.in_ok-listing.ensures.read in
    let is = rw c.new-network.ensures at c.in_ok-listing.ensures.certificate in
    ends_over_cert c.args.asked.now _ _ _ _ read c.in_ok-graph.ensures.folder c.in_ok-listing.listing.cert _ _ _ is says
    c.in_ok-listing.ensures.folder (rw c.new-network.ensures at c.reply.ensures)
