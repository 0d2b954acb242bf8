use Rattle.std.proofs.lemmas.Result.{err_from_is_err_and}
use Rattle.still_commands.specs.Prove.{ProveReplies}
use Rattle.still_commands.proofs.FilesReadLemmas.{ends_at_files, ends_over}
use Rattle.still_commands.proofs.prove.run.Goals as goal

pub returns-in_err-graph : goal.returns-in_err-graph
returns-in_err-graph g c =
    let p = err_from_is_err_and c.from_residual.result c.from_residual.ensures.1 in
    let stop = c.in_err-graph.ensures.read in
    rw (p.1, p.2) (ends_at_files (ProveReplies c.args.asked.now.query) _ _ _ _ stop c.in_err-graph.ensures.folder)

pub returns : goal.returns
returns g c =
    let read = c.in_ok-graph.ensures.read in
    ends_over (ProveReplies c.args.asked.now.query) _ _ _ _ _ _ _ _ read c.in_ok-graph.ensures.folder (rw (c.new-network.ensures, c.query.ensures.query) at c.reply.ensures _)
