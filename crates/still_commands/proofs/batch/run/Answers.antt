use Rattle.std.proofs.lemmas.Result.{err_from_is_err_and}
use Rattle.still_commands.specs.Batch.{BatchReplies}
use Rattle.still_commands.specs.FilesRead.{starved}
use Rattle.still_commands.proofs.BatchLemmas.{ends_at_pairs, ends_over_pairs}
use Rattle.still_commands.proofs.FilesReadLemmas.{ends_at_files}
use Rattle.still_commands.proofs.RunsLemmas.{stays}
use Rattle.still_commands.proofs.batch.run.Goals as goal

pub returns-in_err-graph : goal.returns-in_err-graph
returns-in_err-graph g c =
    let p = err_from_is_err_and c.from_residual.result c.from_residual.ensures.1 in
    let stop = c.in_err-graph.ensures.read in
    rw (p.1, p.2) (ends_at_files (BatchReplies (g.F.Source.state c.args.folder.now).files c.args.asked.now) _ _ _ _ stop
    c.in_err-graph.ensures.folder)

pub returns-in_err-room : goal.returns-in_err-room
returns-in_err-room g c =
    let p = err_from_is_err_and c.from_residual-in_err-room.result c.from_residual-in_err-room.ensures.1 in
    let read = c.in_ok-graph.ensures.read in
    rw (p.1, p.2) (ends_at_pairs c.args.asked.now _ _ _ _ read c.in_ok-graph.ensures.folder _ starved (stays _))

pub returns-in_err-pairs : goal.returns-in_err-pairs
returns-in_err-pairs g c =
    let p = err_from_is_err_and c.from_residual-in_err-pairs.result c.from_residual-in_err-pairs.ensures.1 in
    let read = c.in_ok-graph.ensures.read in
    rw (p.1, p.2) (ends_at_pairs c.args.asked.now _ _ _ _ read c.in_ok-graph.ensures.folder _ (rw c.text.ensures at c.in_err-pairs.ensures.read)
    c.in_err-pairs.ensures.folder)

pub returns : goal.returns
returns g c =
    let read = c.in_ok-graph.ensures.read in
    ends_over_pairs c.args.asked.now _ _ _ _ read c.in_ok-graph.ensures.folder _ _ _ _ (rw c.text.ensures at c.in_ok-pairs.ensures.read)
    c.in_ok-pairs.ensures.folder (rw (c.deref.ensures.value, c.new-network.ensures, c.mode_of.ensures) at c.reply_each.ensures)
