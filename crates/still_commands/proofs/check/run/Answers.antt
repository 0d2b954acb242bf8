use Rattle.std.proofs.lemmas.Result.{err_from_is_err_and}
use Rattle.still_commands.specs.Check.{CheckReplies}
use Rattle.still_commands.proofs.FilesReadLemmas.{ends_at_files, ends_over}
use Rattle.still_commands.proofs.check.run.Goals as goal

pub returns-in_err-sizes : goal.returns-in_err-sizes
returns-in_err-sizes g c =
    let p = err_from_is_err_and c.from_residual.result c.from_residual.ensures.1 in
    let stop = c.in_err-sizes.ensures.read in
    rw (p.1, p.2) (ends_at_files CheckReplies _ _ _ _ stop c.in_err-sizes.ensures.folder)

pub returns : goal.returns
returns g c =
    let (net, read, sizes) = c.in_ok-sizes.ensures.read in
    let runs = rw sizes at (c.reply.ensures (g.F.Source.state c.read_sizes.new.folder)) in
    ends_over CheckReplies _ _ _ net _ _ _ _ read c.in_ok-sizes.ensures.folder runs
