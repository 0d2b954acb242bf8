use Rattle.std.proofs.Common.{◌∙◌, arith, sym}
use Rattle.std.proofs.lemmas.Result.{err_from_is_err_and}
use Rattle.route_io.proofs.ReadsLemmas.{ReadsFiles-then}
use Rattle.still_commands.proofs.FilesReadLemmas.{has_all, next_of, reads_more, stopped_at}
use Rattle.still_commands.proofs.network.read_files.Goals as goal

pub read_file-requires-clause-admitted : goal.read_file-requires-clause-admitted
read_file-requires-clause-admitted g c =
    next_of _ c.args.names.now c.loop-name.name-index _ c.loop-name-test.true g.F.Folder.admits c.requires.admitted

pub returns-in_err-read_file-clause-read : goal.returns-in_err-read_file-clause-read
returns-in_err-read_file-clause-read g c =
    let p = err_from_is_err_and c.from_residual.result c.from_residual.ensures.1 in
    rw (p.1, p.2)
    (stopped_at _ c.args.names.now c.loop-name.name-index _ c.loop-name-test.true _ _ c.loop-name.invariant.folder.files c.loop-name.joiner
    c.loop-name.invariant.read c.in_err-read_file.ensures.read)

pub loop-name-preserved : goal.loop-name-preserved
loop-name-preserved g c = record {
  begun = omega (arith, c.in_ok-read_file.ensures.read.taken.begun);
  whole = c.in_ok-read_file.ensures.read.taken.come ∙ sym c.in_ok-read_file.ensures.read.taken.due;
  folder = ReadsFiles-then _ _ _ _ c.loop-name.invariant.folder c.in_ok-read_file.ensures.folder;
  read = reads_more _ c.args.names.now c.loop-name.name-index _ c.loop-name-test.true _ _ c.loop-name.invariant.folder.files c.loop-name.joiner
      c.loop-name.invariant.read c.read_file.new.joiner c.in_ok-read_file.ensures.read;
}

pub returns-clause-read : goal.returns-clause-read
returns-clause-read g c =
    has_all _ c.args.names.now c.loop-name.name-index _ c.loop-name.joiner c.loop-name-test.false c.loop-name.invariant.read
