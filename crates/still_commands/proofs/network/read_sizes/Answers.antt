use Rattle.std.proofs.Common.{refl}
use Rattle.std.proofs.lemmas.Result.{err_from_is_err_and}
use Rattle.arc_graph.specs.Agreement.{joined}
use Rattle.still_commands.proofs.FilesReadLemmas.{not_joined}
use Rattle.still_commands.proofs.network.read_sizes.Goals as goal

pub returns-in_err-sizes-clause-read : goal.returns-in_err-sizes-clause-read
returns-in_err-sizes-clause-read g c =
    let p = err_from_is_err_and c.from_residual-in_err-sizes.result c.from_residual-in_err-sizes.ensures.1 in
    let has = rw c.as_slice.ensures.names at c.in_ok-joiner.ensures.read in
    rw (p.1, p.2) (not_joined _ _ c.in_ok-joiner.joiner has c.in_err-sizes.field-0.0 (c.in_err-sizes.ensures.fault has.contents has.stands))

pub returns-clause-read : goal.returns-clause-read
returns-clause-read g c =
    let has = rw c.as_slice.ensures.names at c.in_ok-joiner.ensures.read in (
      joined has.contents,
      record {
        contents = has.contents;
        read = has.read;
        agree = c.in_ok-sizes.ensures.agree has.contents has.stands;
        network = refl;
      },
      c.in_ok-sizes.ensures.sizes has.contents has.stands,
    )
