use Rattle.std.proofs.Common.{◌≡◌, Ok, Err}
use Rattle.std.proofs.lemmas.Option.{IfSome_then}
use Rattle.std.proofs.lemmas.Result.{err_from_is_err_and}
use Rattle.gr_reader.proofs.ReadsIntoLemmas.{gr_complete}
use Rattle.gr_reader.proofs.read.read_gr.Goals as goal

pub returns-in_err-read_into-clause-complete : goal.returns-in_err-read_into-clause-complete
returns-in_err-read_into-clause-complete g c =
    let p = err_from_is_err_and c.from_residual.result c.from_residual.ensures.1 in
    rw (p.1, p.2) (IfSome_then _ c.in_err-read_into.ensures.reads (λ bytes. gr_complete c.args.limits bytes (Err c.in_err-read_into.field-0.0)))

pub returns-clause-complete : goal.returns-clause-complete
returns-clause-complete g c =
    let reads = c.in_ok-read_into.ensures.reads in
    let same : reads.file ≡ c.whole.result = cc (reads.taken.is, c.whole.ensures) in
    IfSome_then _ reads.is_gr (λ bytes is_gr. gr_complete c.args.limits bytes (Ok c.whole.result) (rw same at is_gr))
