use Rattle.std.proofs.Common.{Ok, Err}
use Rattle.std.proofs.lemmas.Option.{IfSome_then}
use Rattle.std.proofs.lemmas.Result.{err_from_is_err_and}
use Rattle.query_reader.proofs.PairLemmas.{no_weight, pairs_complete}
use Rattle.query_reader.proofs.read.read_p2p.Goals as goal

pub returns-in_err-read_records-clause-complete : goal.returns-in_err-read_records-clause-complete
returns-in_err-read_records-clause-complete g c =
    let p = err_from_is_err_and c.from_residual.result c.from_residual.ensures.1 in
    rw (p.1, p.2) (IfSome_then _ c.in_err-read_records.ensures.reads (λ bytes. pairs_complete c.args.limits bytes (Err c.in_err-read_records.field-0.0)))

pub returns-clause-complete : goal.returns-clause-complete
returns-clause-complete g c =
    let reads = c.in_ok-read_records.ensures.reads in
    let all = c.read_records.new.sink.pairs.items in
    IfSome_then _ reads.is_file (λ bytes is_file. pairs_complete c.args.limits bytes (Ok all) (rw (reads.taken, reads.counted) is_file))

pub returns-in_err-read_records-clause-weights : goal.returns-in_err-read_records-clause-weights
returns-in_err-read_records-clause-weights g c =
    let p = err_from_is_err_and c.from_residual.result c.from_residual.ensures.1 in
    rw (p.1, p.2) (no_weight c.in_err-read_records.field-0.0 c.in_err-read_records.ensures.may)
