use Rattle.gr_reader.proofs.ReadsIntoLemmas.{reads_into}
use Rattle.gr_reader.proofs.read.read_into.Goals as goal

pub returns-clause-reads : goal.returns-clause-reads
returns-clause-reads g c = reads_into c.args.limits _ _ c.read_records.result c.read_records.ensures.reads
