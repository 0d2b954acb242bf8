use Rattle.still_commands.specs.FilesRead.{failed, faulty, starved}
use Rattle.still_commands.proofs.FilesReadLemmas.{takes_named, tells}
use Rattle.still_commands.proofs.network.read_file.Goals as goal

pub returns-in_default-clause-read : goal.returns-in_default-clause-read
returns-in_default-clause-read g c = failed

pub returns-in-Ok-read_into-clause-read : goal.returns-in-Ok-read_into-clause-read
returns-in-Ok-read_into-clause-read g c =
    takes_named _ _ _ c.args.joiner.now _ (rw c.in-Ok.is at c.select.ensures.opened) (rw c.in-Ok-read_into.is at c.read_into.ensures.reads)

pub returns-in-Err-Line-clause-read : goal.returns-in-Err-Line-clause-read
returns-in-Err-Line-clause-read g c =
    let first = rw (c.in-Err-Line.is, c.in-Err-Line.field-0-is) at c.read_into.ensures.reads in
    faulty (tells _ _ _ _ (rw c.in-Ok.is at c.select.ensures.opened) first)

pub returns-in-Err-Read-clause-read : goal.returns-in-Err-Read-clause-read
returns-in-Err-Read-clause-read g c = failed

pub returns-in-Err-OutOfMemory-clause-read : goal.returns-in-Err-OutOfMemory-clause-read
returns-in-Err-OutOfMemory-clause-read g c = starved
