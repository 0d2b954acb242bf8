use Rattle.still_commands.specs.FilesRead.{failed, faulty, starved}
use Rattle.still_commands.proofs.FilesReadLemmas.{tells}
use Rattle.still_commands.proofs.batch.read_pairs.Goals as goal

pub returns-in_default-clause-read : goal.returns-in_default-clause-read
returns-in_default-clause-read g c = failed

pub returns-in-Err-Line-clause-read : goal.returns-in-Err-Line-clause-read
returns-in-Err-Line-clause-read g c =
    faulty (tells _ _ _ _ (rw c.in-Ok.is at c.select.ensures.opened) (rw (c.in-Err-Line.is, c.in-Err-Line.field-0-is) at c.read_p2p.ensures.sound))

pub returns-in-Err-Read-clause-read : goal.returns-in-Err-Read-clause-read
returns-in-Err-Read-clause-read g c = failed

pub returns-in-Err-OutOfMemory-clause-read : goal.returns-in-Err-OutOfMemory-clause-read
returns-in-Err-OutOfMemory-clause-read g c = starved
