use Rattle.still_commands.specs.Verify.{failed, faulty, refuted, starved}
use Rattle.still_commands.proofs.FilesReadLemmas.{tells}
use Rattle.still_commands.proofs.VerifyLemmas.{fails_first}
use Rattle.still_commands.proofs.verify.read_cert.Goals as goal

pub returns-in_default-clause-read : goal.returns-in_default-clause-read
returns-in_default-clause-read g c = failed

pub returns-in-Err-Line-clause-read : goal.returns-in-Err-Line-clause-read
returns-in-Err-Line-clause-read g c =
    faulty (tells _ _ _ _ (rw c.in-Ok.is at c.select.ensures.opened) (rw (c.in-Err-Line.is, c.in-Err-Line.field-0-is) at c.check_cert.ensures.checks))

pub returns-in-Err-Rule-clause-read : goal.returns-in-Err-Rule-clause-read
returns-in-Err-Rule-clause-read g c =
    refuted (fails_first _ _ _ c.args.network.now _ _ (rw c.in-Ok.is at c.select.ensures.opened)
    (rw (c.in-Err-Rule.is, c.in-Err-Rule.field-0-is) at c.check_cert.ensures.checks))

pub returns-in-Err-Read-clause-read : goal.returns-in-Err-Read-clause-read
returns-in-Err-Read-clause-read g c = failed

pub returns-in-Err-OutOfMemory-clause-read : goal.returns-in-Err-OutOfMemory-clause-read
returns-in-Err-OutOfMemory-clause-read g c = starved
