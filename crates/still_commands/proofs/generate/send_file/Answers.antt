use Rattle.std.proofs.Common.{◌∙◌, refl}
use Rattle.std.proofs.lemmas.Result.{err_from_is_err_and}
use Rattle.still_commands.specs.Gen.{SendsFile}
use Rattle.still_commands.specs.Outcome.{done}
use Rattle.still_commands.proofs.RunsLemmas.{replies_so, starves}
use Rattle.still_commands.proofs.generate.send_file.Goals as goal

pub returns-in_err-file : goal.returns-in_err-file
returns-in_err-file g c =
    let p = err_from_is_err_and c.from_residual.result c.from_residual.ensures.1 in
    rw (p.1, p.2) (starves (SendsFile c.args.plan.now c.args.number) _ refl)

pub returns : goal.returns
returns g c =
    replies_so (SendsFile c.args.plan.now c.args.number) done c.deref.result.now _ _ _ (c.deref.ensures.value ∙ c.in_ok-file.ensures) c.send.ensures
