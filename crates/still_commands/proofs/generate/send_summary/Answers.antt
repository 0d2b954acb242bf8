use Rattle.std.proofs.Common.{refl}
use Rattle.std.proofs.lemmas.Result.{err_from_is_err_and}
use Rattle.still_commands.specs.Gen.{SendsSummary}
use Rattle.still_commands.specs.Outcome.{done}
use Rattle.still_commands.proofs.RunsLemmas.{replies_so, starves}
use Rattle.still_commands.proofs.generate.send_summary.Goals as goal

pub returns-in_err-counts : goal.returns-in_err-counts
returns-in_err-counts g c =
    let p = err_from_is_err_and c.from_residual.result c.from_residual.ensures.1 in
    rw (p.1, p.2) (starves (SendsSummary c.args.asked.now) _ refl)

pub returns-in_err-put_text : goal.returns-in_err-put_text
returns-in_err-put_text g c =
    let p = err_from_is_err_and c.from_residual-in_err-put_text.result c.from_residual-in_err-put_text.ensures.1 in
    rw (p.1, p.2) (starves (SendsSummary c.args.asked.now) _ refl)

pub returns : goal.returns
returns g c =
    replies_so (SendsSummary c.args.asked.now) done _ _ _ _
    (record { counts = c.in_ok-counts.counts; comes_to = c.in_ok-counts.ensures; reply = c.in_ok-put_text.ensures })
    (rw c.sent.ensures at c.send.ensures)
