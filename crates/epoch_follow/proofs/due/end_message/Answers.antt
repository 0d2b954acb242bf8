use Rattle.std.proofs.Common.{◌≡◌, ◌+◌, true, ap, arith}
use Rattle.std.proofs.lemmas.Bool.Decides.{nat_tests}
use Rattle.std.proofs.lemmas.Result.{err_from_is_err_and}
use Rattle.arc_graph.specs.History.{Operator}
use Rattle.line_text.specs.Fields.{fields_of}
use Rattle.epoch_follow.specs.Runs.{is_end, last_epoch}
use Rattle.epoch_follow.proofs.RefusalLemmas.{end_needs}
use Rattle.epoch_follow.proofs.due.end_message.Goals as goal

pub returns-in_err-publish-clause-tells : goal.returns-in_err-publish-clause-tells
returns-in_err-publish-clause-tells g c = λ head first.
    let p = err_from_is_err_and c.from_residual.result c.from_residual.ensures.1 in
    let old = c.args.operator.now in
    let most = c.requires in
    let number = c.number.ensures.number in
    let above = c.if-epoch-number.true in
    let next : c.args.epoch ≡ last_epoch head old.published + 1 = grind (arith, nat_tests) in
    let passed = c.if-not-is_end.false in
    let says = c.is_end.ensures in
    let is : is_end c.args.epoch (fields_of c.args.text.now) ≡ true = grind (arith, nat_tests) in
    rw (p.1, p.2) (
      end_needs head c.args.line old.published c.args.epoch old.pending (fields_of c.args.text.now) next is,
      ap (λ (o : Operator). o.published) c.in_err-publish.ensures.unchanged,
    )
