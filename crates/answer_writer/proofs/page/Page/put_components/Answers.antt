use Rattle.std.proofs.Common.{arith}
use Rattle.std.proofs.lemmas.Result.{err_from_is_err_and}
use Rattle.answer_writer.specs.Replies.{and_number}
use Rattle.answer_writer.proofs.GathersLemmas.{all_held, more_held, cut_at}
use Rattle.answer_writer.proofs.page.Page.put_components.Goals as goal

pub loop-place-preserved : goal.loop-place-preserved
loop-place-preserved g c =
    more_held and_number c.args.cost.now c.loop-place.place 0 c.component.result (omega arith) c.component.ensures _ _ _ c.args.self.now c.loop-place.self
    c.loop-place.invariant c.put_number.new.self c.in_ok-put_number.ensures

pub returns-in_err-put_number : goal.returns-in_err-put_number
returns-in_err-put_number g c =
    let p = err_from_is_err_and c.from_residual.result c.from_residual.ensures.1 in
    rw (p.1, p.2) (cut_at and_number c.args.cost.now c.loop-place.place 0 c.component.result (omega arith) c.component.ensures _ _ _ c.args.self.now c.loop-place.self
    c.loop-place.invariant _ c.in_err-put_number.ensures)

pub returns : goal.returns
returns g c = all_held and_number c.args.cost.now _ _ c.args.self.now c.loop-place.place c.loop-place.self (omega arith) c.loop-place.invariant
