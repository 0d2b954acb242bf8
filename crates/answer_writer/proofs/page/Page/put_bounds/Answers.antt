use Rattle.std.proofs.Common.{arith, sym}
use Rattle.std.proofs.lemmas.Option.{get_or_from_slice_get}
use Rattle.std.proofs.lemmas.Result.{err_from_is_err_and}
use Rattle.answer_writer.specs.Replies.{and_bound}
use Rattle.answer_writer.proofs.GathersLemmas.{all_held, more_held, cut_at}
use Rattle.answer_writer.proofs.page.Page.put_bounds.Goals as goal

pub loop-place-preserved : goal.loop-place-preserved
loop-place-preserved g c =
    more_held and_bound c.args.limit.now c.loop-place.place c.place.result c.place.result (omega arith) (sym (get_or_from_slice_get c.args.limit.now c.loop-place.place c.place.result c.place.result c.place.ensures)) _ _ _ c.args.self.now c.loop-place.self
    c.loop-place.invariant c.put_bound.new.self c.in_ok-put_bound.ensures

pub returns-in_err-put_bound : goal.returns-in_err-put_bound
returns-in_err-put_bound g c =
    let p = err_from_is_err_and c.from_residual.result c.from_residual.ensures.1 in
    rw (p.1, p.2) (cut_at and_bound c.args.limit.now c.loop-place.place c.place.result c.place.result (omega arith) (sym (get_or_from_slice_get c.args.limit.now c.loop-place.place c.place.result c.place.result c.place.ensures)) _ _ _ c.args.self.now c.loop-place.self
    c.loop-place.invariant _ c.in_err-put_bound.ensures)

pub returns : goal.returns
returns g c = all_held and_bound c.args.limit.now _ _ c.args.self.now c.loop-place.place c.loop-place.self (omega arith) c.loop-place.invariant
