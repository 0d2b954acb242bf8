use Rattle.std.proofs.Common.{refl, arith}
use Rattle.std.proofs.lemmas.Result.{err_from_is_err_and}
use Rattle.answer_writer.specs.Replies.{and_arc}
use Rattle.answer_writer.proofs.GathersLemmas.{all_held, more_held, cut_at}
use Rattle.answer_writer.proofs.page.Page.put_arcs.Goals as goal

pub loop-arc-preserved : goal.loop-arc-preserved
loop-arc-preserved g c =
    more_held and_arc c.args.arcs.now c.loop-arc.arc-index (record { 0 = 0 }) _ c.loop-arc-test.true refl _ _ _ c.args.self.now c.loop-arc.self
    c.loop-arc.invariant c.put_arc.new.self c.in_ok-put_arc.ensures

pub returns-in_err-put_arc : goal.returns-in_err-put_arc
returns-in_err-put_arc g c =
    let p = err_from_is_err_and c.from_residual.result c.from_residual.ensures.1 in
    rw (p.1, p.2) (cut_at and_arc c.args.arcs.now c.loop-arc.arc-index (record { 0 = 0 }) _ c.loop-arc-test.true refl _ _ _ c.args.self.now c.loop-arc.self
    c.loop-arc.invariant _ c.in_err-put_arc.ensures)

pub returns : goal.returns
returns g c = all_held and_arc c.args.arcs.now _ _ c.args.self.now c.loop-arc.arc-index c.loop-arc.self (omega arith) c.loop-arc.invariant
