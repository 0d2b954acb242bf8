use Rattle.std.proofs.Common.{arith, sym}
use Rattle.std.proofs.lemmas.Option.{get_or_from_slice_get}
use Rattle.std.proofs.lemmas.Result.{err_from_is_err_and}
use Rattle.answer_writer.specs.Replies.{cost_line}
use Rattle.answer_writer.proofs.GathersLemmas.{more_of_part, part_cut, part_held}
use Rattle.answer_writer.proofs.page.Page.put_costs.Goals as goal

pub loop-i-preserved : goal.loop-i-preserved
loop-i-preserved g c =
    let costs = (g.F.FoundCosts.state c.args.found.now).costs in
    more_of_part cost_line costs c.args.places.start c.args.places.end c.loop-i.i c.requires c.cost.result c.cost.result (omega arith) (omega arith)
    (sym (get_or_from_slice_get costs c.loop-i.i c.cost.result c.cost.result c.cost.ensures.value)) _ _ _ c.args.self.now c.loop-i.self
    c.loop-i.invariant c.put_cost.new.self c.in_ok-put_cost.ensures

pub returns-in_err-put_cost : goal.returns-in_err-put_cost
returns-in_err-put_cost g c =
    let costs = (g.F.FoundCosts.state c.args.found.now).costs in
    let p = err_from_is_err_and c.from_residual.result c.from_residual.ensures.1 in
    rw (p.1, p.2) (part_cut cost_line costs c.args.places.start c.args.places.end c.loop-i.i c.requires c.cost.result c.cost.result (omega arith) (omega arith)
    (sym (get_or_from_slice_get costs c.loop-i.i c.cost.result c.cost.result c.cost.ensures.value)) _ _ _ c.args.self.now c.loop-i.self
    c.loop-i.invariant _ c.in_err-put_cost.ensures)

pub returns : goal.returns
returns g c =
    part_held cost_line (g.F.FoundCosts.state c.args.found.now).costs c.args.places.start c.args.places.end c.loop-i.i c.requires
    _ _ c.args.self.now c.loop-i.self (omega arith) c.loop-i.invariant
