use Rattle.std.proofs.Common.{arith}
use Rattle.std.proofs.lemmas.Result.{err_from_is_err_and}
use Rattle.answer_writer.proofs.RouteLemmas.{one_route_more, route_cut, routes_held}
use Rattle.answer_writer.proofs.page.Page.put_walks.Goals as goal

pub loop-i-preserved : goal.loop-i-preserved
loop-i-preserved g c = (
  omega (arith, c.loop-i.invariant.0, c.walk.ensures.room),
  λ routes its.
      one_route_more c.args.network.now (g.F.FoundCosts.state c.args.found.now) c.requires.tells.found routes its
      c.args.places.start c.args.places.end c.loop-i.i c.requires.there (omega arith) (omega arith)
      c.cost-cost.result c.arcs.result.now c.walk.new.room.arcs c.arcs.ensures c.cost-cost.ensures.value c.walk.ensures.least
      _ _ _ c.args.self.now c.loop-i.self (c.loop-i.invariant.1 routes its) c.put_walk.new.self c.in_ok-put_walk.ensures,
)

pub returns-in_err-put_walk-clause-lines : goal.returns-in_err-put_walk-clause-lines
returns-in_err-put_walk-clause-lines g c = λ routes its.
    let p = err_from_is_err_and c.from_residual.result c.from_residual.ensures.1 in
    rw (p.1, p.2) (route_cut c.args.network.now (g.F.FoundCosts.state c.args.found.now) c.requires.tells.found routes its
    c.args.places.start c.args.places.end c.loop-i.i c.requires.there (omega arith) (omega arith)
    c.cost-cost.result c.arcs.result.now c.walk.new.room.arcs c.arcs.ensures c.cost-cost.ensures.value c.walk.ensures.least
    _ _ _ c.args.self.now c.loop-i.self (c.loop-i.invariant.1 routes its) _ c.in_err-put_walk.ensures)

pub returns-clause-lines : goal.returns-clause-lines
returns-clause-lines g c = λ routes its.
    routes_held c.args.network.now (g.F.FoundCosts.state c.args.found.now) c.requires.tells.found routes its
    c.args.places.start c.args.places.end c.loop-i.i c.requires.there _ _ c.args.self.now c.loop-i.self (omega arith) (c.loop-i.invariant.1 routes its)
