use Rattle.std.proofs.Common.{IfSome, sym, subst}
use Rattle.cost_vector.specs.Costs.{plus}
use Rattle.arc_graph.specs.Graph.{Fits}
use Rattle.arc_graph.proofs.relaxing.label_along.Goals as goal

pub plus-requires-clause-no_wrap : goal.plus-requires-clause-no_wrap
plus-requires-clause-no_wrap c = subst (λ o. IfSome o (λ by. Fits (plus c.args.spot.now.cost by))) (sym c.in_ok-weight.ensures.state) c.requires.fits
