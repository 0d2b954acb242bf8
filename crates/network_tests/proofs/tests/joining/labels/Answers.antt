use Rattle.std.proofs.Common.{◌<◌, ◌^◌, ◌∷◌, [], sym, subst, arith}
use Rattle.std.specs.Prelude.{All}
use Rattle.std.specs.List.{AllByRecursion}
use Rattle.std.proofs.lemmas.List.Elements.{All-from_recursion}
use Rattle.arc_graph.proofs.RelaxLaws.{sums_fit}
use Rattle.network_tests.proofs.tests.joining.labels.Goals as goal

pub relax-requires-clause-fits : goal.relax-requires-clause-fits
relax-requires-clause-fits g c =
    let zeros : AllByRecursion (λ x. x < 2 ^ 58) (0 ∷ 0 ∷ 0 ∷ []) = (omega arith, (omega arith, (omega arith, tt))) in
    let small = subst (All (λ x. x < 2 ^ 58)) (sym c.zero.ensures) (All-from_recursion (λ x. x < 2 ^ 58) (0 ∷ 0 ∷ 0 ∷ []) zeros) in
    sums_fit c.args.network.now 1 c.zero.result c.nodes-nodes.ensures.network.small small
