use Rattle.std.proofs.Common.{◌≡◌, [], inl, inr, map, arith}
use Rattle.std.proofs.lemmas.Bool.{cases_lt}
use Rattle.std.proofs.lemmas.List.{length-map}
use Rattle.std.proofs.lemmas.List.Elements.{All-from_get_or}
use Rattle.cost_vector.specs.Costs.{AtMost}
use Rattle.cost_vector.proofs.Vectors.{AtMost-trans}
use Rattle.settled_front.proofs.Views.{read_at}
use Rattle.settled_front.proofs.cornered.corner_of.Goals as goal

pub loop-cost-preserved : goal.loop-cost-preserved
loop-cost-preserved g c = λ k near.
    let f = g.C.StoredCost.components in
    let i = c.loop-cost.cost-index in
    elim (cases_lt k i) [
      | inl old ↦ AtMost-trans (f c.meet-corner.result) (f c.loop-cost.corner) _ c.meet-corner.ensures.below_this (c.loop-cost.invariant k old)
      | inr last ↦
          let here : k ≡ i = omega arith in
          rw (here, read_at f c.args.costs.now i c.cost-item.result c.loop-cost-test.true c.cost-item.is) c.meet-corner.ensures.below_other
    ]

pub returns : goal.returns
returns g c =
    let f = g.C.StoredCost.components in
    let costs = c.args.costs.now in
    All-from_get_or (AtMost (f c.loop-cost.corner)) (map f costs) []
    (λ k inside. c.loop-cost.invariant k (omega (arith, c.loop-cost-test.false, length-map costs f)))
