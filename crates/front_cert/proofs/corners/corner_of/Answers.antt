use Rattle.std.proofs.Common.{All, subst, ◌∙◌}
use Rattle.std.proofs.lemmas.List.{take_all}
use Rattle.cost_vector.specs.Costs.{AtMost}
use Rattle.cost_vector.specs.declared.label.Label.{Label}
use Rattle.front_cert.proofs.CornerLemmas.{low_more}
use Rattle.front_cert.proofs.corners.corner_of.Goals as goal

pub loop-label-preserved : goal.loop-label-preserved
loop-label-preserved c = record {
  whole = c.meet-corner.ensures.whole ∙ c.loop-label.invariant.whole;
  at_most = low_more c.args.labels.now c.loop-label.corner c.meet-corner.result c.loop-label.label-index c.label-item.result c.label-item.result c.loop-label-test.true c.label-item.is
      c.meet-corner.ensures.first c.meet-corner.ensures.second c.loop-label.invariant.at_most;
}

pub returns-clause-at_most : goal.returns-clause-at_most
returns-clause-at_most c =
    subst (All (λ (x : Label). AtMost c.loop-label.corner x.cost)) (take_all c.loop-label.label-index c.args.labels.now c.loop-label-test.false) c.loop-label.invariant.at_most
