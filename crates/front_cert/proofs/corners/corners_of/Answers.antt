use Rattle.std.proofs.Common.{◌≡◌, All, take, drop, ◌+◌, ◌*◌, ◌-◌, ◌≤◌, length, length-append, [], ◌∷◌, arith, ap, subst, sym, ◌∙◌}
use Rattle.cost_vector.specs.Costs.{AtMost}
use Rattle.cost_vector.specs.declared.label.Label.{Label}
use Rattle.front_cert.specs.Listing.{AreCorners}
use Rattle.front_cert.proofs.CornerLemmas.{corners_push}
use Rattle.front_cert.proofs.corners.corners_of.Goals as goal

pub loop-block-preserved : goal.loop-block-preserved
loop-block-preserved c =
    let labels = c.args.labels.now in let d = c.args.criteria in let corners = c.loop-block.corners.items in
    let first = c.loop-block.block * 32 in
    let corner = c.corner_of.result in
    let is_first : first ≡ length corners * 32 = omega (arith, c.loop-block.invariant.count) in
    let within : first + 32 ≤ length labels = omega (arith, c.loop-block-test.true) in
    let size : first + 32 - first ≡ 32 = omega arith in
    record {
      count = ap length c.in_ok-push.ensures.items ∙ length-append corners (corner ∷ []) ∙ ap (λ n. n + 1) c.loop-block.invariant.count;
      are = subst (AreCorners d labels) (sym c.in_ok-push.ensures.items)
          (corners_push d labels corners c.loop-block.invariant.are corner c.corner_of.ensures.whole first is_first within
          (subst (λ n. All (λ (l : Label). AtMost corner l.cost) (take n (drop first labels))) size c.corner_of.ensures.at_most));
    }
