use Rattle.std.proofs.Common.{◌≡◌, ◌+◌, ◌-◌, ◌*◌, ◌/◌, get_or, [], ◌∙◌, inr, refl, subst, sym, arith}
use Rattle.cost_vector.specs.Costs.{AtMost}
use Rattle.std.proofs.lemmas.List.{get_or_default}
use Rattle.front_cert.proofs.lookup.passed_over.Goals as goal

pub returns-then-not-at_most-clause-block : goal.returns-then-not-at_most-clause-block
returns-then-not-at_most-clause-block c =
    let block = (c.args.end - 1) / 32 in
    let ends : block * 32 + 32 ≡ c.args.end = omega (arith, c.requires.some, c.if-end-eq0.true) in
    inr (record {
      block = block;
      there = c.if-block-corners.true;
      ends = ends;
      all = refl;
      greater = λ at_most.
          let same : c.index-corners-block.result ≡ get_or c.args.corners.now block [] =
          c.index-corners-block.is ∙ get_or_default c.args.corners.now block c.index-corners-block.result [] c.if-block-corners.true in
          let holds = c.at_most.ensures.1 (subst (λ x. AtMost x c.args.cost.now) (sym same) at_most) in
          absurd cc;
    })
