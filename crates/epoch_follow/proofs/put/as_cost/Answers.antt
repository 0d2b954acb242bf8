use Rattle.std.proofs.Common.{◌≡◌, ◌^◌, ◌<◌, replicate, sym, ap, ◌∙◌, subst}
use Rattle.std.specs.List.{All}
use Rattle.cost_vector.specs.Costs.{plus}
use Rattle.epoch_follow.proofs.WeightLemmas.{fits_cost, plus_zero}
use Rattle.epoch_follow.proofs.put.as_cost.Goals as goal

pub plus-requires-clause-no_wrap : goal.plus-requires-clause-no_wrap
plus-requires-clause-no_wrap c =
    let w = c.args.weight.now in
    let same : plus c.zero.result w ≡ w = ap (λ z. plus z w) (c.zero.ensures ∙ ap (λ n. replicate n 0) c.count.ensures.value) ∙ plus_zero w in
    subst (All (λ x. x < 2 ^ 64)) (sym same) (fits_cost w c.count.ensures.in_range)

pub returns : goal.returns
returns c =
    let w = c.args.weight.now in
    c.plus.ensures ∙ ap (λ z. plus z w) (c.zero.ensures ∙ ap (λ n. replicate n 0) c.count.ensures.value) ∙ plus_zero w
