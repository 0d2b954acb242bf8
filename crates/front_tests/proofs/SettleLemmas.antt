-- A cost that dominates none of those that are listed dominates none of a front.
use Rattle.std.proofs.Common.{ℕ, List, map, subst}
use Rattle.std.specs.Prelude.{All}
use Rattle.list_laws.proofs.Members.{all_from_in, each_in, of_map}
use Rattle.cost_vector.specs.Costs.{Dominates}
use Rattle.cost_vector.specs.declared.compact_cost.CompactCost.{CompactCost}
use Rattle.settled_front.specs.Fronts.{ListsCosts}

pub front_spared : {D : ℕ} (costs : List (List ℕ)) (list : List (CompactCost D)) (c : List ℕ) → ListsCosts costs (map (λ (x : CompactCost D). x.0) list)
    → All (λ (x : CompactCost D). ¬ Dominates c x.0) list → All (λ x. ¬ Dominates c x) costs
front_spared {D} costs list c lists spares = all_from_in (λ x. ¬ Dominates c x) costs (λ x there beats.
    let (y, listed, is) = of_map (λ (z : CompactCost D). z.0) list x ((lists.exact x).1 there) in
    each_in (λ (z : CompactCost D). ¬ Dominates c z.0) list spares y listed (subst (Dominates c) is beats))
