-- Each query has one list of best costs, empty only where no walk leads to the target, and one answer with walks.
use Rattle.std.proofs.Common.{◌≡◌, ℕ, List, [], ◌∷◌, map, Option, refl, sym, ap, ap₂, subst}
use Rattle.std.specs.Prelude.{All}
use Rattle.std.proofs.lemmas.List.Elements.{All-nil, All-cons, All-head, All-tail}
use Rattle.cost_vector.specs.Costs.{LexLess, Within, no_limit}
use Rattle.cost_vector.proofs.Vectors.{LexLess-irrefl, LexLess-trans, cases_LexLess, Within-no_limit}
use Rattle.road_network.specs.Network.{Network, IsNetwork}
use Rattle.road_network.specs.Walks.{IsWalk}
use Rattle.road_network.specs.Best.{IsBest, IsBackwardLeast}
use Rattle.road_network.specs.Answers.{AreBestCosts, IsAnswer, Route}
use Rattle.list_laws.proofs.Members.{in_none, all_from_in}
use Rattle.list_laws.proofs.Ascending.{ascending_same, ascending_of}
use Rattle.road_network.proofs.WalkLaws.{length_of_walk}
use Rattle.road_network.proofs.BestLaws.{each_has_best_below, cases_best_within}
use Rattle.road_network.proofs.FiniteLaws.{best_costs_are_listed}
use Rattle.road_network.proofs.BackwardLaws.{has_backward_least, one_backward_least}

-- ---- the best costs

module _ (net : Network) (s t : ℕ) where
  pub one_list : (limit : List (Option ℕ)) (xs ys : List (List ℕ)) → AreBestCosts net s t limit xs → AreBestCosts net s t limit ys → xs ≡ ys
  one_list limit xs ys these those =
      ascending_same LexLess LexLess-irrefl LexLess-trans xs ys these.ascending those.ascending
      (λ c. (λ h. (those.exact c).1 ((these.exact c).0 h), λ h. (these.exact c).1 ((those.exact c).0 h)))

  -- best costs are finitely many, and each can be told: so they have a list
  pub some_list : IsNetwork net → (limit : List (Option ℕ)) → (costs : List (List ℕ)) × AreBestCosts net s t limit costs
  some_list is limit =
      let all = best_costs_are_listed net is in
      let found = ascending_of LexLess LexLess-trans cases_LexLess (λ c. IsBest net s t c × Within limit c) (cases_best_within net is s t limit)
      all.0 (λ c both. all.1 s t c both.0) in
      (found.0, record { ascending = found.1; exact = found.2 })

  pub none_only_where_no_walk : IsNetwork net → (p c : List ℕ) → AreBestCosts net s t (no_limit net.criteria) [] → ¬ IsWalk net s p t c
  none_only_where_no_walk is p c answer walk =
      let below = each_has_best_below net is p s t c walk in
      let path = below.best.reached in
      let long = length_of_walk net is path.0 s t below.cost path.1 in
      in_none below.cost ((answer.exact below.cost).1 (below.best, Within-no_limit net.criteria below.cost long))

  -- ---- with walks

  abbrev Least : Route → Type 0
  Least r = IsBackwardLeast net s t r.cost r.arcs

  abbrev cost_of : Route → List ℕ
  cost_of r = r.cost

  with_walks : IsNetwork net → (costs : List (List ℕ)) → All (IsBest net s t) costs
      → (routes : List Route) × (map cost_of routes ≡ costs) × All Least routes
  with_walks is [] best = ([], refl, All-nil Least)
  with_walks is (c ∷ cs) best =
      let reached = (All-head (IsBest net s t) c cs best).reached in
      let walk = has_backward_least net is reached.0 s t c reached.1 in
      let rest = with_walks is cs (All-tail (IsBest net s t) c cs best) in
      let route : Route = record { cost = c; arcs = walk.0 } in
      (route ∷ rest.0, ap (λ zs. c ∷ zs) rest.1, All-cons Least route rest.0 walk.1 rest.2)

  -- best costs have an answer with walks
  pub has_answer : IsNetwork net → (limit : List (Option ℕ)) (costs : List (List ℕ)) → AreBestCosts net s t limit costs
      → (routes : List Route) × IsAnswer net s t limit routes
  has_answer is limit costs these =
      let found = with_walks is costs (all_from_in (IsBest net s t) costs (λ c there. ((these.exact c).0 there).0)) in
      (found.0, record { costs = subst (AreBestCosts net s t limit) (sym found.1) these; walks = found.2 })

  same_routes : (xs ys : List Route) → map cost_of xs ≡ map cost_of ys → All Least xs → All Least ys → xs ≡ ys
  same_routes [] [] same these those = refl
  same_routes [] (y ∷ ys) same these those = absurd cc
  same_routes (x ∷ xs) [] same these those = absurd cc
  same_routes (x ∷ xs) (y ∷ ys) same these those =
      let cost : x.cost ≡ y.cost = cc in
      let costs : map cost_of xs ≡ map cost_of ys = cc in
      let that = subst (λ c. IsBackwardLeast net s t c y.arcs) (sym cost) (All-head Least y ys those) in
      let first : x ≡ y = ap₂ (λ c p. record { cost = c; arcs = p }) cost (one_backward_least net s t x.cost x.arcs y.arcs (All-head Least x xs these) that) in
      ap₂ (λ r rs. r ∷ rs) first (same_routes xs ys costs (All-tail Least x xs these) (All-tail Least y ys those))

  -- and one alone
  pub one_answer : (limit : List (Option ℕ)) (xs ys : List Route) → IsAnswer net s t limit xs → IsAnswer net s t limit ys → xs ≡ ys
  one_answer limit xs ys these those = same_routes xs ys (one_list limit (map cost_of xs) (map cost_of ys) these.costs those.costs) these.walks those.walks
