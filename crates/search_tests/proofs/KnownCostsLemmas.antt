-- To stand still is all that a query asks for whose target is its start.
use Rattle.std.proofs.Common.{◌≡◌, ◌≢◌, ℕ, List, [], ◌∷◌, ◌++◌, ◌↔◌, Option, length, replicate, refl, sym, ap, subst}
use Rattle.list_laws.proofs.Members.{in_none, in_front, in_one}
use Rattle.list_laws.proofs.Pairs.{pairs_none, pairs_cons}
use Rattle.cost_vector.specs.Costs.{LexLess, Within}
use Rattle.cost_vector.proofs.Vectors.{AtMost-zeros}
use Rattle.road_network.specs.Network.{Network, IsNetwork, IsNode}
use Rattle.road_network.specs.Walks.{IsWalk}
use Rattle.road_network.specs.Best.{IsBest}
use Rattle.road_network.proofs.WalkLaws.{length_of_walk}
use Rattle.road_network.proofs.BestLaws.{start_is_relevant}
use Rattle.road_network.proofs.BackwardLaws.{none_at_zero}
use Rattle.walk_readback.specs.Found.{FoundCosts, HasSettled, IsCovered, IsFound, IsWellFound}
use Rattle.search_tests.specs.KnownCosts.{standing, IsPlace}

module _ (nodes criteria v : ℕ) where
  abbrev zeros : List ℕ
  zeros = replicate criteria 0

  abbrev found : FoundCosts
  found = standing nodes criteria v

  abbrev pair : ℕ → List ℕ → ℕ × List ℕ
  pair u c = (u, c)

  -- the one settled pair is the start at no cost
  pair_is : (u : ℕ) (c : List ℕ) → HasSettled found u c → pair u c ≡ pair v zeros
  pair_is u c there = in_one (pair v zeros) (pair u c) there

  -- it is something found
  pub stands_found : IsPlace nodes criteria v → IsFound found
  stands_found place = record {
    two = place.two;
    four = place.four;
    nodes = place.small;
    start = place.node;
    target = place.node;
    once = pairs_cons ◌≢◌ (pair v zeros) [] (λ y none. absurd (in_none y none)) (pairs_none ◌≢◌);
    ascending = pairs_cons LexLess zeros [] (λ y none. absurd (in_none y none)) (pairs_none LexLess);
    costs = λ c. (
      λ there. in_front (pair v zeros) [] (pair v c) (ap (pair v) (in_one zeros c there)),
      λ has. in_front zeros [] c (ap (λ (p : ℕ × List ℕ). p.1) (pair_is v c has)),
    );
  }

  -- each cost of the node is covered, and none of another
  pub stands_covers : (u : ℕ) (c : List ℕ) → length c ≡ criteria → (u ≡ v) ↔ IsCovered found u c
  stands_covers u c long = (
    λ same. record { cost = zeros; settled = in_front (pair v zeros) [] (pair u zeros) (ap (λ w. pair w zeros) same); at_most = AtMost-zeros criteria c long },
    λ covered. ap (λ (p : ℕ × List ℕ). p.0) (pair_is u covered.cost covered.settled),
  )

module _ (net : Network) (is : IsNetwork net) (v : ℕ) (node : IsNode net.nodes v) (limit : List (Option ℕ)) (long : length limit ≡ net.criteria) where
  abbrev nothing : List ℕ
  nothing = replicate net.criteria 0

  abbrev here : FoundCosts
  here = standing net.nodes net.criteria v

  no_arc : IsWalk net v [] v nothing
  no_arc = (node, refl, refl)

  is_nothing : (c : List ℕ) → IsBest net v v c → c ≡ nothing
  is_nothing c best = by_walk best.reached.0 best.reached.1 where
    by_walk : (p : List ℕ) → IsWalk net v p v c → c ≡ nothing
    by_walk [] walk = walk.2
    by_walk (k ∷ rest) walk = absurd (best.nondominated [] nothing no_arc (record {
      at_most = AtMost-zeros net.criteria c (length_of_walk net is (k ∷ rest) v v c walk);
      differs = λ same. let none = none_at_zero net is (k ∷ rest) v v (subst (IsWalk net v (k ∷ rest) v) (sym same) walk) in absurd cc;
    }))

  -- a walk of that cost has no part with arcs
  stays : (p q : List ℕ) (u : ℕ) (b c : List ℕ) → IsWalk net v (p ++ q) v c → c ≡ nothing → IsWalk net v p u b → HasSettled here u b
  stays [] q u b c walk zero front =
      let same : pair net.nodes net.criteria v u b ≡ pair net.nodes net.criteria v v nothing = (let node = front.1 in let cost = front.2 in cc) in
      in_front (pair net.nodes net.criteria v v nothing) [] (pair net.nodes net.criteria v u b) same
  stays (k ∷ p) q u b c walk zero front =
      let none = none_at_zero net is (k ∷ (p ++ q)) v v (subst (IsWalk net v (k ∷ (p ++ q)) v) zero walk) in absurd cc

  -- it is well found
  pub stands_well : IsWellFound net limit here
  stands_well = record {
    costs = λ c. (
      λ there. subst (λ x. IsBest net v v x × Within limit x) (sym (in_one nothing c there)) (best, within),
      λ both. in_front nothing [] c (is_nothing c both.0),
    );
    walked = λ u b settled.
        let same = pair_is net.nodes net.criteria v u b settled in
        ([], subst (λ (p : ℕ × List ℕ). IsWalk net v [] p.0 p.1) (sym same) no_arc);
    on_the_way = λ u b way. stays way.first way.rest u b way.cost way.whole (in_one nothing way.cost way.there) way.reaches;
  } where
    best : IsBest net v v nothing
    best = (start_is_relevant net v v limit node long).best

    within : Within limit nothing
    within = (start_is_relevant net v v limit node long).within
