-- The relevant pairs of a query are a list, and the query passes each budget that is less than its length.
use Rattle.std.proofs.Common.{◌≡◌, ◌≢◌, ℕ, ◌+◌, ◌<◌, List, ◌∷◌, length, take, Option, ◌⊎◌, ◌↔◌, inl, inr, ap₂, arith}
use Rattle.std.proofs.lemmas.Bool.{cases_lt}
use Rattle.std.proofs.lemmas.List.{length-take-le}
use Rattle.std.proofs.lemmas.List.Elements.{All-take}
use Rattle.cost_vector.specs.Costs.{LexLess}
use Rattle.cost_vector.proofs.Vectors.{LexLess-irrefl, LexLess-trans, cases_LexLess}
use Rattle.list_laws.proofs.Members.{each_in, all_from_in, products, in_products}
use Rattle.list_laws.proofs.Pairs.{pairs_take, pigeonhole}
use Rattle.list_laws.proofs.Ascending.{ascending_distinct, ascending_of}
use Rattle.road_network.specs.Network.{Network, IsNetwork}
use Rattle.road_network.specs.Answers.{IsRelevant, AreRelevantPairs, Passes}
use Rattle.road_network.proofs.WalkLaws.{node_of_walk}
use Rattle.road_network.proofs.BestLaws.{cases_relevant}
use Rattle.road_network.proofs.FiniteLaws.{all_nodes, in_all_nodes, best_costs_are_listed}

-- ---- pairs of a number and a cost, by the number and then the cost

abbrev Pair : Type 0
Pair = ℕ × List ℕ

abbrev IsBefore : Pair → Pair → Type 0
IsBefore p q = LexLess (p.0 ∷ p.1) (q.0 ∷ q.1)

before_irrefl : (p : Pair) → ¬ IsBefore p p
before_irrefl p = LexLess-irrefl (p.0 ∷ p.1)

before_trans : (p q r : Pair) → IsBefore p q → IsBefore q r → IsBefore p r
before_trans p q r = LexLess-trans (p.0 ∷ p.1) (q.0 ∷ q.1) (r.0 ∷ r.1)

cases_before : (p q : Pair) → IsBefore p q ⊎ ((p ≡ q) ⊎ IsBefore q p)
cases_before p q = elim (cases_LexLess (p.0 ∷ p.1) (q.0 ∷ q.1)) [
  | inl below ↦ inl below
  | inr (inl same) ↦
      let first : p.0 ≡ q.0 = cc in
      let second : p.1 ≡ q.1 = cc in
      inr (inl (ap₂ (λ v c. (v, c)) first second))
  | inr (inr above) ↦ inr (inr above)
]

module _ (net : Network) (s t : ℕ) (limit : List (Option ℕ)) where
  abbrev Relevant : Pair → Type 0
  Relevant p = IsRelevant net s t limit p.0 p.1

  -- they are finitely many, and each can be told: so they have a list
  pub some_pairs : IsNetwork net → (pairs : List Pair) × AreRelevantPairs net s t limit pairs
  some_pairs is =
      let costs = best_costs_are_listed net is in
      let pair = λ (v : ℕ) (c : List ℕ). let p : Pair = (v, c) in p in
      let found = ascending_of IsBefore before_trans cases_before Relevant (λ p. cases_relevant net is s t limit p.0 p.1)
      (products pair (all_nodes net.nodes) costs.0)
      (λ p relevant.
      let walk = relevant.best.reached in
      in_products pair (all_nodes net.nodes) costs.0 p.0 p.1
      (in_all_nodes net.nodes p.0 (node_of_walk net is walk.0 s p.0 p.1 walk.1)) (costs.1 s p.0 p.1 relevant.best)) in
      (found.0, record { distinct = ascending_distinct IsBefore before_irrefl before_trans found.0 found.1; exact = found.2 })

  module _ (pairs : List Pair) (are : AreRelevantPairs net s t limit pairs) (budget : ℕ) where
    -- more pairs than the budget stand in it just where the query passes
    pub passes_below : Passes net s t limit budget ↔ (budget < length pairs)
    passes_below = (
      λ passes.
          let most = pigeonhole passes.pairs pairs passes.distinct (λ p there. (are.exact p).1 (each_in Relevant passes.pairs passes.relevant p there)) in
          omega (arith, most, passes.more),
      λ below. record {
        pairs = take (budget + 1) pairs;
        more = length-take-le (budget + 1) pairs (omega arith);
        distinct = pairs_take ◌≢◌ (budget + 1) pairs are.distinct;
        relevant = All-take Relevant (budget + 1) pairs (all_from_in Relevant pairs (λ p there. (are.exact p).0 there));
      },
    )

  -- so it can be told whether a query passes its budget
  pub cases_passes : IsNetwork net → (budget : ℕ) → Passes net s t limit budget ⊎ (¬ Passes net s t limit budget)
  cases_passes is budget =
      let found = some_pairs is in
      let exactly = passes_below found.0 found.1 budget in
      elim (cases_lt budget (length found.0)) [
        | inl below ↦ inl (exactly.1 below)
        | inr above ↦ inr (λ passes. omega (arith, exactly.0 passes))
      ]
