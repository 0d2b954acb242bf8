-- Best costs are finitely many: a walk of a best cost goes through no node twice, so it has fewer arcs than there are nodes.
use Rattle.std.proofs.Common.{◌≡◌, ◌≢◌, ℕ, zero, suc, ◌+◌, ◌-◌, ◌<◌, ◌≤◌, List, [], ◌∷◌, length, reverse, replicate, Some, inl, inr, refl, sym, subst, ◌∙◌, arith}
use Rattle.std.specs.Prelude.{AllPairs, Contains}
use Rattle.std.specs.List.{filter_map, range_with_len}
use Rattle.std.proofs.lemmas.List.{length-reverse}
use Rattle.std.proofs.lemmas.List.FromFn.{length-range_with_len, get_or-range_with_len}
use Rattle.std.proofs.lemmas.Option.{slice_get_within, get_or_from_slice_get}
use Rattle.cost_vector.specs.Costs.{AtMost, Dominates, plus}
use Rattle.cost_vector.proofs.Vectors.{AtMost-refl, AtMost-trans, AtMost-Dominates}
use Rattle.list_laws.proofs.Members.{in_none, in_front, in_rest, cases_in, in_filter_map, products, in_products}
use Rattle.list_laws.proofs.Pairs.{pairs_none, pairs_cons, pigeonhole}
use Rattle.road_network.specs.Network.{Network, IsNetwork, IsNode, Leads}
use Rattle.road_network.specs.Walks.{IsWalk, Arrives}
use Rattle.road_network.specs.Best.{IsBest}
use Rattle.road_network.proofs.WalkLaws.{leads_to_node, length_of_arrival, node_of_arrival, arrives_by_walk, walk_by_arrival}
use Rattle.road_network.proofs.BestLaws.{grows_along, best_before}

-- all nodes
abbrev pub all_nodes : ℕ → List ℕ
all_nodes nodes = range_with_len 1 nodes

pub in_all_nodes : (nodes v : ℕ) → IsNode nodes v → Contains (all_nodes nodes) v
in_all_nodes nodes v node =
    let within : v - 1 < nodes = omega arith in
    let at : 1 + (v - 1) ≡ v = omega arith in
    (v - 1, omega (arith, length-range_with_len 1 nodes), get_or-range_with_len 1 nodes (v - 1) v within ∙ at)

module _ (net : Network) (is : IsNetwork net) where
  -- a node, no walk to which costs at most c
  record IsBeyond (s : ℕ) (c : List ℕ) (x : ℕ) : Type 0 where
    pub node : IsNode net.nodes x
    pub above : (r a : List ℕ) → IsWalk net s r x a → ¬ AtMost a c

  -- a node at which c is best isn't among those beyond c
  no_repeat : (s v : ℕ) (c others : List ℕ) → IsBest net s v c → AllPairs ◌≢◌ others → ((x : ℕ) → Contains others x → IsBeyond s c x)
      → AllPairs ◌≢◌ (v ∷ others)
  no_repeat s v c others best distinct each =
      let walk = best.reached in
      pairs_cons ◌≢◌ v others (λ x there same. (each x there).above walk.0 c (subst (λ z. IsWalk net s walk.0 z c) same walk.1) (AtMost-refl c)) distinct

  -- the nodes of a walk whose cost is best, and others beyond it, are at most all nodes
  fits_in_nodes : (q : List ℕ) (s v : ℕ) (c others : List ℕ) → Arrives net s q v c → IsBest net s v c → AllPairs ◌≢◌ others
      → ((x : ℕ) → Contains others x → IsBeyond s c x) → length q + length others < net.nodes
  fits_in_nodes [] s v c others walk best distinct each =
      let node = node_of_arrival net is [] s v c walk in
      let all = pigeonhole (v ∷ others) (all_nodes net.nodes) (no_repeat s v c others best distinct each)
      (λ x there. in_all_nodes net.nodes x (elim (cases_in v others x there) [
        | inl same ↦ subst (IsNode net.nodes) (sym same) node
        | inr later ↦ (each x later).node
      ])) in
      omega (arith, all, length-range_with_len 1 net.nodes)
  fits_in_nodes (k ∷ before) s v c others walk best distinct each =
      let u = walk.at in let b = walk.before in
      let so_far = best_before net is (reverse before) s u v k b walk.by (walk_by_arrival net is before s u b walk.walk) walk.leads
      (subst (IsBest net s v) walk.cost best) in
      let more : Dominates b c =
      subst (Dominates b) (sym walk.cost) (grows_along net is k u v walk.by b walk.leads (length_of_arrival net is before s u b walk.walk)) in
      let end : IsBeyond s b v = record {
        node = leads_to_node net is k u v walk.by walk.leads;
        above = λ r a other at_most. best.nondominated r a other (AtMost-Dominates a b c at_most more);
      } in
      let all = fits_in_nodes before s u b (v ∷ others) walk.walk so_far (no_repeat s v c others best distinct each)
      (λ x there. elim (cases_in v others x there) [
        | inl same ↦ subst (IsBeyond s b) (sym same) end
        | inr later ↦
            let beyond = each x later in
            record { node = beyond.node; above = λ r a other at_most. beyond.above r a other (AtMost-trans a b c at_most more.at_most) }
      ]) in
      omega (arith, all)

  -- a walk of a best cost has fewer arcs than there are nodes
  pub best_is_short : (p : List ℕ) (s v : ℕ) (c : List ℕ) → IsWalk net s p v c → IsBest net s v c → length p < net.nodes
  best_is_short p s v c walk best =
      let all = fits_in_nodes (reverse p) s v c [] (arrives_by_walk net is p s v c walk) best (pairs_none ◌≢◌) (λ x none. absurd (in_none x none)) in
      omega (arith, all, length-reverse p)

  -- ---- the sums of so many vectors at most

  abbrev vectors : List (List ℕ)
  vectors = filter_map (λ state. state) net.states

  in_vectors : (k u v : ℕ) (w : List ℕ) → Leads net k u w v → Contains vectors w
  in_vectors k u v w arc =
      let at = slice_get_within net.states (k - 1) (Some w) arc.passable in
      in_filter_map (λ state. state) net.states (Some w) w (k - 1, at, get_or_from_slice_get net.states (k - 1) (Some w) (Some w) arc.passable) refl

  abbrev sums : ℕ → List (List ℕ)
  sums zero = replicate net.criteria 0 ∷ []
  sums (suc n) = replicate net.criteria 0 ∷ products plus (sums n) vectors

  in_sums : (n : ℕ) (q : List ℕ) (s v : ℕ) (c : List ℕ) → length q ≤ n → Arrives net s q v c → Contains (sums n) c
  in_sums zero [] s v c most walk = in_front (replicate net.criteria 0) [] c walk.2
  in_sums (suc n) [] s v c most walk = in_front (replicate net.criteria 0) (products plus (sums n) vectors) c walk.2
  in_sums zero (k ∷ before) s v c most walk = absurd (omega arith)
  in_sums (suc n) (k ∷ before) s v c most walk =
      let so_far = in_sums n before s walk.at walk.before (omega arith) walk.walk in
      let more = in_products plus (sums n) vectors walk.before walk.by so_far (in_vectors k walk.at v walk.by walk.leads) in
      in_rest (replicate net.criteria 0) (products plus (sums n) vectors) c (subst (Contains (products plus (sums n) vectors)) (sym walk.cost) more)

  -- some list has all best costs of all nodes
  pub best_costs_are_listed : (costs : List (List ℕ)) × ((s v : ℕ) (c : List ℕ) → IsBest net s v c → Contains costs c)
  best_costs_are_listed = (
    sums net.nodes,
    λ s v c best.
        let p = best.reached in
        let short = best_is_short p.0 s v c p.1 best in
        in_sums net.nodes (reverse p.0) s v c (omega (arith, short, length-reverse p.0)) (arrives_by_walk net is p.0 s v c p.1),
  )
