-- What relaxing gives: exactly the labels of the arcs that lead on.
use Rattle.std.proofs.Common.{◌≡◌, ℕ, ◌+◌, ◌-◌, ◌^◌, ◌<◌, length, get_or, List, [], ◌∷◌, Option, Some, None, IfSome, refl, sym, ap, subst, arith}
use Rattle.std.specs.Prelude.{slice_get}
use Rattle.std.specs.Prelude.{All, Contains}
use Rattle.std.proofs.lemmas.List.Elements.{All-nil, All-cons, All-head, All-tail, Contains-get_or}
use Rattle.std.specs.Option.{option_and_then}
use Rattle.cost_vector.specs.declared.label.ArcNo.{ArcNo}
use Rattle.cost_vector.specs.declared.label.Label.{Label}
use Rattle.cost_vector.specs.Costs.{plus}
use Rattle.road_network.specs.Network.{AreSmall, IsNetwork, IsVector, Leads, Network}
use Rattle.arc_graph.specs.Graph.{Graph, Weights, IsGraph, AreWeights, IsRoadNetwork, Match, network, numbers_from, Fits, SumsFit, label_over, label_by, relaxed, arc_state, ComesOf}
use Rattle.road_network.proofs.SumLaws.{small_by}
use Rattle.arc_graph.proofs.NumbersLemmas.{StandsAt, in_numbers, of_numbers}
use Rattle.list_laws.proofs.Members.{in_filter_map, of_filter_map}

-- a graph and states that match it are a network
network_of : (g : Graph) (w : Weights) → IsGraph g → AreWeights w → Match g w → IsNetwork (network g w)
network_of g w graph states matched = record {
  two = graph.two;
  four = graph.four;
  tails = graph.tails;
  heads = graph.heads;
  matched = matched.arcs;
  vectors = subst (λ d. All (λ s. IfSome s (IsVector d)) w.states) matched.criteria states.vectors;
}

-- within the limits
pub road_network_of : (g : Graph) (w : Weights) → IsGraph g → AreWeights w → Match g w → IsRoadNetwork (network g w)
road_network_of g w graph states matched = record {
  network = network_of g w graph states matched;
  some_node = graph.some_node;
  nodes = graph.nodes;
  arcs = graph.arcs;
  small = states.small;
}

-- the sum along each of these arcs fits, unless it is shut
pub fits_along : (net : Network) (u : ℕ) (c : List ℕ) (arcs : List ArcNo) (i : ℕ) (d : ArcNo) → SumsFit net u c → arcs ≡ numbers_from 1 net.ends u
    → i < length arcs → IfSome (arc_state net.states (get_or arcs i d)) (λ y. Fits (plus c y))
fits_along net u c arcs i d fits all within = by_state (slice_get net.states (a.0 - 1)) refl where
  a : ArcNo
  a = get_or arcs i d

  at : StandsAt 1 net.ends u a
  at = of_numbers 1 net.ends u a (subst (λ ns. Contains ns a) all (Contains-get_or arcs i d within))

  ends : slice_get net.ends (a.0 - 1) ≡ Some (u, at.head)
  ends = let place : at.place ≡ a.0 - 1 = omega (arith, at.number) in subst (λ n. slice_get net.ends n ≡ Some (u, at.head)) place at.ends

  by_state : (o : Option (Option (List ℕ))) → slice_get net.states (a.0 - 1) ≡ o → IfSome (option_and_then (λ s. s) o) (λ y. Fits (plus c y))
  by_state None is = tt
  by_state (Some None) is = tt
  by_state (Some (Some y)) is = fits a.0 at.head y (record { counted = omega (arith, at.number); ends = ends; passable = is })

-- ---- the labels

module _ (net : Network) (u : ℕ) (c : List ℕ) where
  -- each arc that leads on gives a label
  pub label_in : (k v : ℕ) (y : List ℕ) → Leads net k u y v
      → Contains (relaxed net u c) (label_over k v c y)
  label_in k v y arc =
      let a : ArcNo = record { 0 = k } in
      let number : 1 + (k - 1) ≡ k = omega (arith, arc.counted) in
      let there : Contains (numbers_from 1 net.ends u) a =
      subst (λ n. Contains (numbers_from 1 net.ends u) (record { 0 = n })) number (in_numbers 1 net.ends u (k - 1) v arc.ends) in
      in_filter_map (label_by net c) (numbers_from 1 net.ends u) a _ there (rw (arc.ends, arc.passable) refl)

  -- and there are no others
  pub label_of : (l : Label) → Contains (relaxed net u c) l → ComesOf net u c l
  label_of l h =
      let from = of_filter_map (label_by net c) (numbers_from 1 net.ends u) l h in
      let at = of_numbers 1 net.ends u from.0 from.1 in
      let place : at.place ≡ from.0.0 - 1 = omega (arith, at.number) in
      let ends : slice_get net.ends (from.0.0 - 1) ≡ Some (u, at.head) = subst (λ i. slice_get net.ends i ≡ Some (u, at.head)) place at.ends in
      by_state from.0 at ends (slice_get net.states (from.0.0 - 1)) refl from.2 where
        by_state : (a : ArcNo) (at : StandsAt 1 net.ends u a) → slice_get net.ends (a.0 - 1) ≡ Some (u, at.head)
            → (o : Option (Option (List ℕ))) → slice_get net.states (a.0 - 1) ≡ o → label_by net c a ≡ Some l → ComesOf net u c l
        by_state a at ends None is made = let none : None ≡ Some l = rw is at made in absurd (cc)
        by_state a at ends (Some None) is made = let none : None ≡ Some l = rw is at made in absurd (cc)
        by_state a at ends (Some (Some y)) is made =
            let label : Label = record { node = record { 0 = at.head }; cost = plus c y; arc = a } in
            let same : label ≡ l = (let some : Some label ≡ Some l = rw (is, ends) at made in cc) in
            let arc : Leads net a.0 u y at.head = record { counted = omega (arith, at.number); ends = ends; passable = is } in
            record {
              by = y;
              leads = subst (λ (m : Label). Leads net m.arc.0 u y m.node.0) same arc;
              cost = ap (λ (m : Label). m.cost) (sym same);
            }

-- ---- sums

-- a cost below 2^58 leaves room for one more vector
sum_fits : (c w : List ℕ) → All (λ x. x < 2 ^ 58) c → All (λ x. x < 2 ^ 32) w → Fits (plus c w)
sum_fits [] w below small = All-nil (λ n. n < 2 ^ 64)
sum_fits (x ∷ xs) [] below small = All-nil (λ n. n < 2 ^ 64)
sum_fits (x ∷ xs) (y ∷ ys) below small =
    let first = All-head (λ n. n < 2 ^ 58) x xs below in
    let added = All-head (λ n. n < 2 ^ 32) y ys small in
    All-cons (λ n. n < 2 ^ 64) (x + y) (plus xs ys) (omega (arith, first, added))
    (sum_fits xs ys (All-tail (λ n. n < 2 ^ 58) x xs below) (All-tail (λ n. n < 2 ^ 32) y ys small))

-- so all that relaxing adds to it fits
pub sums_fit : (net : Network) (u : ℕ) (c : List ℕ) → AreSmall net.states → All (λ x. x < 2 ^ 58) c → SumsFit net u c
sums_fit net u c states below = λ k v by arc. sum_fits c by below (small_by net states k u v by arc)
