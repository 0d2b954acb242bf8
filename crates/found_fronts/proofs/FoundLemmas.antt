-- What is found in the fronts of all nodes.
use Rattle.std.proofs.Common.{◌↔◌, ℕ, ◌<◌, List, [], ◌∷◌, refl, arith}
use Rattle.std.specs.Prelude.{All, IfOk, Result, Ok, Err}
use Rattle.std.proofs.lemmas.List.Elements.{All-nil, All-cons, All-head, All-tail}
use Rattle.cost_vector.specs.Costs.{AtMost}
use Rattle.list_laws.proofs.Members.{each_in}
use Rattle.list_laws.proofs.OnceLaws.{alike_back, alike_through}
use Rattle.road_network.specs.Network.{IsNode}
use Rattle.settled_front.specs.Fronts.{ListsCosts, IsCovered as IsCoveredBy}
use Rattle.settled_fronts.specs.NodeFronts.{AreFronts, Fronts, costs_at}
use Rattle.settled_fronts.proofs.PairLemmas.{in_settled_pairs, settled_pairs_once}
use Rattle.walk_readback.specs.Found.{FoundCosts, IsBelowSettled, IsCovered, IsFound}
use Rattle.found_fronts.specs.FoundFronts.{found_in, IsOfFronts}
use Rattle.walk_readback.specs.SettledCosts.{ListsSettled}

module _ (d bound start target : ℕ) (costs : List (List ℕ)) (fronts : Fronts) where
  abbrev found : FoundCosts
  found = found_in d start target costs fronts

  -- it is what a search finds, if the costs are the target's
  pub is_found : AreFronts d bound fronts → ListsCosts (costs_at fronts target) costs → IsNode fronts.nodes start → IsNode fronts.nodes target → IsFound found
  is_found are lists start_in target_in = record {
    two = are.two;
    four = are.four;
    nodes = are.nodes;
    start = start_in;
    target = target_in;
    once = settled_pairs_once fronts (λ v. (are.stored v).once);
    ascending = lists.ascending;
    costs = λ c. alike_through (lists.exact c) (alike_back (in_settled_pairs fronts target c));
  }

  -- it is of these fronts
  pub is_of_fronts : IsOfFronts d start target fronts found
  is_of_fronts = record { nodes = refl; criteria = refl; start_is = refl; target_is = refl; settled = in_settled_pairs fronts }

  -- what is covered in the fronts is covered in what was found
  pub covered_alike : (v : ℕ) (c : List ℕ) → IsCoveredBy (costs_at fronts v) c ↔ IsCovered found v c
  covered_alike v c = (
    λ covered. record { cost = covered.by; settled = (in_settled_pairs fronts v covered.by).1 covered.contains; at_most = covered.at_most },
    λ covered. record { by = covered.cost; contains = (in_settled_pairs fronts v covered.cost).0 covered.settled; at_most = covered.at_most },
  )

  -- the costs of a node's front are what is settled there
  pub lists_settled : (v : ℕ) (list : List (List ℕ)) → ListsCosts (costs_at fronts v) list → ListsSettled found v list
  lists_settled v list lists = record { ascending = lists.ascending; exact = λ c. alike_through (lists.exact c) (alike_back (in_settled_pairs fronts v c)) }

  -- there is room for what is at most a settled cost
  pub fits_below : AreFronts d bound fronts → (c : List ℕ) → IsBelowSettled found c → All (λ x. x < bound) c
  fits_below are c below =
      let there = (in_settled_pairs fronts below.node below.cost).0 below.settled in
      lesser_fits c below.cost below.at_most (each_in (All (λ x. x < bound)) (costs_at fronts below.node) (are.stored below.node).fits below.cost there) where
        lesser_fits : (a b : List ℕ) → AtMost a b → All (λ x. x < bound) b → All (λ x. x < bound) a
        lesser_fits [] b less fits = All-nil (λ x. x < bound)
        lesser_fits (x ∷ xs) [] less fits = absurd less
        lesser_fits (x ∷ xs) (y ∷ ys) less fits =
            let first : y < bound = All-head (λ x. x < bound) y ys fits in
            All-cons (λ x. x < bound) x xs (omega (arith, first, less.0)) (lesser_fits xs ys less.1 (All-tail (λ x. x < bound) y ys fits))

-- what holds of each value of a kind holds of the value, if there is one
pub if_ok_then : {T E : Type 0} {P Q : T → Type 0} (r : Result T E) → IfOk r P → ((x : T) → P x → Q x) → IfOk r Q
if_ok_then (Ok x) holds each = each x holds
if_ok_then (Err e) holds each = holds
