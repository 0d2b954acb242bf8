-- What is found in the costs of all nodes, and what it is when a vector is taken off those of a node.
use Rattle.std.proofs.Common.{◌≡◌, ◌≢◌, ℕ, ◌-◌, ◌^◌, ◌<◌, List, [], ◌↔◌, length, min, map, get_or, set, refl, inl, inr, sym, ap, ap₂, subst, ◌∙◌, arith}
use Rattle.std.specs.Prelude.{All, AllPairs, Contains}
use Rattle.std.proofs.lemmas.Bool.{cases_eq}
use Rattle.std.proofs.lemmas.List.{get_or-map, length-map}
use Rattle.std.proofs.lemmas.List.Elements.{All-nil}
use Rattle.std.proofs.lemmas.List.Sums.{sum-map}
use Rattle.cost_vector.specs.Costs.{LexLess}
use Rattle.list_laws.proofs.Members.{each_in}
use Rattle.list_laws.proofs.OnceLaws.{alike_back}
use Rattle.road_network.specs.Network.{IsNode}
use Rattle.settled_fronts.specs.NodeFronts.{AreStored, costs_by, kept_fronts}
use Rattle.settled_fronts.proofs.PairLemmas.{in_settled_pairs, pairs_counted, settled_pairs_once}
use Rattle.sweep_parts.specs.Settled.{costs_of}
use Rattle.walk_readback.specs.Found.{HasSettled, IsBelowSettled, IsFound, longest_in}
use Rattle.walk_readback.specs.SettledCosts.{ListsSettled}
use Rattle.node_lists.specs.FoundLists.{AreLowered, FoundLists, Lowers, found_in}
use Rattle.node_lists.specs.KeptLists.{AreFound, AreKept}
use Rattle.node_lists.proofs.KeptLemmas.{ascending_once, as_many as lists_as_many, count_after, kept_after, new_costs, old_costs, other_costs}
use Rattle.node_lists.proofs.LoweredLemmas.{as_many, ascend_too, fit_too, lesser_fits}

-- the costs of a node
abbrev Costs : Type 0
Costs = List (List ℕ)

-- what was found in lists that are kept so
abbrev pub found_by : ℕ → ℕ → ℕ → List ℕ → List Costs → FoundLists
found_by d start target places begun = record { criteria = d; start = start; target = target; lists = costs_by places begun }

module _ {d bound start target : ℕ} {places : List ℕ} {begun : List Costs} {count : ℕ} (are : AreFound d bound start target places begun count) where
  abbrev found : FoundLists
  found = found_by d start target places begun

  -- it is what a search finds
  pub is_found : IsFound (found_in found)
  is_found = record {
    two = are.kept.fronts.two;
    four = are.kept.fronts.four;
    nodes = rw length-map are.kept.fronts.nodes;
    start = rw length-map are.start_in;
    target = rw length-map are.target_in;
    once = settled_pairs_once (kept_fronts places begun) (λ v. (are.kept.fronts.stored v).once);
    ascending = are.ascending target;
    costs = λ c. alike_back (in_settled_pairs (kept_fronts places begun) target c);
  }

  -- what is settled at a node are its costs
  pub settled_alike : (v : ℕ) (c : List ℕ) → HasSettled (found_in found) v c ↔ Contains (costs_of found.lists v) c
  settled_alike v c = in_settled_pairs (kept_fronts places begun) v c

  pub lists_settled : (v : ℕ) → ListsSettled (found_in found) v (costs_of found.lists v)
  lists_settled v = record { ascending = are.ascending v; exact = λ c. alike_back (settled_alike v c) }

  -- they are counted
  pub count_is : count ≡ length (found_in found).settled
  count_is = are.counted ∙ sum-map length found.lists ∙ sym (pairs_counted 0 found.lists)

  pub settled_is : count ≡ min (length (found_in found).settled) (2 ^ 64 - 1)
  settled_is = grind (arith, count_is, are.few)

  pub longest_is : min (length places - 1) count - 1 ≡ longest_in (found_in found)
  longest_is = ap₂ (λ n m. min n m - 1) (ap (λ n. n - 1) (sym (length-map places (λ k. get_or begun k [])))) count_is

  -- there is room for what is at most a settled cost
  pub fits_below : (c : List ℕ) → IsBelowSettled (found_in found) c → All (λ x. x < bound) c
  fits_below c below =
      let there = (settled_alike below.node below.cost).0 below.settled in
      let fits = (are.kept.fronts.stored below.node).fits in
      lesser_fits bound c below.cost below.at_most (each_in (All (λ x. x < bound)) (costs_of found.lists below.node) fits below.cost there)

-- what is kept has been found
pub found_between : {d bound start target count : ℕ} {places : List ℕ} {begun : List Costs} {now : List Costs} → AreKept d bound places begun count → costs_by places begun ≡ now
    → IsNode (length now - 1) start → IsNode (length now - 1) target → AreFound d bound start target places begun count
found_between {start} {target} {places} {begun} are view start_in target_in =
    let long = sym (length-map places (λ k. get_or begun k [])) ∙ ap length view in
    record {
      kept = are.kept;
      ascending = λ v. (are.settled v).ascending;
      counted = are.counted;
      few = are.few;
      start_in = subst (λ n. IsNode (n - 1) start) (sym long) start_in;
      target_in = subst (λ n. IsNode (n - 1) target) (sym long) target_in;
    }

-- ---- the costs of one node, off which a vector is taken

module _ {X : Type 0} (costs : X → Costs) (xs : List X) (y : X) {d bound start target count : ℕ} {places : List ℕ} {v k : ℕ} {x : X}
    (are : AreFound d bound start target places (map costs xs) count) (within : v < length places) (at : k ≡ get_or places v 0) (reached : k ≢ 0) (read : x ≡ get_or xs k x)
    {by : List ℕ} (lowered : AreLowered by (costs x) (costs y)) where
  stays : costs_of (costs_by places (map costs xs)) v ≡ costs x
  stays = old_costs costs xs y are.kept within at reached read

  rises : AllPairs LexLess (costs y)
  rises = ascend_too lowered (subst (AllPairs LexLess) stays (are.ascending v))

  stored : AreStored bound (costs y)
  stored = record {
    once = ascending_once (costs y) rises;
    fits = fit_too lowered bound (subst (All (All (λ n. n < bound))) stays (are.kept.fronts.stored v).fits);
  }

  pub are_found_after : AreFound d bound start target places (map costs (set xs k y)) count
  are_found_after = record {
    kept = kept_after costs xs y are.kept within at reached read stored;
    ascending = λ w. elim (cases_eq w v) [
      | inl same ↦ rw (same, new_costs costs xs y are.kept within at reached read) rises
      | inr other ↦ rw (other_costs costs xs y are.kept within at reached read w other) (are.ascending w)
    ];
    counted = omega (arith, are.counted, as_many lowered, count_after costs xs y are.kept within at reached read stored);
    few = are.few;
    start_in = are.start_in;
    target_in = are.target_in;
  }

  pub lowers_after : Lowers v by (found_by d start target places (map costs xs)) (found_by d start target places (map costs (set xs k y)))
  lowers_after = record {
    criteria = refl;
    start = refl;
    target = refl;
    long = lists_as_many costs xs y are.kept within at reached read;
    lowered = rw (stays, new_costs costs xs y are.kept within at reached read) lowered;
    others = other_costs costs xs y are.kept within at reached read;
  }

-- a node that has no place has no cost
pub lowers_none : {d bound start target count : ℕ} {places : List ℕ} {begun : List Costs} {v : ℕ} (by : List ℕ) → AreFound d bound start target places begun count
    → v < length places → get_or places v 0 ≡ 0 → Lowers v by (found_by d start target places begun) (found_by d start target places begun)
lowers_none {places} {begun} {v} by are within none =
    let empty : costs_of (costs_by places begun) v ≡ [] =
    get_or-map (λ k. get_or begun k []) places v 0 [] within ∙ ap (λ k. get_or begun k []) none ∙ are.kept.first in
    record {
      criteria = refl;
      start = refl;
      target = refl;
      long = refl;
      lowered = rw empty (record { long = All-nil (λ c. length c ≡ length by); sums = refl });
      others = λ w other. refl;
    }

-- a number of the lists is one of the places
pub within_places : (places : List ℕ) (begun : List Costs) {lists : List Costs} {v : ℕ} → costs_by places begun ≡ lists → v < length lists → v < length places
within_places places begun is within = omega (arith, within, ap length is, length-map places (λ k. get_or begun k []))
