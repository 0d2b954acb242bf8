-- The settled costs of all nodes as they are kept: none at first, and what another list of one node changes.
use Rattle.std.proofs.Common.{◌≡◌, ◌≢◌, ℕ, ◌+◌, ◌<◌, ◌≤◌, List, [], ◌∷◌, ◌++◌, Result, Ok, Err, length, map, get_or, replicate, set, refl, inl, inr, sym, ap, subst, ◌∙◌, arith}
use Rattle.std.specs.Prelude.{All, AllPairs, IfOk, OnErr}
use Rattle.std.specs.List.{sum_by}
use Rattle.std.proofs.lemmas.Bool.{cases_eq}
use Rattle.std.proofs.lemmas.List.{length-map, length_push, map-set}
use Rattle.std.proofs.lemmas.List.Elements.{All-nil, All-push}
use Rattle.std.proofs.lemmas.List.Sums.{sum-map, sum_by-set}
use lib.LanesLaws.{map-replicate}
use Rattle.cost_vector.specs.Costs.{AtMost, LexLess, max_criteria, min_criteria}
use Rattle.cost_vector.proofs.Vectors.{LexLess-irrefl, LexLess-trans}
use Rattle.list_laws.proofs.Ascending.{ascending_distinct}
use Rattle.list_laws.proofs.Pairs.{pairs_none}
use Rattle.out_of_memory.specs.declared.OutOfMemory.{OutOfMemory}
use Rattle.road_network.specs.Limits.{max_budget, max_nodes}
use Rattle.settled_front.proofs.Views.{read_at}
use Rattle.settled_fronts.specs.NodeFronts.{AreStored, IsKept, costs_by, kept_fronts}
use Rattle.settled_fronts.proofs.PlacedLemmas.{changed, kept_new, none_placed}
use Rattle.sweep_parts.specs.Settled.{IsSettledList, Pushes, costs_of, count_settled}
use Rattle.node_lists.specs.KeptLists.{AreKept}

-- the costs of a node
abbrev Costs : Type 0
Costs = List (List ℕ)

-- costs that ascend stand once each
pub ascending_once : (costs : Costs) → AllPairs LexLess costs → AllPairs ◌≢◌ costs
ascending_once costs ascending = ascending_distinct LexLess LexLess-irrefl LexLess-trans costs ascending

-- ---- at first

none_settled : IsSettledList []
none_settled = record { ascending = pairs_none LexLess; apart = pairs_none (λ a b. ¬ AtMost a b) }

pub none_by : (n : ℕ) → costs_by (replicate {A = ℕ} n 0) ([] ∷ []) ≡ replicate n []
none_by n = rw map-replicate refl

pub kept_at_first : (d bound n : ℕ) → min_criteria ≤ d → d ≤ max_criteria → n ≤ max_nodes → AreKept d bound (replicate {A = ℕ} (n + 1) 0) ([] ∷ []) 0
kept_at_first d bound n two four few =
    let kept = kept_new d bound n two four few in record {
      kept = kept;
      settled = λ v. rw (none_placed (n + 1) v) none_settled;
      counted = sym (sum-map length (costs_by (replicate {A = ℕ} (n + 1) 0) ([] ∷ [])) ∙ kept.counted);
      few = omega arith;
    }

-- where they are the same, kept otherwise
pub kept_alike : {d bound count : ℕ} {places more : List ℕ} {begun lists : List Costs} → AreKept d bound places begun count
    → IsKept d bound more lists → kept_fronts more lists ≡ kept_fronts places begun → AreKept d bound more lists count
kept_alike {places} {more} {begun} {lists} are kept same =
    let alike : costs_by more lists ≡ costs_by places begun = ap (λ f. f.costs) same in
    record { kept = kept; settled = rw alike are.settled; counted = rw alike are.counted; few = are.few }

-- ---- another list in the place of a node's

module _ {X : Type 0} (costs : X → Costs) (xs : List X) (y : X) {d bound : ℕ} {places : List ℕ} {v k : ℕ} {x : X}
    (kept : IsKept d bound places (map costs xs)) (within : v < length places) (at : k ≡ get_or places v 0) (reached : k ≢ 0) (read : x ≡ get_or xs k x) where
  abbrev before : List Costs
  before = costs_by places (map costs xs)

  abbrev after : List Costs
  after = costs_by places (map costs (set xs k y))

  pub old_costs : costs_of before v ≡ costs x
  old_costs = (changed costs xs y kept refl within at reached read).0

  pub new_costs : costs_of after v ≡ costs y
  new_costs = (changed costs xs y kept refl within at reached read).1

  pub other_costs : (w : ℕ) → w ≢ v → costs_of after w ≡ costs_of before w
  other_costs = (changed costs xs y kept refl within at reached read).2.others

  pub as_many : length after ≡ length before
  as_many = simp length-map

  -- one node has no more than all together
  pub some_of_all : length (costs x) ≤ count_settled before
  some_of_all =
      let inside : v < length before = omega (arith, within, length-map places (λ j. get_or (map costs xs) j [])) in
      omega (arith, ap length old_costs, sum-map length before, sum_by-set length before v [] [] inside)

  module _ (stored : AreStored bound (costs y)) where
    pub kept_after : IsKept d bound places (map costs (set xs k y))
    kept_after = (changed costs xs y kept refl within at reached read).3 (λ _. stored)

    pub count_after : count_settled after + length (costs x) ≡ count_settled before + length (costs y)
    count_after =
        let inside : k < length (map costs xs) = omega (arith, at, kept.placed.within v 0 within) in
        let here = read_at costs xs k x (omega (arith, inside, length-map xs costs)) read in
        let lists = ap (sum_by length) (map-set costs xs k y) in
        omega (arith, sum-map length after, sum-map length before, kept.counted, kept_after.counted, lists, ap length here, sum_by-set length (map costs xs) k (costs y) [] inside)

    -- where a cost came
    pub pushes_after : (c : List ℕ) → costs y ≡ costs x ++ c ∷ [] → Pushes before v c after
    pushes_after c pushed = record {
      long = as_many;
      pushed = new_costs ∙ pushed ∙ ap (λ cs. cs ++ c ∷ []) (sym old_costs);
      others = other_costs;
      more = omega (arith, count_after, ap length pushed, length_push (costs x) c);
    }

    pub are_kept_after : {count next : ℕ} → AreKept d bound places (map costs xs) count → IsSettledList (costs y) → next + length (costs x) ≡ count + length (costs y)
        → next ≤ max_budget → AreKept d bound places (map costs (set xs k y)) next
    are_kept_after are settled counted few = record {
      kept = kept_after;
      settled = λ w. elim (cases_eq w v) [
        | inl same ↦ rw (same, new_costs) settled
        | inr other ↦ rw (other_costs w other) (are.settled w)
      ];
      counted = omega (arith, counted, count_after, are.counted);
      few = few;
    }

-- what a push leaves
pub stored_after : (bound : ℕ) (c : List ℕ) (costs more : Costs) (r : Result Unit OutOfMemory) → IfOk r (λ _. more ≡ costs ++ c ∷ []) → OnErr r (more ≡ [])
    → All (λ x. x < bound) c → AreStored bound costs → IsSettledList more → AreStored bound more
stored_after bound c costs more r pushed cleared fits stored settled = record { once = ascending_once more settled.ascending; fits = fits_after r pushed cleared } where
  fits_after : (r : Result Unit OutOfMemory) → IfOk r (λ _. more ≡ costs ++ c ∷ []) → OnErr r (more ≡ []) → All (All (λ x. x < bound)) more
  fits_after (Ok _) is none = rw is (All-push (All (λ x. x < bound)) costs c stored.fits fits)
  fits_after (Err _) is none = rw none (All-nil (All (λ x. x < bound)))

-- there is no more than one more
pub few_after : (count next : ℕ) (c : List ℕ) (costs more : Costs) (r : Result Unit OutOfMemory) → IfOk r (λ _. more ≡ costs ++ c ∷ []) → OnErr r (more ≡ [])
    → next + length costs ≡ count + length more → count < max_budget → next ≤ max_budget
few_after count next c costs more (Ok _) is none counted few = omega (arith, ap length is, length_push costs c, counted, few)
few_after count next c costs more (Err _) is none counted few = omega (arith, ap length none, counted, few)

-- what holds of each value of a kind holds of the value, if there is one
pub if_ok_then : {T E : Type 0} {P Q : T → Type 0} (r : Result T E) → IfOk r P → ((x : T) → P x → Q x) → IfOk r Q
if_ok_then (Ok x) holds each = each x holds
if_ok_then (Err e) holds each = holds

-- ---- where a node's list was reached

module _ {X : Type 0} (costs : X → Costs) (xs : List X) {d bound count : ℕ} {places was : List ℕ} {begun now : List Costs} {v k : ℕ}
    (are : AreKept d bound was begun count) (kept : IsKept d bound places (map costs xs)) (same : kept_fronts places (map costs xs) ≡ kept_fronts was begun)
    (view : costs_by was begun ≡ now) (node : v < length now) (at : k ≡ get_or places v 0) where
  is_now : costs_by places (map costs xs) ≡ now
  is_now = ap (λ f. f.costs) same ∙ view

  within : v < length places
  within = omega (arith, node, ap length is_now, length-map places (λ j. get_or (map costs xs) j []))

  pub place_within : k < length xs
  place_within = omega (arith, at, kept.placed.within v 0 within, length-map xs costs)

  module _ {x : X} (reached : k ≢ 0) (read : x ≡ get_or xs k x) where
    pub costs_read : costs_of now v ≡ costs x
    costs_read = ap (λ ls. costs_of ls v) (sym is_now) ∙ old_costs costs xs x kept within at reached read

    pub count_read : length (costs x) ≤ count
    count_read = omega (arith, some_of_all costs xs x kept within at reached read, (kept_alike are kept same).counted)

    module _ (y : X) (c : List ℕ) (r : Result Unit OutOfMemory) (pushed : IfOk r (λ _. costs y ≡ costs x ++ c ∷ [])) (cleared : OnErr r (costs y ≡ []))
        (fits : All (λ n. n < bound) c) (settled : IsSettledList (costs y)) where
      stored_y : AreStored bound (costs y)
      stored_y = stored_after bound c (costs x) (costs y) r pushed cleared fits
          (subst (AreStored bound) (old_costs costs xs x kept within at reached read) (kept.fronts.stored v)) settled

      pub keeps_after : {next : ℕ} → next + length (costs x) ≡ count + length (costs y) → count < max_budget → AreKept d bound places (map costs (set xs k y)) next
      keeps_after {next} counted few = are_kept_after costs xs y kept within at reached read stored_y (kept_alike are kept same) settled counted
          (few_after count next c (costs x) (costs y) r pushed cleared counted few)

      pub pushes_now : IfOk r (λ _. Pushes now v c (costs_by places (map costs (set xs k y))))
      pushes_now = if_ok_then r pushed (λ _ e. subst (λ ls. Pushes ls v c (costs_by places (map costs (set xs k y)))) is_now
          (pushes_after costs xs y kept within at reached read stored_y c e))
