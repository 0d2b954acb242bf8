-- What was found, by zero and by the exact bounds.
use Rattle.std.proofs.Common.{◌≡◌, ◌↔◌, ℕ, ◌-◌, List, Result, Ok, Err, refl, sym, ap, subst, ◌∙◌, arith}
use Rattle.std.specs.Prelude.{Contains, OnOk}
use Rattle.cost_vector.specs.Costs.{plus}
use Rattle.cost_vector.proofs.Vectors.{plus-zeros}
use Rattle.road_network.specs.Network.{Network, IsNetwork}
use Rattle.road_network.specs.Answers.{IsRelevant}
use Rattle.road_network.specs.Queries.{IsTooLarge, limit_of}
use Rattle.road_network.specs.declared.query.Query.{Query}
use Rattle.road_network.proofs.WalkLaws.{length_of_walk}
use Rattle.settled_fronts.proofs.PairLemmas.{in_settled_pairs}
use Rattle.walk_readback.specs.Found.{HasAllRelevant, HasSettled}
use Rattle.goal_laws.specs.Goal.{IsBound, IsGoalRelevant, IsTooLargeToward}
use Rattle.goal_laws.specs.FoundGoal.{HasAllGoalRelevant}
use Rattle.sweep_parts.specs.Settled.{costs_of}
use Rattle.node_lists.specs.FoundLists.{FoundLists, found_in}
use Rattle.sweep_core.specs.Potentials.{IsConsistent, IsRelevantBy, Potential, Zero}
use Rattle.sweep_core.specs.Sweeps.{IsLifted, SettlesAll, lifted}
use Rattle.sweep_core.proofs.Lifted.{one_cost}
use Rattle.sweep_core.proofs.Uses.{passes_by_bounds, passes_by_zero, relevant_by_bounds, relevant_by_zero}
use Rattle.sweep_search.specs.Finding.{AreLiftedAt, HasAllBare, HasAllBy, IsBareAt, IsSameFind, IsTooLargeBy}

-- of two facts where all went well a third follows
pub on_both : {A E : Type 0} (F G H : Type 0) → (F → G → H) → (r : Result A E) → OnOk r F → OnOk r G → OnOk r H
on_both F G H f (Err e) h k = tt
on_both F G H f (Ok a) h k = f h k

-- each cost has the height of its node in it
pub are_lifted : {net : Network} {query : Query} {P : Potential} {f : FoundLists} → HasAllBy net query P f → (v : ℕ) → AreLiftedAt net P f.lists v
are_lifted all v c there = (all.settles.relevant (record { cost = c; node = v }) there).is_lifted

-- what is settled at a node are its costs
settled_at : (f : FoundLists) (v : ℕ) (c : List ℕ) → HasSettled (found_in f) v c ↔ Contains (costs_of f.lists v) c
settled_at f v c = in_settled_pairs (record { nodes = 0; costs = f.lists }) v c

module _ (net : Network) (query : Query) where
  pub has_all : (P : Potential) (d : ℕ) (lists : List (List (List ℕ))) → net.criteria ≡ d
      → SettlesAll net query.from query.to (limit_of net.criteria query) P lists
      → HasAllBy net query P (record { criteria = d; start = query.from; target = query.to; lists = lists })
  has_all P d lists criteria settles = record {
    of_query = record { start = refl; target = refl; nodes = omega (arith, settles.count); criteria = sym criteria };
    settles = settles;
  }

  module _ (is : IsNetwork net) where
    -- ---- by zero

    module _ (f : FoundLists) (all : HasAllBy net query (Zero net) f) where
      zero_is_relevant : (v : ℕ) (c : List ℕ) → HasSettled (found_in f) v c → IsRelevant net query.from query.to (limit_of net.criteria query) v c
      zero_is_relevant v c settled =
          let r = all.settles.relevant (record { cost = c; node = v }) ((settled_at f v c).0 settled) in
          let b = r.is_lifted in
          let same : c ≡ b.cost = b.sum ∙ ap (plus b.cost) b.has.1 ∙ plus-zeros net.criteria b.cost b.whole in
          subst (IsRelevant net query.from query.to (limit_of net.criteria query) v) (sym same)
          ((relevant_by_zero net is query.from query.to v b.cost (limit_of net.criteria query)).0 r.relevant)

      relevant_by_zero_settled : (v : ℕ) (c : List ℕ) → IsRelevant net query.from query.to (limit_of net.criteria query) v c → HasSettled (found_in f) v c
      relevant_by_zero_settled v c relevant =
          let r = (relevant_by_zero net is query.from query.to v c (limit_of net.criteria query)).1 relevant in
          let long = length_of_walk net is r.best.reached.0 query.from v c r.best.reached.1 in
          let same : plus c r.height ≡ c = ap (plus c) r.has.1 ∙ plus-zeros net.criteria c long in
          (settled_at f v c).1 (subst (Contains (costs_of f.lists v)) same (all.settles.all v c r.height r.has r))

      pub all_relevant : HasAllRelevant net (limit_of net.criteria query) (found_in f)
      all_relevant = record {
        relevant = λ v c.
            subst (λ s. HasSettled (found_in f) v c ↔ IsRelevant net s f.target (limit_of net.criteria query) v c) (sym all.of_query.start)
            (subst (λ t. HasSettled (found_in f) v c ↔ IsRelevant net query.from t (limit_of net.criteria query) v c) (sym all.of_query.target)
            (zero_is_relevant v c, relevant_by_zero_settled v c));
      }

    pub too_large_by_zero : IsTooLargeBy net query (Zero net) ↔ IsTooLarge net query
    too_large_by_zero = passes_by_zero net is query.from query.to (limit_of net.criteria query) query.budget

    -- ---- without heights

    pub has_all_bare : (P : Potential) → IsConsistent net query.to P → (before after : FoundLists) → HasAllBy net query P before → IsSameFind before after
        → ((v : ℕ) → IsBareAt net P before.lists after.lists v) → HasAllBare net query P after
    has_all_bare P consistent before after all same bare = record {
      of_query = record {
        start = same.start ∙ all.of_query.start;
        target = same.target ∙ all.of_query.target;
        nodes = ap (λ n. n - 1) same.long ∙ all.of_query.nodes;
        criteria = same.criteria ∙ all.of_query.criteria;
      };
      exact = λ v c. (
        λ there.
            let has = (bare v c).0 there in
            let r = all.settles.relevant (lifted v c has.height) has.there in
            let own : IsLifted net P (lifted v c has.height) = record { cost = c; whole = has.whole; height = has.height; has = has.has; sum = refl } in
            subst (IsRelevantBy net query.from query.to (limit_of net.criteria query) P v) (one_cost net query.to P consistent (lifted v c has.height) r.is_lifted own) r.relevant,
        λ r. (bare v c).1 (record {
          whole = length_of_walk net is r.best.reached.0 query.from v c r.best.reached.1;
          height = r.height;
          has = r.has;
          there = all.settles.all v c r.height r.has r;
        }),
      );
    }

    -- ---- by the exact bounds

    pub all_goal_relevant : (f : FoundLists) → HasAllBare net query (λ v h. IsBound net v query.to h) f
        → HasAllGoalRelevant net (limit_of net.criteria query) (found_in f)
    all_goal_relevant f all = record {
      relevant = λ v c.
          let limit = limit_of net.criteria query in
          let by = relevant_by_bounds net is query.from query.to v c limit in
          subst (λ s. HasSettled (found_in f) v c ↔ IsGoalRelevant net s f.target limit v c) (sym all.of_query.start)
          (subst (λ t. HasSettled (found_in f) v c ↔ IsGoalRelevant net query.from t limit v c) (sym all.of_query.target)
          (λ settled. by.0 ((all.exact v c).0 ((settled_at f v c).0 settled)), λ relevant. (settled_at f v c).1 ((all.exact v c).1 (by.1 relevant))));
    }

    pub too_large_by_bounds : IsTooLargeBy net query (λ v h. IsBound net v query.to h) ↔ IsTooLargeToward net query
    too_large_by_bounds = passes_by_bounds net is query.from query.to (limit_of net.criteria query) query.budget
