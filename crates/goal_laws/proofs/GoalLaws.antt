-- Goal-relevant pairs are relevant, and lead to the answers.
use Rattle.std.proofs.Common.{◌≡◌, ◌≢◌, ℕ, ◌+◌, ◌<◌, ◌≤◌, List, ◌++◌, Option, length, replicate, take, ◌↔◌, sym, ap, subst, ◌∙◌, arith}
use Rattle.std.proofs.lemmas.List.{length-take-le}
use Rattle.std.proofs.lemmas.List.Elements.{All-take, All-weaker}
use Rattle.list_laws.proofs.Members.{each_in, all_from_in}
use Rattle.list_laws.proofs.Pairs.{pairs_take, pigeonhole}
use Rattle.cost_vector.specs.Costs.{AtMost, Dominates, Within, plus}
use Rattle.cost_vector.proofs.Vectors.{AtMost-refl, AtMost-plus, AtMost-plus_self, Dominates-AtMost, Within-AtMost, plus-zeros}
use Rattle.road_network.specs.Network.{Network, IsNetwork, Leads}
use Rattle.road_network.specs.Walks.{IsWalk}
use Rattle.road_network.specs.Best.{IsBest}
use Rattle.road_network.specs.Answers.{AreRelevantPairs, IsRelevant, Passes}
use Rattle.road_network.proofs.WalkLaws.{length_of_walk, node_of_walk, parts_of_walk}
use Rattle.road_network.proofs.BestLaws.{best_before, first_part_is_best}
use Rattle.road_network.proofs.BackwardLaws.{one_end}
use Rattle.goal_laws.specs.Goal.{AreGoalRelevantPairs, GoalPasses, IsBound, IsGoalRelevant}
use Rattle.goal_laws.proofs.BoundLaws.{bound_of_target, never_less}

module _ (net : Network) (is : IsNetwork net) (s t : ℕ) (limit : List (Option ℕ)) where
  length_of_best : (v : ℕ) (c : List ℕ) → IsBest net s v c → length c ≡ net.criteria
  length_of_best v c best = length_of_walk net is best.reached.0 s v c best.reached.1

  -- ---- they are relevant

  pub goal_relevant_is_relevant : (v : ℕ) (c : List ℕ) → IsGoalRelevant net s t limit v c → IsRelevant net s t limit v c
  goal_relevant_is_relevant v c goal =
      let long = length_of_best v c goal.best in
      let below = AtMost-plus_self c goal.bound (long ∙ sym goal.is_bound.whole) in
      record {
        best = goal.best;
        within = Within-AtMost limit c (plus c goal.bound) below goal.within;
        undominated = λ b best beats. goal.undominated b best (Dominates-AtMost b c (plus c goal.bound) beats below);
      }

  pub fewer_goal_relevant : (fewer pairs : List (ℕ × List ℕ)) → AreGoalRelevantPairs net s t limit fewer → AreRelevantPairs net s t limit pairs
      → length fewer ≤ length pairs
  fewer_goal_relevant fewer pairs these those =
      pigeonhole fewer pairs these.distinct (λ p there. (those.exact p).1 (goal_relevant_is_relevant p.0 p.1 ((these.exact p).0 there)))

  pub passes_by_goal : (budget : ℕ) → GoalPasses net s t limit budget → Passes net s t limit budget
  passes_by_goal budget goal = record {
    pairs = goal.pairs;
    more = goal.more;
    distinct = goal.distinct;
    relevant = All-weaker (λ (p : ℕ × List ℕ). IsGoalRelevant net s t limit p.0 p.1) (λ p. IsRelevant net s t limit p.0 p.1)
        (λ p. goal_relevant_is_relevant p.0 p.1) goal.pairs goal.relevant;
  }

  -- ---- they lead to the answers

  pub goal_relevant_before : (p : List ℕ) (u v k : ℕ) (b w h : List ℕ) → IsGoalRelevant net s t limit v (plus b w) → IsWalk net s p u b → Leads net k u w v
      → IsBound net u t h → IsGoalRelevant net s t limit u b
  goal_relevant_before p u v k b w h goal walk arc bound =
      let long = length_of_walk net is p s u b walk in
      let up = never_less net is k u v t b w h goal.bound arc long bound goal.is_bound in
      record {
        best = best_before net is p s u v k b w walk arc goal.best;
        bound = h;
        is_bound = bound;
        within = Within-AtMost limit (plus b h) (plus (plus b w) goal.bound) up goal.within;
        undominated = λ d best beats. goal.undominated d best (Dominates-AtMost d (plus b h) (plus (plus b w) goal.bound) beats up);
      }

  pub goal_relevant_on_the_way : (p q : List ℕ) (v : ℕ) (b c h : List ℕ) → IsWalk net s (p ++ q) t c → IsBest net s t c → Within limit c → IsWalk net s p v b
      → IsBound net v t h → IsGoalRelevant net s t limit v b
  goal_relevant_on_the_way p q v b c h walk best within first bound =
      let parts = parts_of_walk net is p q s t c walk in
      let end = one_end net p s parts.at v parts.so_far b parts.first first in
      let way = first_part_is_best net is p q s t c walk best in
      let same = one_end net p s way.at v way.cost b way.walk first in
      let onward = subst (λ x. IsWalk net x q t parts.onward) end.0 parts.second in
      let total : plus b parts.onward ≡ c = ap (λ z. plus z parts.onward) (sym end.1) ∙ sym parts.cost in
      let below : AtMost (plus b h) c =
      subst (AtMost (plus b h)) total (AtMost-plus b b h parts.onward (AtMost-refl b) (bound.below q parts.onward onward)) in
      record {
        best = subst (IsBest net s v) same.1 (subst (λ x. IsBest net s x way.cost) same.0 way.best);
        bound = h;
        is_bound = bound;
        within = Within-AtMost limit (plus b h) c below within;
        undominated = λ d other beats. best.nondominated other.reached.0 d other.reached.1 (Dominates-AtMost d (plus b h) c beats below);
      }

  -- each best cost of the target within the limit makes one
  pub goal_relevant_at_target : (c : List ℕ) → IsGoalRelevant net s t limit t c ↔ (IsBest net s t c × Within limit c)
  goal_relevant_at_target c = (
    λ goal.
        let whole = length_of_best t c goal.best ∙ sym goal.is_bound.whole in
        (goal.best, Within-AtMost limit c (plus c goal.bound) (AtMost-plus_self c goal.bound whole) goal.within),
    λ both.
        let best = both.0 in
        let node = node_of_walk net is best.reached.0 s t c best.reached.1 in
        let zero = replicate net.criteria 0 in
        let same : plus c zero ≡ c = plus-zeros net.criteria c (length_of_best t c best) in
        record {
          best = best;
          bound = zero;
          is_bound = bound_of_target net is t node;
          within = subst (Within limit) (sym same) both.1;
          undominated = λ b other beats. best.nondominated other.reached.0 b other.reached.1 (subst (Dominates b) same beats);
        },
  )

-- more pairs than the budget stand in their list just where the query passes
pub goal_passes_below : (net : Network) (s t : ℕ) (limit : List (Option ℕ)) (pairs : List (ℕ × List ℕ)) → AreGoalRelevantPairs net s t limit pairs
    → (budget : ℕ) → GoalPasses net s t limit budget ↔ (budget < length pairs)
goal_passes_below net s t limit pairs are budget =
    let Goal = λ (p : ℕ × List ℕ). IsGoalRelevant net s t limit p.0 p.1 in (
      λ passes.
          let most = pigeonhole passes.pairs pairs passes.distinct (λ p there. (are.exact p).1 (each_in Goal passes.pairs passes.relevant p there)) in
          omega (arith, most, passes.more),
      λ below. record {
        pairs = take (budget + 1) pairs;
        more = length-take-le (budget + 1) pairs (omega arith);
        distinct = pairs_take ◌≢◌ (budget + 1) pairs are.distinct;
        relevant = All-take Goal (budget + 1) pairs (all_from_in Goal pairs (λ p there. (are.exact p).0 there));
      },
    )
