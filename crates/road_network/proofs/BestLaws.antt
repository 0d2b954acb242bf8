-- What best costs are to all costs of walks: each of these is at least a best cost, and what leads to a best cost has best
-- costs on its way.
use Rattle.std.proofs.Common.{◌≡◌, ℕ, zero, suc, ◌<◌, List, [], ◌∷◌, ◌++◌, length, replicate, sum, Option, Some, None, ◌⊎◌, inl, inr, refl, sym, ap, subst, ◌∙◌, arith}
use Rattle.std.proofs.lemmas.List.{length-replicate}
use Rattle.cost_vector.specs.Costs.{Dominates, Within, plus}
use Rattle.cost_vector.proofs.Vectors.{AtMost-refl, AtMost-trans, AtMost-antisymm, AtMost-zeros, AtMost-length, AtMost-plus_self, AtMost-Dominates, cases_Within, Dominates-plus, sum-plus, sum-Dominates}
use Rattle.road_network.specs.Network.{Network, IsNetwork, IsNode, Leads}
use Rattle.road_network.specs.Walks.{IsWalk}
use Rattle.road_network.specs.Best.{IsBest, HasBestBelow, EndsAtBest}
use Rattle.road_network.specs.Answers.{IsRelevant}
use Rattle.road_network.proofs.WalkLaws.{leads_by_vector, length_of_walk, walk_on, walk_after, parts_of_walk}
use Rattle.road_network.proofs.Reached.{equality_shifts, dominance_shifts, cases_walk}

-- zeros are within every limit
Within-zeros : (limit : List (Option ℕ)) (d : ℕ) → length limit ≡ d → Within limit (replicate d 0)
Within-zeros [] zero long = tt
Within-zeros [] (suc d) long = absurd (omega arith)
Within-zeros (place ∷ limit) zero long = absurd (omega arith)
Within-zeros (None ∷ limit) (suc d) long = (tt, Within-zeros limit d (omega arith))
Within-zeros (Some most ∷ limit) (suc d) long = (omega arith, Within-zeros limit d (omega arith))

-- nothing is better than to stand still
pub start_is_relevant : (net : Network) (s t : ℕ) (limit : List (Option ℕ)) → IsNode net.nodes s → length limit ≡ net.criteria
    → IsRelevant net s t limit s (replicate net.criteria 0)
start_is_relevant net s t limit node long =
    let zeros = replicate net.criteria 0 in
    let none_better : (b : List ℕ) → ¬ Dominates b zeros = λ b better.
    let long = AtMost-length b zeros better.at_most ∙ length-replicate net.criteria 0 in
    better.differs (AtMost-antisymm b zeros better.at_most (AtMost-zeros net.criteria b long)) in
    record {
      best = record { reached = ([], (node, refl, refl)); nondominated = λ p b walk. none_better b };
      within = Within-zeros limit net.criteria long;
      undominated = λ b best. none_better b;
    }

module _ (net : Network) (is : IsNetwork net) where
  -- what an arc adds makes each cost greater, and leaves dominance as it is
  pub grows_along : (k u v : ℕ) (w c : List ℕ) → Leads net k u w v → length c ≡ net.criteria → Dominates c (plus c w)
  grows_along k u v w c arc long =
      let vector = leads_by_vector net is k u v w arc in
      let same : length c ≡ length w = long ∙ sym vector.whole in
      record { at_most = AtMost-plus_self c w same; differs = λ e. omega (arith, vector.nonzero, sum-plus c w same, ap sum e) }

  pub dominates_along : (k u v : ℕ) (w a b : List ℕ) → Leads net k u w v → length a ≡ net.criteria → Dominates a b → Dominates (plus a w) (plus b w)
  dominates_along k u v w a b arc long better = Dominates-plus a b w (long ∙ sym (leads_by_vector net is k u v w arc).whole) better

  -- without its last arc a best cost is best where that arc leads from
  pub best_before : (p : List ℕ) (s u v k : ℕ) (b w : List ℕ) → IsWalk net s p u b → Leads net k u w v → IsBest net s v (plus b w) → IsBest net s u b
  best_before p s u v k b w walk arc best = record {
    reached = (p, walk);
    nondominated = λ r a other better.
        best.nondominated (r ++ k ∷ []) (plus a w) (walk_on net is r s u v k a w other arc)
        (dominates_along k u v w a b arc (length_of_walk net is r s u a other) better);
  }

  -- the first part of a walk whose cost is best has a best cost
  pub first_part_is_best : (p q : List ℕ) (s t : ℕ) (c : List ℕ) → IsWalk net s (p ++ q) t c → IsBest net s t c → EndsAtBest net s p
  first_part_is_best p q s t c walk best =
      let parts = parts_of_walk net is p q s t c walk in
      let long : length parts.so_far ≡ length parts.onward =
      length_of_walk net is p s parts.at parts.so_far parts.first ∙ sym (length_of_walk net is q parts.at t parts.onward parts.second) in
      record {
        at = parts.at;
        cost = parts.so_far;
        walk = parts.first;
        best = record {
          reached = (p, parts.first);
          nondominated = λ r b other better.
              let long_too : length b ≡ length parts.onward = AtMost-length b parts.so_far better.at_most ∙ long in
              best.nondominated (r ++ q) (plus b parts.onward) (walk_after net is r q s parts.at t b parts.onward other parts.second)
              (subst (Dominates (plus b parts.onward)) (sym parts.cost) (Dominates-plus b parts.so_far parts.onward long_too better));
        };
      }

  -- of a cost that isn't best a lesser one is looked at, as long as there is one
  best_below : (s n v : ℕ) (p c : List ℕ) → sum c < n → IsWalk net s p v c → HasBestBelow net s v c
  best_below s zero v p c small walk = absurd (omega arith)
  best_below s (suc n) v p c small walk =
      elim (cases_walk net is dominance_shifts s v c) [
        | inr none ↦ record { cost = c; best = record { reached = (p, walk); nondominated = none }; at_most = AtMost-refl c }
        | inl beaten ↦
            let below = best_below s n v beaten.0 beaten.1 (omega (arith, sum-Dominates beaten.1 c beaten.3)) beaten.2 in
            record { cost = below.cost; best = below.best; at_most = AtMost-trans below.cost beaten.1 c below.at_most beaten.3.at_most }
      ]

  -- each cost of a walk is at least some best cost
  pub each_has_best_below : (p : List ℕ) (s v : ℕ) (c : List ℕ) → IsWalk net s p v c → HasBestBelow net s v c
  each_has_best_below p s v c walk = best_below s (suc (sum c)) v p c (omega arith) walk

  -- it can be told whether a cost is best, and whether a pair is relevant
  pub cases_best : (s v : ℕ) (c : List ℕ) → IsBest net s v c ⊎ (¬ IsBest net s v c)
  cases_best s v c = elim (cases_walk net is equality_shifts s v c) [
    | inr none ↦ inr (λ best. none best.reached.0 c best.reached.1 refl)
    | inl found ↦ elim (cases_walk net is dominance_shifts s v c) [
      | inl beaten ↦ inr (λ best. best.nondominated beaten.0 beaten.1 beaten.2 beaten.3)
      | inr none ↦ inl (record { reached = (found.0, subst (IsWalk net s found.0 v) found.3 found.2); nondominated = none })
    ]
  ]

  pub cases_best_within : (s v : ℕ) (limit : List (Option ℕ)) (c : List ℕ)
      → (IsBest net s v c × Within limit c) ⊎ (¬ (IsBest net s v c × Within limit c))
  cases_best_within s v limit c = elim (cases_best s v c) [
    | inr other ↦ inr (λ both. other both.0)
    | inl best ↦ elim (cases_Within limit c) [ inr above ↦ inr (λ both. above both.1) | inl within ↦ inl (best, within) ]
  ]

  pub cases_relevant : (s t : ℕ) (limit : List (Option ℕ)) (v : ℕ) (c : List ℕ) → IsRelevant net s t limit v c ⊎ (¬ IsRelevant net s t limit v c)
  cases_relevant s t limit v c = elim (cases_best_within s v limit c) [
    | inr other ↦ inr (λ relevant. other (relevant.best, relevant.within))
    | inl both ↦ elim (cases_walk net is dominance_shifts s t c) [
      | inr none ↦ inl (record { best = both.0; within = both.1; undominated = λ b best. none best.reached.0 b best.reached.1 })
      | inl beaten ↦
          let below = each_has_best_below beaten.0 s t beaten.1 beaten.2 in
          inr (λ relevant. relevant.undominated below.cost below.best (AtMost-Dominates below.cost beaten.1 c below.at_most beaten.3))
    ]
  ]
