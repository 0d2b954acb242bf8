-- What the searches for the components say of bounds.
use Rattle.std.proofs.Common.{◌≡◌, ℕ, ◌+◌, ◌^◌, ◌<◌, ◌≤◌, List, [], ◌∷◌, ◌++◌, length, get_or, set, inl, inr, sym, subst, ◌∙◌, arith}
use Rattle.std.specs.Prelude.{All}
use Rattle.std.proofs.lemmas.Bool.{cases_eq, cases_lt}
use Rattle.std.proofs.lemmas.List.{get_or_append_left, get_or_default, get_or-set_same, get_or-set_other, length-set}
use Rattle.std.proofs.Math.Seq.{get_or-append_seam}
use Rattle.std.proofs.lemmas.List.Elements.{AllZip-get_or}
use Rattle.cost_vector.proofs.Components.{AtMost_from_places}
use Rattle.road_network.specs.Network.{Network}
use Rattle.road_network.proofs.WalkLaws.{length_of_walk}
use Rattle.arc_graph.specs.Graph.{IsRoadNetwork}
use Rattle.goal_laws.specs.Goal.{IsBound}
use Rattle.goal_bounds.specs.Reverse.{IsLeastOf, IsReverse, ReverseSearch}
use Rattle.goal_bounds.specs.Bounds.{BoundSearch, IsBoundSearch}
use Rattle.goal_bounds.proofs.ReverseLemmas.{least_is_small}

module _ (net : Network) (road : IsRoadNetwork net) (v t : ℕ) where
  -- the least components of all criteria are the bound
  pub bound_of_least : (h : List ℕ) → length h ≡ net.criteria → ((j : ℕ) → j < net.criteria → IsLeastOf net v t j (get_or h j 0)) → IsBound net v t h
  bound_of_least h whole each = record {
    whole = whole;
    below = λ p r walk. AtMost_from_places h r (whole ∙ sym (length_of_walk net road.network p v t r walk))
        (λ j within. (each j (subst (λ n. j < n) whole within)).least p r walk);
    least = λ j within. (each j within).walk;
  }

  pub bound_is_small : (h : List ℕ) → IsBound net v t h → All (λ x. x < 2 ^ 55) h
  bound_is_small h bound = λ j d within.
      let inside : j < net.criteria = subst (λ n. j < n) bound.whole within in
      let walk = bound.least j inside in
      let small = least_is_small net road t v j (get_or h j 0) inside walk.arcs walk.cost walk.walk
      (λ q r other. AllZip-get_or ◌≤◌ h r j 0 0 (bound.below q r other) within) in
      subst (λ x. x < 2 ^ 55) (get_or_default h j 0 d within) small

-- the numbers so far are the least components of the criteria so far
pub record AreLeastBefore (net : Network) (v t count : ℕ) (components : List ℕ) : Type 0 where
  pub each : (i : ℕ) → i < count → IsLeastOf net v t i (get_or components i 0)

-- the same search, which has gone on
pub still_reverse : (net : Network) (t j : ℕ) (before after : ReverseSearch) → IsReverse net t j before → IsReverse net before.target before.criterion after
    → IsReverse net t j after
still_reverse net t j before after was now =
    subst (λ n. IsReverse net t n after) was.criterion_is (subst (λ n. IsReverse net n before.criterion after) was.target_is now)

pub still_least : (net : Network) (v t j x : ℕ) (before : ReverseSearch) → IsReverse net t j before → IsLeastOf net v before.target before.criterion x
    → IsLeastOf net v t j x
still_least net v t j x before was least =
    subst (λ n. IsLeastOf net v t n x) was.criterion_is (subst (λ n. IsLeastOf net v n before.criterion x) was.target_is least)

module _ (net : Network) (t : ℕ) where
  -- with one of the searches gone on they are the same still
  pub search_gone_on : (b : BoundSearch) (j : ℕ) (search : ReverseSearch) → IsBoundSearch net t b → j < net.criteria → IsReverse net t j search
      → IsBoundSearch net t (record { target = b.target; searches = set b.searches j search })
  search_gone_on b j search are within reverse = record {
    target_is = are.target_is;
    count = length-set b.searches j search ∙ are.count;
    each = λ i d inside. elim (cases_eq i j) [
      | inl same ↦
          let here : get_or (set b.searches j search) j d ≡ search = get_or-set_same b.searches j search d (omega (arith, within, are.count)) in
          subst (λ n. IsReverse net t n (get_or (set b.searches j search) n d)) (sym same) (subst (IsReverse net t j) (sym here) reverse)
      | inr other ↦ subst (IsReverse net t i) (sym (get_or-set_other b.searches j i search d other)) (are.each i d inside)
    ];
  }

  pub one_more_least : (v j least : ℕ) (components : List ℕ) → j < length components → AreLeastBefore net v t j components → IsLeastOf net v t j least
      → AreLeastBefore net v t (j + 1) (set components j least)
  one_more_least v j least components within before now = record {
    each = λ i below. elim (cases_eq i j) [
      | inl same ↦ subst (λ n. IsLeastOf net v t n (get_or (set components j least) n 0)) (sym same)
          (subst (IsLeastOf net v t j) (sym (get_or-set_same components j least 0 within)) now)
      | inr other ↦ subst (IsLeastOf net v t i) (sym (get_or-set_other components j i least 0 other)) (before.each i (omega (arith, below, other)))
    ];
  }

-- what holds of each place of a list, and of what is pushed
pub each_more : {X : Type 0} (P : ℕ → X → Type 0) (xs : List X) (x : X) (n : ℕ) → length xs ≡ n → ((j : ℕ) (d : X) → j < n → P j (get_or xs j d)) → P n x
    → (j : ℕ) (d : X) → j < n + 1 → P j (get_or (xs ++ x ∷ []) j d)
each_more P xs x n long before now j d within = elim (cases_lt j n) [
  | inl below ↦ subst (P j) (sym (get_or_append_left xs (x ∷ []) d j (omega (arith, below, long)))) (before j d below)
  | inr here ↦
      let at : j ≡ n = omega (arith, within, here) in
      subst (λ i. P i (get_or (xs ++ x ∷ []) i d)) (sym at)
      (subst (P n) (sym (subst (λ i. get_or (xs ++ x ∷ []) i d ≡ x) long (get_or-append_seam xs x [] d))) now)
]
