-- A node has one bound, the target's is zero, and along an arc it falls by the arc's vector at most.
use Rattle.std.proofs.Common.{◌≡◌, ℕ, zero, suc, ◌+◌, ◌<◌, ◌≤◌, List, [], ◌∷◌, length, replicate, get_or, min, inl, inr, refl, sym, ap, subst, ◌∙◌, arith}
use Rattle.std.specs.Prelude.{Contains}
use Rattle.std.proofs.lemmas.Bool.{cases_lt}
use Rattle.std.proofs.lemmas.List.{length-replicate}
use Rattle.list_laws.proofs.Members.{cases_in, in_first, in_none, in_one, in_rest}
use Rattle.std.proofs.lemmas.List.Elements.{AllZip-get_or}
use Rattle.cost_vector.specs.Costs.{AtMost, no_limit, plus}
use Rattle.cost_vector.proofs.Vectors.{AtMost-refl, AtMost-trans, AtMost-antisymm, AtMost-zeros, AtMost-plus, length-plus, plus_assoc, Within-no_limit}
use Rattle.cost_vector.proofs.Sums.{each, length-each}
use Rattle.cost_vector.proofs.Components.{AtMost_from_places, IsMeet, below_other, below_this, get_or-plus}
use Rattle.road_network.specs.Network.{Network, IsNetwork, IsNode, Leads}
use Rattle.road_network.specs.Walks.{IsWalk}
use Rattle.road_network.specs.Best.{HasBestBelow}
use Rattle.road_network.specs.Answers.{AreBestCosts}
use Rattle.road_network.proofs.AnswerLaws.{some_list}
use Rattle.road_network.proofs.BestLaws.{each_has_best_below}
use Rattle.road_network.proofs.WalkLaws.{leads_by_vector, length_of_walk}
use Rattle.goal_laws.specs.Goal.{IsBound}

-- a component of what is at most a cost is at most its component
component_below : (a b : List ℕ) (j x : ℕ) → AtMost a b → j < length a → get_or b j 0 ≡ x → get_or a j 0 ≤ x
component_below a b j x below within is = subst (λ y. get_or a j 0 ≤ y) is (AllZip-get_or ◌≤◌ a b j 0 0 below within)

-- what is at most each walk's cost is at most the bound
pub below_bound : (net : Network) (v t : ℕ) (a h : List ℕ) → length a ≡ net.criteria → ((p r : List ℕ) → IsWalk net v p t r → AtMost a r)
    → IsBound net v t h → AtMost a h
below_bound net v t a h whole below bound =
    AtMost_from_places a h (whole ∙ sym bound.whole)
    (λ j within.
    let walk = bound.least j (subst (λ n. j < n) whole within) in
    component_below a walk.cost j (get_or h j 0) (below walk.arcs walk.cost walk.walk) within walk.component)

pub one_bound : (net : Network) (v t : ℕ) (h g : List ℕ) → IsBound net v t h → IsBound net v t g → h ≡ g
one_bound net v t h g this that =
    AtMost-antisymm h g (below_bound net v t h g this.whole this.below that) (below_bound net v t g h that.whole that.below this)

-- ---- the least components of some costs

each_at : (xs ys : List ℕ) (k : ℕ) → length xs ≡ length ys → k < length xs → get_or (each min xs ys) k 0 ≡ min (get_or xs k 0) (get_or ys k 0)
each_at [] ys k e within = absurd (omega arith)
each_at (x ∷ xs) [] k e within = absurd (omega arith)
each_at (x ∷ xs) (y ∷ ys) zero e within = refl
each_at (x ∷ xs) (y ∷ ys) (suc k) e within = each_at xs ys k (omega arith) (omega arith)

-- h is at most each of the costs, and has each component from one of them
record AreLeastOf (d : ℕ) (costs : List (List ℕ)) (h : List ℕ) : Type 0 where
  pub whole : length h ≡ d
  pub below : (x : List ℕ) → Contains costs x → AtMost h x
  pub has : (j : ℕ) → j < d → (x : List ℕ) × Contains costs x × (get_or x j 0 ≡ get_or h j 0)

least_of : (d : ℕ) (c : List ℕ) (cs : List (List ℕ)) → ((x : List ℕ) → Contains (c ∷ cs) x → length x ≡ d) → (h : List ℕ) × AreLeastOf d (c ∷ cs) h
least_of d c [] long = (
  c,
  record {
    whole = long c (in_first c []);
    below = λ x there. subst (AtMost c) (sym (in_one c x there)) (AtMost-refl c);
    has = λ j within. (c, in_first c [], refl);
  },
)
least_of d c (e ∷ es) long =
    let rest = least_of d e es (λ x there. long x (in_rest c (e ∷ es) x there)) in
    let g = rest.0 in
    let first : length c ≡ d = long c (in_first c (e ∷ es)) in
    let same : length c ≡ length g = first ∙ sym rest.1.whole in
    let meet : IsMeet (each min c g) c g = record {
      as_long = length-each min c g same;
      as_long_other = length-each min c g same ∙ same;
      lesser = λ k within. each_at c g k same (subst (λ n. k < n) (length-each min c g same) within);
    } in (
      each min c g,
      record {
        whole = length-each min c g same ∙ first;
        below = λ x there. elim (cases_in c (e ∷ es) x there) [
          | inl this ↦ subst (AtMost (each min c g)) (sym this) (below_this meet)
          | inr later ↦ AtMost-trans (each min c g) g x (below_other meet) (rest.1.below x later)
        ];
        has = λ j within. elim (cases_lt (get_or g j 0) (get_or c j 0)) [
          | inl less ↦
              let from = rest.1.has j within in
              let inside : j < length c = omega (arith, within, first) in
              (from.0, in_rest c (e ∷ es) from.0 from.1, omega (arith, each_at c g j same inside, from.2, less))
          | inr most ↦
              let inside : j < length c = omega (arith, within, first) in
              (c, in_first c (e ∷ es), omega (arith, each_at c g j same inside, most))
        ];
      },
    )

module _ (net : Network) (is : IsNetwork net) where
  abbrev zeros : List ℕ
  zeros = replicate net.criteria 0

  pub bound_of_target : (t : ℕ) → IsNode net.nodes t → IsBound net t t zeros
  bound_of_target t node = record {
    whole = length-replicate net.criteria 0;
    below = λ p r walk. AtMost-zeros net.criteria r (length_of_walk net is p t t r walk);
    least = λ j within. record {
      arcs = [];
      cost = zeros;
      walk = (node, refl, refl);
      component = refl;
    };
  }

  -- along an arc it falls by the arc's vector at most
  pub bound_along : (k u v t : ℕ) (w h g : List ℕ) → Leads net k u w v → IsBound net u t h → IsBound net v t g → AtMost h (plus w g)
  bound_along k u v t w h g arc this that =
      let whole = (leads_by_vector net is k u v w arc).whole in
      let as_long : length w ≡ length g = whole ∙ sym that.whole in
      AtMost_from_places h (plus w g) (this.whole ∙ sym whole ∙ sym (length-plus w g as_long))
      (λ j within.
      let walk = that.least j (subst (λ n. j < n) this.whole within) in
      let long : length w ≡ length walk.cost = whole ∙ sym (length_of_walk net is walk.arcs v t walk.cost walk.walk) in
      let below = this.below (k ∷ walk.arcs) (plus w walk.cost)
      (record { by = w; at = v; onward = walk.cost; leads = arc; walk = walk.walk; cost = refl }) in
      let same : get_or (plus w walk.cost) j 0 ≡ get_or (plus w g) j 0 =
      get_or-plus w walk.cost j long ∙ ap (λ x. get_or w j 0 + x) walk.component ∙ sym (get_or-plus w g j as_long) in
      component_below h (plus w walk.cost) j (get_or (plus w g) j 0) below within same)

  -- so with the bound of its node a cost never falls along a walk
  pub never_less : (k u v t : ℕ) (b w h g : List ℕ) → Leads net k u w v → length b ≡ net.criteria → IsBound net u t h → IsBound net v t g
      → AtMost (plus b h) (plus (plus b w) g)
  never_less k u v t b w h g arc long this that =
      subst (AtMost (plus b h)) (sym (plus_assoc b w g)) (AtMost-plus b b h (plus w g) (AtMost-refl b) (bound_along k u v t w h g arc this that))

  -- ---- a node from which a walk leads on has one

  bound_of_costs : (v t : ℕ) (costs : List (List ℕ)) → AreBestCosts net v t (no_limit net.criteria) costs → (p r : List ℕ) → IsWalk net v p t r
      → (h : List ℕ) × IsBound net v t h
  bound_of_costs v t costs are p r walk = by costs refl where
    there : (q z : List ℕ) → IsWalk net v q t z → (below : HasBestBelow net v t z) → Contains costs below.cost
    there q z other below =
        let best = below.best.reached in
        (are.exact below.cost).1 (below.best, Within-no_limit net.criteria below.cost (length_of_walk net is best.0 v t below.cost best.1))

    long : (x : List ℕ) → Contains costs x → length x ≡ net.criteria
    long x has = let best = ((are.exact x).0 has).0.reached in length_of_walk net is best.0 v t x best.1

    by : (list : List (List ℕ)) → costs ≡ list → (h : List ℕ) × IsBound net v t h
    by [] none =
        let below = each_has_best_below net is p v t r walk in
        absurd (in_none below.cost (subst (λ xs. Contains xs below.cost) none (there p r walk below)))
    by (c ∷ cs) some =
        let least = least_of net.criteria c cs (λ x has. long x (subst (λ xs. Contains xs x) (sym some) has)) in (
          least.0,
          record {
            whole = least.1.whole;
            below = λ q z other.
                let below = each_has_best_below net is q v t z other in
                AtMost-trans least.0 below.cost z
                (least.1.below below.cost (subst (λ xs. Contains xs below.cost) some (there q z other below))) below.at_most;
            least = λ j within.
                let from = least.1.has j within in
                let best = ((are.exact from.0).0 (subst (λ xs. Contains xs from.0) (sym some) from.1)).0.reached in
                record { arcs = best.0; cost = from.0; walk = best.1; component = from.2 };
          },
        )

  pub has_bound : (v t : ℕ) (p r : List ℕ) → IsWalk net v p t r → (h : List ℕ) × IsBound net v t h
  has_bound v t p r walk = let all = some_list net v t is (no_limit net.criteria) in bound_of_costs v t all.0 all.1 p r walk
