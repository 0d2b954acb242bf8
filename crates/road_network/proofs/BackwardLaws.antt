-- Each cost of a walk has one backward-least walk, which is made arc by arc of such walks.
use Rattle.std.proofs.Common.{◌≡◌, ◌≢◌, ℕ, zero, suc, ◌<◌, ◌≤◌, List, [], ◌∷◌, ◌++◌, length, reverse, replicate, sum, inl, inr, refl, sym, ap, ap₂, subst, ◌∙◌, arith}
use Rattle.std.proofs.lemmas.Bool.{cases_eq, cases_lt}
use Rattle.std.proofs.lemmas.List.{reverse-append, reverse-reverse, append_cancel_right}
use Rattle.std.proofs.lemmas.List.Folds.{sum_by-replicate}
use Rattle.cost_vector.specs.Costs.{plus}
use Rattle.cost_vector.proofs.Sums.{plus-minus}
use Rattle.cost_vector.proofs.Vectors.{cases_same, plus_cancel, sum-plus}
use Rattle.list_laws.specs.FirstDifference.{IsLessAtFirst}
use Rattle.road_network.specs.Network.{Network, IsNetwork, IsNode, Leads}
use Rattle.road_network.specs.Walks.{IsWalk, Arrives}
use Rattle.road_network.specs.Best.{IsBackwardLeast}
use Rattle.list_laws.proofs.Least.{least_below}
use Rattle.list_laws.proofs.FirstDifference.{less_not_both, less_behind}
use Rattle.road_network.proofs.WalkLaws.{leads_by_vector, length_of_arrival, length_of_walk, arrives_by_walk, walk_by_arrival, readings_agree, start_of_walk, walk_after, parts_of_walk}
use Rattle.road_network.proofs.Reached.{equality_shifts, leads_alike, less, left, IsReachedAlong, along_last, cases_along}

-- there is no other
pub one_backward_least : (net : Network) (s v : ℕ) (c p q : List ℕ) → IsBackwardLeast net s v c p → IsBackwardLeast net s v c q → p ≡ q
one_backward_least net s v c p q this that = elim (cases_same p q) [
  | inl same ↦ same
  | inr other ↦ absurd (less_not_both (reverse p) (reverse q) (this.least q that.walk (λ e. other (sym e))) (that.least p this.walk other))
]

reverse_cancel : (p q : List ℕ) → reverse p ≡ reverse q → p ≡ q
reverse_cancel p q same = sym (reverse-reverse p) ∙ ap reverse same ∙ reverse-reverse q

-- arcs lead from a node to one node, at one cost
pub one_end : (net : Network) (p : List ℕ) (s u v : ℕ) (b c : List ℕ) → IsWalk net s p u b → IsWalk net s p v c → (u ≡ v) × (b ≡ c)
one_end net [] s u v b c walk other = (sym walk.1 ∙ other.1, walk.2 ∙ sym other.2)
one_end net (k ∷ rest) s u v b c walk other =
    let alike = leads_alike net k s walk.at s other.at walk.by other.by walk.leads other.leads in
    let there = subst (λ x. IsWalk net x rest v other.onward) (sym alike.2) other.walk in
    let end = one_end net rest walk.at u v walk.onward other.onward walk.walk there in
    (end.0, walk.cost ∙ ap₂ plus alike.1 end.1 ∙ sym other.cost)

-- the last arc of a backward-least walk is the least last arc of all walks of its cost
pub last_arc_is_least : (net : Network) (p q : List ℕ) (s v k j : ℕ) (c : List ℕ) → IsBackwardLeast net s v c (p ++ k ∷ [])
    → IsWalk net s (q ++ j ∷ []) v c → k ≤ j
last_arc_is_least net p q s v k j c this other = elim (cases_eq j k) [
  | inl same ↦ omega arith
  | inr differs ↦
      let back = reverse-append p (k ∷ []) in
      let back_too = reverse-append q (j ∷ []) in
      let below = this.least (q ++ j ∷ []) other (λ e. let lists = sym back_too ∙ ap reverse e ∙ back in differs (cc)) in
      elim (rw (back, back_too) at below) [ inl above ↦ omega arith | inr same ↦ omega (arith, same.0) ]
]

sum_of_zeros : (d : ℕ) → sum (replicate d 0) ≡ 0
sum_of_zeros d = omega (arith, sum_by-replicate (λ n. n) d 0)

module _ (net : Network) (is : IsNetwork net) where
  -- a walk of some arcs costs something
  costs_something : (k : ℕ) (arcs : List ℕ) (s v : ℕ) (c : List ℕ) → Arrives net s (k ∷ arcs) v c → 0 < sum c
  costs_something k arcs s v c walk =
      let vector = leads_by_vector net is k walk.at v walk.by walk.leads in
      let long = length_of_arrival net is arcs s walk.at walk.before walk.walk ∙ sym vector.whole in
      omega (arith, vector.nonzero, ap sum walk.cost, sum-plus walk.before walk.by long)

  -- read backwards, the walk comes before all others of its cost
  record IsLeast (s v : ℕ) (c q : List ℕ) : Type 0 where
    pub walk : Arrives net s q v c
    pub least : (r : List ℕ) → Arrives net s r v c → r ≢ q → IsLessAtFirst q r

  -- without its last arc, a walk of cost `plus b w` costs b, where the arc adds w
  without_last : (arcs : List ℕ) (s u v k : ℕ) (b w : List ℕ) → length b ≡ net.criteria → Leads net k u w v
      → Arrives net s (k ∷ arcs) v (plus b w) → Arrives net s arcs u b
  without_last arcs s u v k b w long arc walk =
      let alike = leads_alike net k walk.at v u v walk.by w walk.leads arc in
      let whole = (leads_by_vector net is k u v w arc).whole in
      let so_far = length_of_arrival net is arcs s walk.at walk.before walk.walk in
      let total : plus walk.before w ≡ plus b w = ap (plus walk.before) (sym alike.1) ∙ sym walk.cost in
      let cost = plus_cancel walk.before b w (so_far ∙ sym whole) (long ∙ sym whole) total in
      subst (Arrives net s arcs u) cost (subst (λ x. Arrives net s arcs x walk.before) alike.0 walk.walk)

  -- the least last arc, and before it the least walk
  with_least_last : (s u v k : ℕ) (b w q : List ℕ) → Leads net k u w v → IsLeast s u b q
      → ((j : ℕ) (arcs : List ℕ) → j < k → ¬ Arrives net s (j ∷ arcs) v (plus b w)) → IsLeast s v (plus b w) (k ∷ q)
  with_least_last s u v k b w q arc before none_below = record { walk = whole; least = others } where
    whole : Arrives net s (k ∷ q) v (plus b w)
    whole = record { at = u; by = w; before = b; walk = before.walk; leads = arc; cost = refl }

    others : (r : List ℕ) → Arrives net s r v (plus b w) → r ≢ k ∷ q → IsLessAtFirst (k ∷ q) r
    others [] walk differs = omega (arith, costs_something k q s v (plus b w) whole, ap sum walk.2, sum_of_zeros net.criteria)
    others (j ∷ arcs) walk differs = elim (cases_lt k j) [
      | inl below ↦ inl below
      | inr above ↦ elim (cases_lt j k) [
        | inl before_k ↦ absurd (none_below j arcs before_k walk)
        | inr not_before ↦
            let same : k ≡ j = omega arith in
            let long = length_of_arrival net is q s u b before.walk in
            let there = without_last arcs s u v k b w long arc (subst (λ n. Arrives net s (n ∷ arcs) v (plus b w)) (sym same) walk) in
            inr (same, before.least arcs there (λ e. differs (ap₂ (λ n rest. n ∷ rest) (sym same) e)))
      ]
    ]

  module _ (s : ℕ) (node : IsNode net.nodes s) where
    abbrev IsLast : ℕ → List ℕ → ℕ → Type 0
    IsLast = IsReachedAlong net s (λ a b. a ≡ b)

    least_arrival : (n v : ℕ) (q c : List ℕ) → sum c < n → Arrives net s q v c → (r : List ℕ) × IsLeast s v c r
    least_arrival zero v q c small walk = absurd (omega arith)
    least_arrival (suc n) v [] c small walk = (
      [],
      record {
        walk = walk;
        least = none_other;
      },
    ) where
      none_other : (r : List ℕ) → Arrives net s r v c → r ≢ [] → IsLessAtFirst [] r
      none_other [] other differs = differs refl
      none_other (k ∷ arcs) other differs = omega (arith, costs_something k arcs s v c other, ap sum walk.2, sum_of_zeros net.criteria)
    least_arrival (suc n) v (k ∷ arcs) c small walk =
        let long = length_of_arrival net is (k ∷ arcs) s v c walk in
        let there = along_last net is s node equality_shifts v c long k arcs c walk refl in
        elim (least_below (IsLast v c) (cases_along net is s node equality_shifts v c long) (suc k)) [
          | inr none ↦ absurd (none k (omega arith) there)
          | inl found ↦
              let along = found.1.holds in
              let rest = left net is found.0 along.from v along.by c along.leads long along.fits in
              let before = least_arrival n along.from along.before.arcs (less c along.by) (omega (arith, rest.1))
              (subst (Arrives net s along.before.arcs along.from) along.before.related along.before.walk) in
              let total = plus-minus c along.by along.fits in
              let whole = with_least_last s along.from v found.0 (less c along.by) along.by before.0 along.leads before.1
              (λ j arcs below other. found.1.none_below j below (along_last net is s node equality_shifts v c long j arcs _ other total)) in
              (found.0 ∷ before.0, subst (λ z. IsLeast s v z (found.0 ∷ before.0)) total whole)
        ]

  -- ---- the same of walks read from their first arc on

  backward_least_by_least : (p : List ℕ) (s v : ℕ) (c : List ℕ) → IsLeast s v c (reverse p) → IsBackwardLeast net s v c p
  backward_least_by_least p s v c this = record {
    walk = (readings_agree net is p s v c).1 this.walk;
    least = λ r other differs. this.least (reverse r) (arrives_by_walk net is r s v c other) (λ e. differs (reverse_cancel r p e));
  }

  least_by_backward_least : (p : List ℕ) (s v : ℕ) (c : List ℕ) → IsBackwardLeast net s v c p → IsLeast s v c (reverse p)
  least_by_backward_least p s v c this = record {
    walk = arrives_by_walk net is p s v c this.walk;
    least = λ r other differs.
        let back = this.least (reverse r) (walk_by_arrival net is r s v c other) (λ e. differs (sym (reverse-reverse r) ∙ ap reverse e)) in
        subst (IsLessAtFirst (reverse p)) (reverse-reverse r) back;
  }

  pub has_backward_least : (p : List ℕ) (s v : ℕ) (c : List ℕ) → IsWalk net s p v c → (q : List ℕ) × IsBackwardLeast net s v c q
  has_backward_least p s v c walk =
      let found = least_arrival s (start_of_walk net is p s v c walk) (suc (sum c)) v (reverse p) c (omega arith) (arrives_by_walk net is p s v c walk) in
      (reverse found.0, backward_least_by_least (reverse found.0) s v c (subst (IsLeast s v c) (sym (reverse-reverse found.0)) found.1))

  -- ---- arc by arc

  -- only the walk without arcs costs nothing
  pub none_at_zero : (p : List ℕ) (s v : ℕ) → IsWalk net s p v (replicate net.criteria 0) → p ≡ []
  none_at_zero [] s v walk = refl
  none_at_zero (k ∷ rest) s v walk =
      let vector = leads_by_vector net is k s walk.at walk.by walk.leads in
      let long = length_of_walk net is rest walk.at v walk.onward walk.walk in
      absurd (omega (arith, vector.nonzero, ap sum walk.cost, sum-plus walk.by walk.onward (vector.whole ∙ sym long), sum_of_zeros net.criteria))

  -- the first part of a backward-least walk is the backward-least walk of its own cost
  pub front_is_backward_least : (p q : List ℕ) (s v t : ℕ) (b c : List ℕ) → IsBackwardLeast net s t c (p ++ q) → IsWalk net s p v b
      → IsBackwardLeast net s v b p
  front_is_backward_least p q s v t b c this front = record { walk = front; least = others } where
    others : (r : List ℕ) → IsWalk net s r v b → r ≢ p → IsLessAtFirst (reverse p) (reverse r)
    others r other differs =
        let parts = parts_of_walk net is p q s t c this.walk in
        let end = one_end net p s v parts.at b parts.so_far front parts.first in
        let there = subst (IsWalk net s r parts.at) end.1 (subst (λ x. IsWalk net s r x b) end.0 other) in
        let whole = walk_after net is r q s parts.at t parts.so_far parts.onward there parts.second in
        let below = this.least (r ++ q) (subst (IsWalk net s (r ++ q) t) (sym parts.cost) whole) (λ e. differs (append_cancel_right r p q e)) in
        less_behind (reverse q) (reverse p) (reverse r) (rw (reverse-append p q, reverse-append r q) at below)

  -- with the least last arc on, a backward-least walk is backward-least
  pub with_last_arc : (p : List ℕ) (s u v k : ℕ) (b w : List ℕ) → IsBackwardLeast net s u b p → Leads net k u w v
      → ((q : List ℕ) (j : ℕ) → IsWalk net s (q ++ j ∷ []) v (plus b w) → k ≤ j) → IsBackwardLeast net s v (plus b w) (p ++ k ∷ [])
  with_last_arc p s u v k b w this arc least =
      let none_below = λ (j : ℕ) (arcs : List ℕ) (below : j < k) (walk : Arrives net s (j ∷ arcs) v (plus b w)).
      let forwards = subst (λ r. IsWalk net s r v (plus b w)) (reverse-append (j ∷ []) arcs) (walk_by_arrival net is (j ∷ arcs) s v (plus b w) walk) in
      let bottom : ⊥ = omega (arith, least (reverse arcs) j forwards) in bottom in
      let whole = with_least_last s u v k b w (reverse p) arc (least_by_backward_least p s u b this) none_below in
      backward_least_by_least (p ++ k ∷ []) s v (plus b w) (subst (IsLeast s v (plus b w)) (sym (reverse-append p (k ∷ []))) whole)
