-- Whether some walk to a node has a cost that is so related to another can be decided, arc by arc from the last one back.
use Rattle.std.proofs.Common.{◌≡◌, ℕ, zero, suc, ◌+◌, ◌-◌, ◌<◌, List, [], ◌∷◌, length, replicate, reverse, sum, Option, Some, None, ◌⊎◌, inl, inr, refl, sym, ap, subst, ◌∙◌, arith}
use Rattle.std.specs.Prelude.{slice_get}
use Rattle.std.proofs.lemmas.Bool.{cases_eq, cases_lt}
use Rattle.std.proofs.lemmas.Option.{get_or_from_slice_get, slice_get_cases}
use Rattle.cost_vector.specs.Costs.{AtMost, Dominates, plus}
use Rattle.cost_vector.proofs.Sums.{each, length-each, plus-minus}
use Rattle.cost_vector.proofs.Vectors.{AtMost-refl, AtMost-trans, AtMost-plus_other, AtMost-length, cases_AtMost, cases_Dominates, cases_same, Dominates-plus, Dominates-cancel, plus_cancel, sum-plus}
use Rattle.road_network.specs.Network.{Network, IsNetwork, IsNode, Leads}
use Rattle.road_network.specs.Walks.{IsWalk, Arrives, EndsBy}
use Rattle.list_laws.proofs.Least.{least_below}
use Rattle.road_network.proofs.WalkLaws.{leads_by_vector, length_of_arrival, length_of_walk, start_of_walk, arrives_by_walk, walk_by_arrival}

-- a relation of costs that stands where the same is added to both, or taken from both
pub record IsShiftable (R : List ℕ → List ℕ → Type 0) : Type 0 where
  pub at_most : (a b : List ℕ) → R a b → AtMost a b
  pub added : (a b w : List ℕ) → length a ≡ length w → R a b → R (plus a w) (plus b w)
  pub taken : (a b w : List ℕ) → length a ≡ length w → length b ≡ length w → R (plus a w) (plus b w) → R a b
  pub decided : (a b : List ℕ) → R a b ⊎ (¬ R a b)

pub dominance_shifts : IsShiftable Dominates
dominance_shifts = record { at_most = λ a b better. better.at_most; added = Dominates-plus; taken = Dominates-cancel; decided = cases_Dominates }

pub equality_shifts : IsShiftable (λ a b. a ≡ b)
equality_shifts = record {
  at_most = λ a b same. subst (AtMost a) same (AtMost-refl a);
  added = λ a b w long same. ap (λ z. plus z w) same;
  taken = plus_cancel;
  decided = cases_same;
}

-- ---- arcs

module _ (net : Network) where
  -- an arc leads from one node by one vector to one node
  pub leads_alike : (k u v x y : ℕ) (w z : List ℕ) → Leads net k u w v → Leads net k x z y → (u ≡ x) × (w ≡ z) × (v ≡ y)
  leads_alike k u v x y w z arc other =
      let ends = sym (get_or_from_slice_get net.ends (k - 1) (u, v) (u, v) arc.ends) ∙ get_or_from_slice_get net.ends (k - 1) (x, y) (u, v) other.ends in
      let states : Some w ≡ Some z =
      sym (get_or_from_slice_get net.states (k - 1) (Some w) None arc.passable) ∙ get_or_from_slice_get net.states (k - 1) (Some z) None other.passable in
      let vector : w ≡ z = cc in
      (ap (λ (p : ℕ × ℕ). p.0) ends, vector, ap (λ (p : ℕ × ℕ). p.1) ends)

  -- an arc that leads somewhere has a number up to the number of arcs
  pub arc_counts : (k u v : ℕ) (w : List ℕ) → Leads net k u w v → k < length net.ends + 1
  arc_counts k u v w arc = elim (slice_get_cases net.ends (k - 1)).1 [
    | inl there ↦ omega (arith, there.1)
    | inr beyond ↦ let none = sym arc.ends ∙ beyond.1 in absurd cc
  ]

  record LeadsTo (k v : ℕ) : Type 0 where
    pub from : ℕ
    pub by : List ℕ
    pub leads : Leads net k from by v

  cases_leads : (k v : ℕ) → LeadsTo k v ⊎ (¬ LeadsTo k v)
  cases_leads k v = by_place (slice_get net.ends (k - 1)) refl (slice_get net.states (k - 1)) refl where
    by_place : (e : Option (ℕ × ℕ)) → slice_get net.ends (k - 1) ≡ e → (o : Option (Option (List ℕ))) → slice_get net.states (k - 1) ≡ o
        → LeadsTo k v ⊎ (¬ LeadsTo k v)
    by_place None at o is = inr (λ to. let none : None ≡ Some (to.from, v) = sym at ∙ to.leads.ends in absurd cc)
    by_place (Some e) at None is = inr (λ to. let none : None ≡ Some (Some to.by) = sym is ∙ to.leads.passable in absurd cc)
    by_place (Some e) at (Some None) is = inr (λ to. let none : Some None ≡ Some (Some to.by) = sym is ∙ to.leads.passable in absurd cc)
    by_place (Some e) at (Some (Some w)) is = elim (cases_lt 0 k) [
      | inr below ↦ inr (λ to. omega (arith, to.leads.counted))
      | inl counted ↦ elim (cases_eq e.1 v) [
        | inl same ↦ inl (record { from = e.0; by = w; leads = record { counted = counted; ends = at ∙ ap (λ x. Some (e.0, x)) same; passable = is } })
        | inr other ↦ inr (λ to.
            let there : Some e ≡ Some (to.from, v) = sym at ∙ to.leads.ends in
            let same : e ≡ (to.from, v) = cc in
            other (ap (λ (p : ℕ × ℕ). p.1) same))
      ]
    ]

cases_node : (nodes v : ℕ) → IsNode nodes v ⊎ (¬ IsNode nodes v)
cases_node nodes v = elim (cases_lt v 1) [
  | inl below ↦ inr (λ node. omega arith)
  | inr counted ↦ elim (cases_lt nodes v) [ inl above ↦ inr (λ node. omega arith) | inr within ↦ inl (counted, within) ]
]

-- what is left of a cost when a vector is taken from it
abbrev pub less : List ℕ → List ℕ → List ℕ
less = each ◌-◌

-- what is left when a vector that fits is taken from a cost has as many components, and they add up to less
pub left : (net : Network) → IsNetwork net → (k u v : ℕ) (w c : List ℕ) → Leads net k u w v → length c ≡ net.criteria → AtMost w c
    → (length (less c w) ≡ net.criteria) × (sum (less c w) < sum c)
left net is k u v w c arc long fits =
    let vector = leads_by_vector net is k u v w arc in
    let same : length c ≡ length w = long ∙ sym vector.whole in
    let whole = length-each ◌-◌ c w same in
    let total : sum c ≡ sum (less c w) + sum w = sym (ap sum (plus-minus c w fits)) ∙ sum-plus (less c w) w (whole ∙ same) in
    (whole ∙ long, omega (arith, vector.nonzero, total))

-- ---- walks

module _ (net : Network) (s : ℕ) (R : List ℕ → List ℕ → Type 0) where
  -- some walk from s to v has a cost that is so related to c
  pub record IsReached (v : ℕ) (c : List ℕ) : Type 0 where
    pub arcs : List ℕ
    pub cost : List ℕ
    pub walk : Arrives net s arcs v cost
    pub related : R cost c

  -- arc k is the last of one
  pub record IsReachedAlong (v : ℕ) (c : List ℕ) (k : ℕ) : Type 0 where
    pub from : ℕ
    pub by : List ℕ
    pub leads : Leads net k from by v
    pub fits : AtMost by c
    pub before : IsReached from (less c by)

module _ (net : Network) (is : IsNetwork net) (s : ℕ) (node : IsNode net.nodes s) {R : List ℕ → List ℕ → Type 0} (shifts : IsShiftable R) where
  abbrev Reached : ℕ → List ℕ → Type 0
  Reached = IsReached net s R

  abbrev Along : ℕ → List ℕ → ℕ → Type 0
  Along = IsReachedAlong net s R

  reached_along : (v : ℕ) (c : List ℕ) (k : ℕ) → Along v c k → Reached v c
  reached_along v c k along =
      let before = along.before in
      let vector = leads_by_vector net is k along.from v along.by along.leads in
      let long = length_of_arrival net is before.arcs s along.from before.cost before.walk ∙ sym vector.whole in
      let added = shifts.added before.cost (less c along.by) along.by long before.related in
      record {
        arcs = k ∷ before.arcs;
        cost = plus before.cost along.by;
        walk = record { at = along.from; by = along.by; before = before.cost; walk = before.walk; leads = along.leads; cost = refl };
        related = subst (R (plus before.cost along.by)) (plus-minus c along.by along.fits) added;
      }

  -- the last arc of such a walk
  pub along_last : (v : ℕ) (c : List ℕ) → length c ≡ net.criteria → (k : ℕ) (arcs b : List ℕ) → EndsBy net k v (λ u z. Arrives net s arcs u z) b → R b c
      → Along v c k
  along_last v c long k arcs b walk related =
      let whole = (leads_by_vector net is k walk.at v walk.by walk.leads).whole in
      let so_far = length_of_arrival net is arcs s walk.at walk.before walk.walk ∙ sym whole in
      let total : R (plus walk.before walk.by) c = subst (λ z. R z c) walk.cost related in
      let fits : AtMost walk.by c = AtMost-trans walk.by _ c (AtMost-plus_other walk.before walk.by so_far) (shifts.at_most _ c total) in
      let rest = (left net is k walk.at v walk.by c walk.leads long fits).0 ∙ sym whole in
      let both = subst (R (plus walk.before walk.by)) (sym (plus-minus c walk.by fits)) total in
      record {
        from = walk.at;
        by = walk.by;
        leads = walk.leads;
        fits = fits;
        before = record { arcs = arcs; cost = walk.before; walk = walk.walk; related = shifts.taken walk.before (less c walk.by) walk.by so_far rest both };
      }

  cases_along_if : (v : ℕ) (c : List ℕ) → length c ≡ net.criteria
      → ((u : ℕ) (d : List ℕ) → sum d < sum c → length d ≡ net.criteria → Reached u d ⊎ (¬ Reached u d))
      → (k : ℕ) → Along v c k ⊎ (¬ Along v c k)
  cases_along_if v c long smaller k = elim (cases_leads net k v) [
    | inr elsewhere ↦ inr (λ along. elsewhere (record { from = along.from; by = along.by; leads = along.leads }))
    | inl to ↦ elim (cases_AtMost to.by c) [
      | inr above ↦ inr (λ along. above (subst (λ w. AtMost w c) (leads_alike net k along.from v to.from v along.by to.by along.leads to.leads).1 along.fits))
      | inl fits ↦
          let rest = left net is k to.from v to.by c to.leads long fits in
          elim (smaller to.from (less c to.by) rest.1 rest.0) [
            | inl before ↦ inl (record { from = to.from; by = to.by; leads = to.leads; fits = fits; before = before })
            | inr none ↦ inr (λ along.
                let alike = leads_alike net k along.from v to.from v along.by to.by along.leads to.leads in
                none (subst (λ w. Reached to.from (less c w)) alike.1 (subst (λ x. Reached x (less c along.by)) alike.0 along.before)))
          ]
    ]
  ]

  cases_reached_below : (n v : ℕ) (c : List ℕ) → sum c < n → length c ≡ net.criteria → Reached v c ⊎ (¬ Reached v c)
  cases_reached_below zero v c small long = absurd (omega arith)
  cases_reached_below (suc n) v c small long = elim (at_once) [
    | inl once ↦ inl once
    | inr not_once ↦ elim (least_below (Along v c) (cases_along_if v c long (λ u d less. cases_reached_below n u d (omega arith))) (length net.ends + 1)) [
      | inl found ↦ inl (reached_along v c found.0 found.1.holds)
      | inr none ↦ inr (λ reached. none_left not_once none reached.arcs reached.cost reached.walk reached.related)
    ]
  ] where
    -- the walk without arcs
    at_once : Reached v c ⊎ (¬ ((s ≡ v) × R (replicate net.criteria 0) c))
    at_once = elim (cases_eq s v) [
      | inr other ↦ inr (λ once. other once.0)
      | inl same ↦ elim (shifts.decided (replicate net.criteria 0) c) [
        | inl related ↦ inl (record { arcs = []; cost = replicate net.criteria 0; walk = (node, same, refl); related = related })
        | inr none ↦ inr (λ once. none once.1)
      ]
    ]

    none_left : ¬ ((s ≡ v) × R (replicate net.criteria 0) c) → ((k : ℕ) → k < length net.ends + 1 → ¬ Along v c k)
        → (q b : List ℕ) → Arrives net s q v b → R b c → ⊥
    none_left not_once none [] b walk related = not_once (walk.1, subst (λ z. R z c) walk.2 related)
    none_left not_once none (k ∷ arcs) b walk related =
        none k (arc_counts net k walk.at v walk.by walk.leads) (along_last v c long k arcs b walk related)

  pub cases_reached : (v : ℕ) (c : List ℕ) → length c ≡ net.criteria → Reached v c ⊎ (¬ Reached v c)
  cases_reached v c = cases_reached_below (suc (sum c)) v c (omega arith)

  pub cases_along : (v : ℕ) (c : List ℕ) → length c ≡ net.criteria → (k : ℕ) → Along v c k ⊎ (¬ Along v c k)
  cases_along v c long = cases_along_if v c long (λ u d less. cases_reached u d)

-- a walk is found whose cost is so related to c, or there is none: wherever it starts, and whatever the length of c
pub cases_walk : (net : Network) → IsNetwork net → {R : List ℕ → List ℕ → Type 0} → IsShiftable R → (s v : ℕ) (c : List ℕ)
    → ((p : List ℕ) × (b : List ℕ) × IsWalk net s p v b × R b c) ⊎ ((p b : List ℕ) → IsWalk net s p v b → ¬ R b c)
cases_walk net is shifts s v c = elim (cases_node net.nodes s) [
  | inr other ↦ inr (λ p b walk related. other (start_of_walk net is p s v b walk))
  | inl node ↦ elim (cases_eq (length c) net.criteria) [
    | inr other ↦ inr (λ p b walk related. other (sym (AtMost-length b c (shifts.at_most b c related)) ∙ length_of_walk net is p s v b walk))
    | inl long ↦ elim (cases_reached net is s node shifts v c long) [
      | inl found ↦ inl (reverse found.arcs, found.cost, walk_by_arrival net is found.arcs s v found.cost found.walk, found.related)
      | inr none ↦ inr (λ p b walk related. none (record { arcs = reverse p; cost = b; walk = arrives_by_walk net is p s v b walk; related = related }))
    ]
  ]
]
