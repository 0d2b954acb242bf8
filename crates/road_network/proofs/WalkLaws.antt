-- Laws of walks: going on along an arc at either end, the two readings, and what the costs of walks have in common.
use Rattle.std.proofs.Common.{◌≡◌, ℕ, ◌-◌, List, [], ◌∷◌, ◌++◌, length, reverse, replicate, Some, IfSome, ◌↔◌, refl, sym, ap, subst, ◌∙◌}
use Rattle.std.proofs.lemmas.List.{length-replicate, reverse-append, reverse-reverse}
use Rattle.cost_vector.specs.Costs.{plus}
use Rattle.cost_vector.proofs.Vectors.{length-plus, plus_assoc, plus-zeros, zeros-plus}
use Rattle.road_network.specs.Network.{Network, IsNetwork, IsNode, IsVector, Leads}
use Rattle.road_network.specs.Walks.{IsWalk, Arrives, EndsBy}
use Rattle.list_laws.proofs.Members.{all_got}

module _ (net : Network) (is : IsNetwork net) where
  abbrev zeros : List ℕ
  zeros = replicate net.criteria 0

  -- ---- arcs

  pub leads_from_node : (k u v : ℕ) (w : List ℕ) → Leads net k u w v → IsNode net.nodes u
  leads_from_node k u v w arc = all_got (λ e. IsNode net.nodes e.0) net.ends (k - 1) (u, v) is.tails arc.ends

  pub leads_to_node : (k u v : ℕ) (w : List ℕ) → Leads net k u w v → IsNode net.nodes v
  leads_to_node k u v w arc = all_got (λ e. IsNode net.nodes e.1) net.ends (k - 1) (u, v) is.heads arc.ends

  pub leads_by_vector : (k u v : ℕ) (w : List ℕ) → Leads net k u w v → IsVector net.criteria w
  leads_by_vector k u v w arc = all_got (λ s. IfSome s (IsVector net.criteria)) net.states (k - 1) (Some w) is.vectors arc.passable

  -- ---- costs of walks have a component for each criterion, and walks lead to nodes

  pub length_of_arrival : (q : List ℕ) (s v : ℕ) (c : List ℕ) → Arrives net s q v c → length c ≡ net.criteria
  length_of_arrival [] s v c walk = ap length walk.2 ∙ length-replicate net.criteria 0
  length_of_arrival (k ∷ before) s v c walk =
      let whole = (leads_by_vector k walk.at v walk.by walk.leads).whole in
      let so_far = length_of_arrival before s walk.at walk.before walk.walk in
      ap length walk.cost ∙ length-plus walk.before walk.by (so_far ∙ sym whole) ∙ so_far

  pub node_of_arrival : (q : List ℕ) (s v : ℕ) (c : List ℕ) → Arrives net s q v c → IsNode net.nodes v
  node_of_arrival [] s v c walk = subst (IsNode net.nodes) walk.1 walk.0
  node_of_arrival (k ∷ before) s v c walk = leads_to_node k walk.at v walk.by walk.leads

  -- ---- one arc more

  -- at the end
  pub walk_on : (p : List ℕ) (s u v k : ℕ) (b w : List ℕ) → IsWalk net s p u b → Leads net k u w v → IsWalk net s (p ++ k ∷ []) v (plus b w)
  walk_on [] s u v k b w walk arc =
      let whole = (leads_by_vector k u v w arc).whole in record {
        by = w;
        at = v;
        onward = zeros;
        leads = subst (λ x. Leads net k x w v) (sym walk.1) arc;
        walk = (leads_to_node k u v w arc, refl, refl);
        cost = ap (λ x. plus x w) walk.2 ∙ zeros-plus net.criteria w whole ∙ sym (plus-zeros net.criteria w whole);
      }
  walk_on (j ∷ rest) s u v k b w walk arc = record {
    by = walk.by;
    at = walk.at;
    onward = plus walk.onward w;
    leads = walk.leads;
    walk = walk_on rest walk.at u v k walk.onward w walk.walk arc;
    cost = ap (λ x. plus x w) walk.cost ∙ plus_assoc walk.by walk.onward w;
  }

  -- at the start, read backwards
  pub arrives_from : (q : List ℕ) (s u v k : ℕ) (w c : List ℕ) → Leads net k s w u → Arrives net u q v c → Arrives net s (q ++ k ∷ []) v (plus w c)
  arrives_from [] s u v k w c arc walk =
      let whole = (leads_by_vector k s u w arc).whole in record {
        at = s;
        by = w;
        before = zeros;
        walk = (leads_from_node k s u w arc, refl, refl);
        leads = subst (λ x. Leads net k s w x) walk.1 arc;
        cost = ap (plus w) walk.2 ∙ plus-zeros net.criteria w whole ∙ sym (zeros-plus net.criteria w whole);
      }
  arrives_from (j ∷ before) s u v k w c arc walk = record {
    at = walk.at;
    by = walk.by;
    before = plus w walk.before;
    walk = arrives_from before s u walk.at k w walk.before arc walk.walk;
    leads = walk.leads;
    cost = ap (plus w) walk.cost ∙ sym (plus_assoc w walk.before walk.by);
  }

  -- ---- the two readings agree

  pub arrives_by_walk : (p : List ℕ) (s v : ℕ) (c : List ℕ) → IsWalk net s p v c → Arrives net s (reverse p) v c
  arrives_by_walk [] s v c walk = walk
  arrives_by_walk (k ∷ rest) s v c walk =
      let onward = arrives_by_walk rest walk.at v walk.onward walk.walk in
      let whole = arrives_from (reverse rest) s walk.at v k walk.by walk.onward walk.leads onward in
      subst (λ q. Arrives net s q v c) (sym (reverse-append (k ∷ []) rest)) (subst (Arrives net s (reverse rest ++ k ∷ []) v) (sym walk.cost) whole)

  pub walk_by_arrival : (q : List ℕ) (s v : ℕ) (c : List ℕ) → Arrives net s q v c → IsWalk net s (reverse q) v c
  walk_by_arrival [] s v c walk = walk
  walk_by_arrival (k ∷ before) s v c walk =
      let so_far = walk_by_arrival before s walk.at walk.before walk.walk in
      let whole = walk_on (reverse before) s walk.at v k walk.before walk.by so_far walk.leads in
      subst (λ p. IsWalk net s p v c) (sym (reverse-append (k ∷ []) before)) (subst (IsWalk net s (reverse before ++ k ∷ []) v) (sym walk.cost) whole)

  pub readings_agree : (p : List ℕ) (s v : ℕ) (c : List ℕ) → IsWalk net s p v c ↔ Arrives net s (reverse p) v c
  readings_agree p s v c = (
    arrives_by_walk p s v c,
    λ walk. subst (λ q. IsWalk net s q v c) (reverse-reverse p) (walk_by_arrival (reverse p) s v c walk),
  )

  -- a walk and its last arc
  pub ends_by_last : (p : List ℕ) (s v k : ℕ) (c : List ℕ) → IsWalk net s (p ++ k ∷ []) v c ↔ EndsBy net k v (λ u b. IsWalk net s p u b) c
  ends_by_last p s v k c = (
    λ walk.
        let back = subst (λ q. Arrives net s q v c) (reverse-append p (k ∷ [])) (arrives_by_walk (p ++ k ∷ []) s v c walk) in
        let before = (readings_agree p s back.at back.before).1 back.walk in
        record { at = back.at; by = back.by; before = back.before; walk = before; leads = back.leads; cost = back.cost },
    λ ends. subst (IsWalk net s (p ++ k ∷ []) v) (sym ends.cost) (walk_on p s ends.at v k ends.before ends.by ends.walk ends.leads),
  )

  pub length_of_walk : (p : List ℕ) (s v : ℕ) (c : List ℕ) → IsWalk net s p v c → length c ≡ net.criteria
  length_of_walk p s v c walk = length_of_arrival (reverse p) s v c (arrives_by_walk p s v c walk)

  pub node_of_walk : (p : List ℕ) (s v : ℕ) (c : List ℕ) → IsWalk net s p v c → IsNode net.nodes v
  node_of_walk p s v c walk = node_of_arrival (reverse p) s v c (arrives_by_walk p s v c walk)

  -- ---- two walks are one, and one is two

  pub start_of_walk : (p : List ℕ) (s v : ℕ) (c : List ℕ) → IsWalk net s p v c → IsNode net.nodes s
  start_of_walk [] s v c walk = walk.0
  start_of_walk (k ∷ rest) s v c walk = leads_from_node k s walk.at walk.by walk.leads

  pub walk_after : (p q : List ℕ) (s u v : ℕ) (b d : List ℕ) → IsWalk net s p u b → IsWalk net u q v d → IsWalk net s (p ++ q) v (plus b d)
  walk_after [] q s u v b d first second =
      let long = length_of_walk q u v d second in
      subst (λ x. IsWalk net x q v (plus b d)) (sym first.1)
      (subst (IsWalk net u q v) (sym (ap (λ z. plus z d) first.2 ∙ zeros-plus net.criteria d long)) second)
  walk_after (k ∷ rest) q s u v b d first second = record {
    by = first.by;
    at = first.at;
    onward = plus first.onward d;
    leads = first.leads;
    walk = walk_after rest q first.at u v first.onward d first.walk second;
    cost = ap (λ z. plus z d) first.cost ∙ plus_assoc first.by first.onward d;
  }

  -- a walk along the arcs of p, and then of q
  pub record Parts (s : ℕ) (p q : List ℕ) (v : ℕ) (c : List ℕ) : Type 0 where
    pub at : ℕ
    pub so_far : List ℕ
    pub onward : List ℕ
    pub first : IsWalk net s p at so_far
    pub second : IsWalk net at q v onward
    pub cost : c ≡ plus so_far onward

  pub parts_of_walk : (p q : List ℕ) (s v : ℕ) (c : List ℕ) → IsWalk net s (p ++ q) v c → Parts s p q v c
  parts_of_walk [] q s v c walk = record {
    at = s;
    so_far = zeros;
    onward = c;
    first = (start_of_walk q s v c walk, refl, refl);
    second = walk;
    cost = sym (zeros-plus net.criteria c (length_of_walk q s v c walk));
  }
  parts_of_walk (k ∷ rest) q s v c walk =
      let parts = parts_of_walk rest q walk.at v walk.onward walk.walk in record {
        at = parts.at;
        so_far = plus walk.by parts.so_far;
        onward = parts.onward;
        first = record { by = walk.by; at = walk.at; onward = parts.so_far; leads = walk.leads; walk = parts.first; cost = refl };
        second = parts.second;
        cost = walk.cost ∙ ap (plus walk.by) parts.cost ∙ sym (plus_assoc walk.by parts.so_far parts.onward);
      }
