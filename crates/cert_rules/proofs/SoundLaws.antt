-- Where no rule fails a certificate shows the answer.
use Rattle.std.proofs.Common.{◌≡◌, ◌≢◌, ℕ, zero, suc, ◌<◌, List, [], ◌∷◌, ◌++◌, length, reverse, replicate, sum, ◌⊎◌, inl, inr, refl, sym, ap, subst, ◌∙◌, arith}
use Rattle.std.proofs.Common.{append_assoc}
use Rattle.std.specs.Prelude.{Contains, slice_index}
use Rattle.std.proofs.lemmas.Bool.{cases_eq}
use Rattle.std.proofs.lemmas.List.{reverse-append, reverse-reverse}
use Rattle.cost_vector.specs.Costs.{AtMost, Dominates, plus}
use Rattle.cost_vector.proofs.Vectors.{AtMost-plus, AtMost-plus_self, AtMost-refl, AtMost-trans, Dominates-AtMost, AtMost-Dominates, cases_same, sum-plus}
use Rattle.road_network.specs.Labels.{Label, last_arc}
use Rattle.road_network.specs.Network.{Network, IsNetwork}
use Rattle.road_network.specs.Walks.{IsWalk, Arrives}
use Rattle.road_network.specs.Best.{IsBest, IsBackwardLeast}
use Rattle.road_network.proofs.BackwardLaws.{has_backward_least, last_arc_is_least, none_at_zero, one_end}
use Rattle.road_network.proofs.BestLaws.{each_has_best_below, first_part_is_best}
use Rattle.road_network.proofs.WalkLaws.{arrives_by_walk, ends_by_last, leads_by_vector, length_of_arrival, length_of_walk, parts_of_walk, walk_after, walk_on}
use Rattle.cert_rules.specs.declared.rule.Rule.TheVariants.{Undominated}
use Rattle.cert_rules.specs.Certificates.{Certificate, IsCertificate, IsListed, IsCovered, IsBeaten}
use Rattle.cert_rules.specs.Meaning.{IsListedLeast, ShowsAnswer}
use Rattle.cert_rules.specs.Rules.{HasNoFailure}
use Rattle.cert_rules.proofs.ListedLaws.{length_of_listed, none_at, start_listed, no_arc_at_start, comes_by, leads_to_listed, arc_at_most}

-- a list with something behind it isn't empty
pub never_empty : (q : List ℕ) (k : ℕ) → q ++ k ∷ [] ≢ []
never_empty [] k e = absurd cc
never_empty (j ∷ q) k e = absurd cc

module _ (net : Network) (is : IsNetwork net) (cert : Certificate) (good : IsCertificate net cert) (none : HasNoFailure net cert) where
  abbrev zeros : List ℕ
  zeros = replicate net.criteria 0

  -- a label is the start at cost zero, or a walk of its cost ends by its arc
  abbrev EndsChain : Label → Type 0
  EndsChain l =
      ((l.arc ≡ 0) × (l.node ≡ cert.start) × (l.cost ≡ zeros))
      ⊎ ((q : List ℕ) × IsWalk net cert.start (q ++ l.arc ∷ []) l.node l.cost)

  walk_of_chain : (l : Label) → EndsChain l → (p : List ℕ) × IsWalk net cert.start p l.node l.cost
  walk_of_chain l (inl at_start) = ([], (good.start, sym at_start.1, at_start.2))
  walk_of_chain l (inr walk) = (walk.0 ++ l.arc ∷ [], walk.1)

  -- chains of labels end at the start, since costs get less on the way back
  chain_below : (n : ℕ) (l : Label) → sum l.cost < n → Contains cert.labels l → EndsChain l
  chain_below zero l small there = absurd (omega arith)
  chain_below (suc n) l small there = elim (cases_eq l.arc 0) [
    | inl bare ↦ let at_start = no_arc_at_start net cert none l there bare in inl (bare, at_start.0, at_start.1)
    | inr some ↦
        let comes = comes_by net cert none is good l there some in
        let vector = leads_by_vector net is l.arc comes.at l.node comes.by comes.leads in
        let long = length_of_listed net is cert good comes.at comes.before comes.walk ∙ sym vector.whole in
        let before : Label = record { node = comes.at; cost = comes.before; arc = comes.walk.arc } in
        let chain = chain_below n before (omega (arith, small, vector.nonzero, ap sum comes.cost, sum-plus comes.before comes.by long)) comes.walk.listed in
        let walk = walk_of_chain before chain in
        inr (
          walk.0,
          subst (IsWalk net cert.start (walk.0 ++ l.arc ∷ []) l.node) (sym comes.cost)
              (walk_on net is walk.0 cert.start comes.at l.node l.arc comes.before comes.by walk.1 comes.leads),
        )
  ]

  chain : (l : Label) → Contains cert.labels l → EndsChain l
  chain l there = chain_below (suc (sum l.cost)) l (omega arith) there

  -- each listed cost is a walk's
  walked : (v : ℕ) (c : List ℕ) → IsListed cert.labels v c → (p : List ℕ) × IsWalk net cert.start p v c
  walked v c listed = let l : Label = record { node = v; cost = c; arc = listed.arc } in walk_of_chain l (chain l listed.listed)

  -- each cost of a walk is at least a listed cost of its end, or a listed cost of the target dominates it
  frontier : (q : List ℕ) (v : ℕ) (c : List ℕ) → Arrives net cert.start q v c → IsCovered cert.labels v c ⊎ IsBeaten cert.labels cert.target c
  frontier [] v c walk = inl (record {
    cost = zeros;
    listed = subst (λ u. IsListed cert.labels u zeros) walk.1 (record { arc = 0; listed = start_listed net cert none });
    at_most = subst (AtMost zeros) (sym walk.2) (AtMost-refl zeros);
  })
  frontier (k ∷ before) v c walk =
      let so_far = length_of_arrival net is before cert.start walk.at walk.before walk.walk in
      let vector = leads_by_vector net is k walk.at v walk.by walk.leads in
      elim (frontier before walk.at walk.before walk.walk) [
        | inr beaten ↦ inr (record {
          cost = beaten.cost;
          listed = beaten.listed;
          better = subst (Dominates beaten.cost) (sym walk.cost)
              (Dominates-AtMost beaten.cost walk.before (plus walk.before walk.by) beaten.better (AtMost-plus_self walk.before walk.by (so_far ∙ sym vector.whole)));
        })
        | inl covered ↦
            let l : Label = record { node = walk.at; cost = covered.cost; arc = covered.listed.arc } in
            let below : AtMost (plus covered.cost walk.by) c =
            subst (AtMost (plus covered.cost walk.by)) (sym walk.cost) (AtMost-plus covered.cost walk.before walk.by walk.by covered.at_most (AtMost-refl walk.by)) in
            elim (leads_to_listed net cert none l covered.listed.listed k v walk.by walk.leads) [
              | inl next ↦ inl (record { cost = next.cost; listed = next.listed; at_most = AtMost-trans next.cost _ c next.at_most below })
              | inr beaten ↦ inr (record { cost = beaten.cost; listed = beaten.listed; better = Dominates-AtMost beaten.cost _ c beaten.better below })
            ]
      ]

  -- a best cost that no walk's cost at the target dominates is listed
  listed_if_best : (v : ℕ) (c : List ℕ) → IsBest net cert.start v c
      → ((p b : List ℕ) → IsWalk net cert.start p cert.target b → ¬ Dominates b c) → IsListed cert.labels v c
  listed_if_best v c best free =
      elim (frontier (reverse best.reached.0) v c (arrives_by_walk net is best.reached.0 cert.start v c best.reached.1)) [
        | inr beaten ↦ let walk = walked cert.target beaten.cost beaten.listed in absurd (free walk.0 beaten.cost walk.1 beaten.better)
        | inl covered ↦ elim (cases_same covered.cost c) [
          | inl same ↦ subst (IsListed cert.labels v) same covered.listed
          | inr other ↦
              let walk = walked v covered.cost covered.listed in
              absurd (best.nondominated walk.0 covered.cost walk.1 (record { at_most = covered.at_most; differs = other }))
        ]
      ]

  best_is_listed : (c : List ℕ) → IsBest net cert.start cert.target c → IsListed cert.labels cert.target c
  best_is_listed c best = listed_if_best cert.target c best best.nondominated

  listed_is_best : (c : List ℕ) → IsListed cert.labels cert.target c → IsBest net cert.start cert.target c
  listed_is_best c listed = record {
    reached = walked cert.target c listed;
    nondominated = λ p b walk better.
        let below = each_has_best_below net is p cert.start cert.target b walk in
        none_at net cert none Undominated (record { node = cert.target; cost = c; arc = listed.arc }) listed.listed (record {
          cost = below.cost;
          listed = best_is_listed below.cost below.best;
          better = AtMost-Dominates below.cost b c below.at_most better;
        });
  }

  -- ---- on the way to a best cost of the target

  -- where a walk of such a cost comes through
  record IsOnTheWay (p : List ℕ) (v : ℕ) (b : List ℕ) : Type 0 where
    pub rest : List ℕ
    pub goal : List ℕ
    pub whole : IsWalk net cert.start (p ++ rest) cert.target goal
    pub best : IsBest net cert.start cert.target goal
    pub front : IsWalk net cert.start p v b

  listed_on_the_way : (p : List ℕ) (v : ℕ) (b : List ℕ) → IsOnTheWay p v b → IsListed cert.labels v b
  listed_on_the_way p v b way =
      let parts = parts_of_walk net is p way.rest cert.start cert.target way.goal way.whole in
      let end = one_end net p cert.start parts.at v parts.so_far b parts.first way.front in
      let long : length parts.so_far ≡ length parts.onward =
      length_of_walk net is p cert.start parts.at parts.so_far parts.first ∙ sym (length_of_walk net is way.rest parts.at cert.target parts.onward parts.second) in
      let below : AtMost b way.goal =
      subst (λ x. AtMost x way.goal) end.1 (subst (AtMost parts.so_far) (sym parts.cost) (AtMost-plus_self parts.so_far parts.onward long)) in
      let best = first_part_is_best net is p way.rest cert.start cert.target way.goal way.whole way.best in
      let same = one_end net p cert.start best.at v best.cost b best.walk way.front in
      listed_if_best v b (subst (IsBest net cert.start v) same.1 (subst (λ x. IsBest net cert.start x best.cost) same.0 best.best))
      (λ r d walk better. way.best.nondominated r d walk (Dominates-AtMost d b way.goal better below))

  -- another walk of that cost goes on to the target alike
  along_other : (p r : List ℕ) (v : ℕ) (b : List ℕ) → IsOnTheWay p v b → IsWalk net cert.start r v b → IsOnTheWay r v b
  along_other p r v b way other =
      let parts = parts_of_walk net is p way.rest cert.start cert.target way.goal way.whole in
      let end = one_end net p cert.start parts.at v parts.so_far b parts.first way.front in
      let onward = subst (λ x. IsWalk net x way.rest cert.target parts.onward) end.0 parts.second in
      let total : plus b parts.onward ≡ way.goal = ap (λ x. plus x parts.onward) (sym end.1) ∙ sym parts.cost in
      record {
        rest = way.rest;
        goal = way.goal;
        whole = subst (IsWalk net cert.start (r ++ way.rest) cert.target) total (walk_after net is r way.rest cert.start v cert.target b parts.onward other onward);
        best = way.best;
        front = other;
      }

  -- the label's arc is the least last arc, which rule four compares it with
  least_by : (p : List ℕ) (v : ℕ) (b : List ℕ) → IsOnTheWay p v b → (a : ℕ) → Contains cert.labels (record { node = v; cost = b; arc = a })
      → (r q : List ℕ) → IsBackwardLeast net cert.start v b r → reverse r ≡ q → a ≡ last_arc r
  least_by p v b way a there r [] least back =
      let empty : r ≡ [] = sym (reverse-reverse r) ∙ ap reverse back in
      let walk = subst (λ x. IsWalk net cert.start x v b) empty least.walk in
      elim (chain (record { node = v; cost = b; arc = a }) there) [
        | inl at_start ↦ at_start.0 ∙ sym (ap last_arc empty)
        | inr other ↦ absurd (never_empty other.0 a
            (none_at_zero net is (other.0 ++ a ∷ []) cert.start v (subst (IsWalk net cert.start (other.0 ++ a ∷ []) v) walk.2 other.1)))
      ]
  least_by p v b way a there r (k ∷ before) least back =
      let snoc : r ≡ reverse before ++ k ∷ [] = sym (reverse-reverse r) ∙ ap reverse back ∙ reverse-append (k ∷ []) before in
      let least_too = subst (IsBackwardLeast net cert.start v b) snoc least in
      let ends = (ends_by_last net is (reverse before) cert.start v k b).0 least_too.walk in
      let on = along_other p (reverse before ++ k ∷ []) v b way least_too.walk in
      let earlier : IsOnTheWay (reverse before) ends.at ends.before = record {
        rest = k ∷ on.rest;
        goal = on.goal;
        whole = subst (λ x. IsWalk net cert.start x cert.target on.goal) (append_assoc (reverse before) (k ∷ []) on.rest) on.whole;
        best = on.best;
        front = ends.walk;
      } in
      let listed = listed_on_the_way (reverse before) ends.at ends.before earlier in
      let here : Contains cert.labels (record { node = v; cost = plus ends.before ends.by; arc = a }) =
      subst (λ x. Contains cert.labels (record { node = v; cost = x; arc = a })) ends.cost there in
      let most = arc_at_most net cert none (record { node = ends.at; cost = ends.before; arc = listed.arc }) listed.listed k v a ends.by ends.leads here in
      let last : last_arc r ≡ k = ap (λ (q : List ℕ). slice_index q 0) back in
      elim (chain (record { node = v; cost = b; arc = a }) there) [
        | inl at_start ↦ absurd (never_empty (reverse before) k
            (none_at_zero net is (reverse before ++ k ∷ []) cert.start v (subst (IsWalk net cert.start (reverse before ++ k ∷ []) v) at_start.2 least_too.walk)))
        | inr other ↦ omega (arith, most, last, last_arc_is_least net (reverse before) other.0 cert.start v k a b least_too other.1)
      ]

  listed_least : (p : List ℕ) (v : ℕ) (b : List ℕ) → IsOnTheWay p v b → IsListedLeast net cert v b
  listed_least p v b way =
      let listed = listed_on_the_way p v b way in
      let least = has_backward_least net is p cert.start v b way.front in
      record {
        arc = listed.arc;
        listed = listed.listed;
        least = record { walk = least.0; least = least.1; arc = least_by p v b way listed.arc listed.listed least.0 (reverse least.0) least.1 refl };
      }

  -- a certificate shows the answer
  pub shows_answer : ShowsAnswer net cert
  shows_answer = record {
    costs = λ c. (listed_is_best c, best_is_listed c);
    walked = walked;
    on_the_way = λ p q v b c walk best front. listed_least p v b (record { rest = q; goal = c; whole = walk; best = best; front = front });
  }
