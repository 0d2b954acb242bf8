-- Where the relevant pairs are listed with their least arcs no rule fails.
use Rattle.std.proofs.Common.{◌≡◌, ◌⊎◌, ℕ, zero, suc, ◌*◌, ◌-◌, ◌^◌, ◌<◌, ◌≤◌, List, [], ◌∷◌, ◌++◌, Option, Some, None, length, reverse, replicate, inl, inr, refl, sym, ap, subst, ◌∙◌, arith}
use Rattle.std.specs.Prelude.{All, Contains, IsSomeAnd, slice_get, slice_index}
use Rattle.std.proofs.lemmas.List.{reverse-append, reverse-reverse}
use Rattle.std.proofs.lemmas.List.Elements.{All-weaker}
use Rattle.std.proofs.lemmas.Option.{slice_get_within, get_or_from_slice_get}
use Rattle.cost_vector.specs.Costs.{Dominates, no_limit, plus}
use Rattle.cost_vector.proofs.Vectors.{AtMost-plus_self, AtMost-Dominates, Dominates-AtMost, Within-no_limit}
use Rattle.road_network.specs.Answers.{IsRelevant}
use Rattle.road_network.specs.Best.{IsBest, IsBackwardLeast}
use Rattle.road_network.specs.Labels.{Label, HasLeastArc, last_arc}
use Rattle.road_network.specs.Limits.{max_nodes}
use Rattle.road_network.specs.Network.{Network, IsNetwork, AreSmall}
use Rattle.road_network.specs.Walks.{IsWalk, EndsBy}
use Rattle.road_network.proofs.BackwardLaws.{last_arc_is_least, none_at_zero}
use Rattle.road_network.proofs.BestLaws.{best_before, each_has_best_below, start_is_relevant}
use Rattle.road_network.proofs.FiniteLaws.{best_is_short}
use Rattle.road_network.proofs.Reached.{dominance_shifts, cases_walk}
use Rattle.road_network.proofs.SumLaws.{sum_of_walk}
use Rattle.road_network.proofs.WalkLaws.{ends_by_last, leads_by_vector, length_of_walk, walk_on}
use Rattle.std.proofs.lemmas.List.{length-replicate}
use Rattle.cert_rules.specs.declared.rule.Rule.{Rule}
use Rattle.cert_rules.specs.declared.rule.Rule.TheVariants.{Start, Arrival, Departure, LeastArc, Undominated}
use Rattle.cert_rules.specs.Certificates.{Certificate, IsCertificate, IsListed, start_label}
use Rattle.cert_rules.specs.Meaning.{ListsRelevant}
use Rattle.cert_rules.specs.Rules.{FailsAt, HasNoFailure}
use Rattle.cert_rules.proofs.ListedLaws.{one_label}

module _ (net : Network) (is : IsNetwork net) (cert : Certificate) (lists : ListsRelevant net cert) where
  abbrev s : ℕ
  s = cert.start

  abbrev t : ℕ
  t = cert.target

  -- a walk that isn't empty ends by its last arc
  record EndsByArc (v : ℕ) (c : List ℕ) (walk : List ℕ) : Type 0 where
    pub front : List ℕ
    pub arc : ℕ
    pub parts : walk ≡ front ++ arc ∷ []
    pub last : last_arc walk ≡ arc

  ends_by_arc : (v : ℕ) (c walk q : List ℕ) → reverse walk ≡ q → (walk ≡ []) ⊎ EndsByArc v c walk
  ends_by_arc v c walk [] back = inl (sym (reverse-reverse walk) ∙ ap reverse back)
  ends_by_arc v c walk (k ∷ before) back = inr (record {
    front = reverse before;
    arc = k;
    parts = sym (reverse-reverse walk) ∙ ap reverse back ∙ reverse-append (k ∷ []) before;
    last = ap (λ (q : List ℕ). slice_index q 0) back;
  })

  -- the pair of a listed label is relevant
  relevant_label : (l : Label) → Contains cert.labels l → IsRelevant net s t (no_limit net.criteria) l.node l.cost
  relevant_label l there = (lists.relevant l.node l.cost).0 (record { arc = l.arc; listed = there })

  -- and a best cost that none of the target's dominates is listed
  listed_if_free : (v : ℕ) (c : List ℕ) → IsBest net s v c → ((b : List ℕ) → IsBest net s t b → ¬ Dominates b c) → IsListed cert.labels v c
  listed_if_free v c best free = (lists.relevant v c).1 (record {
    best = best;
    within = Within-no_limit net.criteria c (length_of_walk net is best.reached.0 s v c best.reached.1);
    undominated = free;
  })

  best_listed : (c : List ℕ) → IsBest net s t c → IsListed cert.labels t c
  best_listed c best = listed_if_free t c best (λ b other. best.nondominated other.reached.0 b other.reached.1)

  -- ---- no rule fails at a label

  module _ (l : Label) (there : Contains cert.labels l) where
    abbrev least : HasLeastArc net s l
    least = lists.least l there

    at_start : least.walk ≡ [] → l ≡ start_label net cert
    at_start empty =
        let walk = subst (λ x. IsWalk net s x l.node l.cost) empty least.least.walk in
        one_label l.node s l.cost (replicate net.criteria 0) l.arc 0 (sym walk.1) walk.2 (least.arc ∙ ap last_arc empty)

    -- the walk's last arc is the label's
    comes : (e : EndsByArc l.node l.cost least.walk) → EndsBy net l.arc l.node (λ u b. IsWalk net s e.front u b) l.cost
    comes e =
        let same : e.arc ≡ l.arc = sym e.last ∙ sym least.arc in
        let walk = subst (λ x. IsWalk net s x l.node l.cost) e.parts least.least.walk in
        subst (λ k. EndsBy net k l.node (λ u b. IsWalk net s e.front u b) l.cost) same ((ends_by_last net is e.front s l.node e.arc l.cost).0 walk)

    start_holds : ¬ FailsAt net cert Start l
    start_holds fails = elim (ends_by_arc l.node l.cost least.walk (reverse least.walk) refl) [
      | inl empty ↦ fails.1 (at_start empty)
      | inr e ↦ omega (arith, (comes e).leads.counted, fails.0)
    ]

    arrival_holds : ¬ FailsAt net cert Arrival l
    arrival_holds fails = elim (ends_by_arc l.node l.cost least.walk (reverse least.walk) refl) [
      | inl empty ↦ fails.0 (ap (λ (m : Label). m.arc) (at_start empty))
      | inr e ↦
          let ends = comes e in
          let relevant = relevant_label l there in
          let whole = leads_by_vector net is l.arc ends.at l.node ends.by ends.leads in
          let long = length_of_walk net is e.front s ends.at ends.before ends.walk ∙ sym whole.whole in
          let best = best_before net is e.front s ends.at l.node l.arc ends.before ends.by ends.walk ends.leads (subst (IsBest net s l.node) ends.cost relevant.best) in
          let listed = listed_if_free ends.at ends.before best
          (λ b other better. relevant.undominated b other
          (subst (Dominates b) (sym ends.cost) (Dominates-AtMost b ends.before _ better (AtMost-plus_self ends.before ends.by long)))) in
          fails.1 (record { at = ends.at; by = ends.by; before = ends.before; walk = listed; leads = ends.leads; cost = ends.cost })
    ]

    departure_holds : ¬ FailsAt net cert Departure l
    departure_holds fails =
        let sum = plus l.cost fails.by in
        let walk = walk_on net is least.walk s l.node fails.at fails.arc l.cost fails.by least.least.walk fails.leads in
        let below = each_has_best_below net is (least.walk ++ fails.arc ∷ []) s fails.at sum walk in
        elim (cases_walk net is dominance_shifts s t below.cost) [
          | inr free ↦ fails.holds.0 (record {
            cost = below.cost;
            listed = listed_if_free fails.at below.cost below.best (λ b other. free other.reached.0 b other.reached.1);
            at_most = below.at_most;
          })
          | inl beaten ↦
              let best = each_has_best_below net is beaten.0 s t beaten.1 beaten.2 in
              fails.holds.1 (record {
                cost = best.cost;
                listed = best_listed best.cost best.best;
                better = Dominates-AtMost best.cost below.cost sum (AtMost-Dominates best.cost beaten.1 below.cost best.at_most beaten.3) below.at_most;
              })
        ]

    least_arc_holds : ¬ FailsAt net cert LeastArc l
    least_arc_holds fails =
        let above = fails.holds in
        let sum = plus l.cost fails.by in
        let other = lists.least (record { node = fails.at; cost = sum; arc = above.arc }) above.listed in
        let walk = walk_on net is least.walk s l.node fails.at fails.arc l.cost fails.by least.least.walk fails.leads in
        elim (ends_by_arc fails.at sum other.walk (reverse other.walk) refl) [
          | inl empty ↦ omega (arith, above.greater, other.arc, ap last_arc empty)
          | inr e ↦
              let at_most = last_arc_is_least net e.front least.walk s fails.at e.arc fails.arc sum
              (subst (IsBackwardLeast net s fails.at sum) e.parts other.least) walk in
              omega (arith, above.greater, at_most, other.arc, e.last)
        ]

    undominated_holds : ¬ FailsAt net cert Undominated l
    undominated_holds fails =
        let better = (lists.relevant l.node fails.cost).0 fails.listed in
        (relevant_label l there).best.nondominated better.best.reached.0 fails.cost better.best.reached.1 fails.better

    holds : (rule : Rule) → ¬ FailsAt net cert rule l
    holds Start = start_holds
    holds Arrival = arrival_holds
    holds Departure = departure_holds
    holds LeastArc = least_arc_holds
    holds Undominated = undominated_holds

  -- the start is listed
  start_there : IsCertificate net cert → Contains cert.labels (start_label net cert)
  start_there good =
      let zeros = replicate net.criteria 0 in
      let listed = (lists.relevant s zeros).1 (start_is_relevant net s t (no_limit net.criteria) good.start (length-replicate net.criteria None)) in
      let least = lists.least (record { node = s; cost = zeros; arc = listed.arc }) listed.listed in
      let bare : listed.arc ≡ 0 = least.arc ∙ ap last_arc (none_at_zero net is least.walk s s least.least.walk) in
      subst (λ a. Contains cert.labels (record { node = s; cost = zeros; arc = a })) bare listed.listed

  -- no rule fails
  pub no_failure : IsCertificate net cert → HasNoFailure net cert
  no_failure good rule zero fails = fails.1 (start_there good)
  no_failure good rule (suc i) fails = by_label (slice_get cert.labels i) refl fails where
    by_label : (o : Option Label) → slice_get cert.labels i ≡ o → ¬ IsSomeAnd o (FailsAt net cert rule)
    by_label None at fails = fails
    by_label (Some l) at fails = holds l (i, slice_get_within cert.labels i l at, get_or_from_slice_get cert.labels i l l at) rule fails

  -- a listed cost is a best cost's, whose walk has fewer arcs than there are nodes
  pub small_costs : AreSmall net.states → net.nodes ≤ max_nodes → (l : Label) → Contains cert.labels l → All (λ x. x < 2 ^ 55) l.cost
  small_costs small few l there =
      let best = (relevant_label l there).best in
      let short = best_is_short net is best.reached.0 s l.node l.cost best.reached.1 best in
      All-weaker (λ x. x ≤ length best.reached.0 * (2 ^ 32 - 1)) (λ x. x < 2 ^ 55) (λ x at_most. omega (arith, at_most, short, few)) l.cost
      (sum_of_walk net small is best.reached.0 s l.node l.cost best.reached.1)
