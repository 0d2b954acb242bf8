-- What is listed can be told, and so what it is that no rule fails.
use Rattle.std.proofs.Common.{◌≡◌, ◌≢◌, ℕ, suc, ◌-◌, ◌≤◌, List, length, Option, Some, None, ◌⊎◌, inl, inr, refl, sym, ap, subst, ◌∙◌, arith}
use Rattle.std.specs.Prelude.{Contains, IsSomeAnd, slice_get}
use Rattle.std.proofs.lemmas.Bool.{cases_eq, cases_lt}
use Rattle.std.proofs.lemmas.Option.{slice_get-get_or}
use Rattle.cost_vector.specs.Costs.{AtMost, Dominates, plus}
use Rattle.cost_vector.proofs.Sums.{plus-minus}
use Rattle.cost_vector.proofs.Vectors.{AtMost-plus_other, cases_AtMost, cases_Dominates, cases_same, plus_cancel}
use Rattle.list_laws.proofs.Members.{each_in}
use Rattle.list_laws.proofs.OnceLaws.{decidable_both, decidable_some}
use Rattle.road_network.specs.Labels.{Label}
use Rattle.road_network.specs.Network.{Network, IsNetwork, Leads}
use Rattle.road_network.specs.Walks.{EndsBy}
use Rattle.road_network.proofs.Reached.{leads_alike, left, less}
use Rattle.road_network.proofs.WalkLaws.{leads_by_vector}
use Rattle.cert_rules.specs.declared.rule.Rule.{Rule}
use Rattle.cert_rules.specs.declared.rule.Rule.TheVariants.{Start, Arrival, Departure, LeastArc}
use Rattle.cert_rules.specs.Certificates.{Certificate, IsLine, IsCertificate, IsListed, IsCovered, IsBeaten, start_label}
use Rattle.cert_rules.specs.Rules.{FailsAt, HasNoFailure}

abbrev a_label : ℕ → List ℕ → ℕ → Label
a_label v c a = record { node = v; cost = c; arc = a }

-- labels are the same by their parts
pub one_label : (v w : ℕ) (b c : List ℕ) (a k : ℕ) → v ≡ w → b ≡ c → a ≡ k → a_label v b a ≡ a_label w c k
one_label v w b c a k e f g = cc

module _ (labels : List Label) where
  -- a listed label lists its cost
  pub listed_label : (l : Label) → Contains labels l → IsListed labels l.node l.cost
  listed_label l there = record { arc = l.arc; listed = there }

  -- whether a cost is listed, and whether some listed cost is at most or dominates another
  pub cases_listed : (v : ℕ) (c : List ℕ) → IsListed labels v c ⊎ (¬ IsListed labels v c)
  cases_listed v c =
      elim (decidable_some (λ (l : Label). (l.node ≡ v) × (l.cost ≡ c)) (λ l. decidable_both (cases_eq l.node v) (cases_same l.cost c)) labels) [
        | inl found ↦ inl (subst (IsListed labels v) found.2.1 (subst (λ u. IsListed labels u found.0.cost) found.2.0 (listed_label found.0 found.1)))
        | inr none ↦ inr (λ listed. none (record { node = v; cost = c; arc = listed.arc }) listed.listed (refl, refl))
      ]

  pub cases_covered : (v : ℕ) (c : List ℕ) → IsCovered labels v c ⊎ (¬ IsCovered labels v c)
  cases_covered v c =
      elim (decidable_some (λ (l : Label). (l.node ≡ v) × AtMost l.cost c) (λ l. decidable_both (cases_eq l.node v) (cases_AtMost l.cost c)) labels) [
        | inl found ↦ inl (record {
          cost = found.0.cost;
          listed = subst (λ u. IsListed labels u found.0.cost) found.2.0 (listed_label found.0 found.1);
          at_most = found.2.1;
        })
        | inr none ↦ inr (λ covered. none (record { node = v; cost = covered.cost; arc = covered.listed.arc }) covered.listed.listed (refl, covered.at_most))
      ]

  pub cases_beaten : (v : ℕ) (c : List ℕ) → IsBeaten labels v c ⊎ (¬ IsBeaten labels v c)
  cases_beaten v c =
      elim (decidable_some (λ (l : Label). (l.node ≡ v) × Dominates l.cost c) (λ l. decidable_both (cases_eq l.node v) (cases_Dominates l.cost c)) labels) [
        | inl found ↦ inl (record {
          cost = found.0.cost;
          listed = subst (λ u. IsListed labels u found.0.cost) found.2.0 (listed_label found.0 found.1);
          better = found.2.1;
        })
        | inr none ↦ inr (λ beaten. none (record { node = v; cost = beaten.cost; arc = beaten.listed.arc }) beaten.listed.listed (refl, beaten.better))
      ]

-- ---- where an arc comes from

-- arc k leads to v
record LeadsTo (net : Network) (k v : ℕ) : Type 0 where
  pub from : ℕ
  pub by : List ℕ
  pub leads : Leads net k from by v

cases_leads : (net : Network) (k v : ℕ) → LeadsTo net k v ⊎ (¬ LeadsTo net k v)
cases_leads net k v = by_place (slice_get net.ends (k - 1)) refl (slice_get net.states (k - 1)) refl where
  by_place : (e : Option (ℕ × ℕ)) → slice_get net.ends (k - 1) ≡ e → (o : Option (Option (List ℕ))) → slice_get net.states (k - 1) ≡ o
      → LeadsTo net k v ⊎ (¬ LeadsTo net k v)
  by_place None at o is = inr (λ to. let none : None ≡ Some (to.from, v) = sym at ∙ to.leads.ends in absurd cc)
  by_place (Some e) at None is = inr (λ to. let none : None ≡ Some (Some to.by) = sym is ∙ to.leads.passable in absurd cc)
  by_place (Some e) at (Some None) is = inr (λ to. let none : Some None ≡ Some (Some to.by) = sym is ∙ to.leads.passable in absurd cc)
  by_place (Some e) at (Some (Some w)) is = elim (cases_lt 0 k) [
    | inr below ↦ inr (λ to. omega (arith, to.leads.counted))
    | inl counted ↦ elim (cases_eq e.1 v) [
      | inl same ↦ inl (record { from = e.0; by = w; leads = record { counted = counted; ends = at ∙ ap (λ x. Some (e.0, x)) same; passable = is } })
      | inr other ↦ inr (λ to.
          let there : Some e ≡ Some (to.from, v) = sym at ∙ to.leads.ends in
          let same : e ≡ (to.from, v) = cc in
          other (ap (λ (p : ℕ × ℕ). p.1) same))
    ]
  ]

module _ (net : Network) (is : IsNetwork net) (cert : Certificate) (good : IsCertificate net cert) where
  -- a listed cost has a component for each criterion
  pub length_of_listed : (v : ℕ) (c : List ℕ) → IsListed cert.labels v c → length c ≡ net.criteria
  length_of_listed v c listed = (each_in (IsLine net) cert.labels good.lines (record { node = v; cost = c; arc = listed.arc }) listed.listed).cost

  -- whether an arc comes from a listed cost
  pub cases_ends : (k v : ℕ) (c : List ℕ) → length c ≡ net.criteria → EndsBy net k v (IsListed cert.labels) c ⊎ (¬ EndsBy net k v (IsListed cert.labels) c)
  cases_ends k v c long = elim (cases_leads net k v) [
    | inr elsewhere ↦ inr (λ ends. elsewhere (record { from = ends.at; by = ends.by; leads = ends.leads }))
    | inl to ↦ elim (cases_AtMost to.by c) [
      | inr above ↦ inr (λ ends. above (fits to ends))
      | inl within ↦ elim (cases_listed cert.labels to.from (less c to.by)) [
        | inl listed ↦ inl (record {
          at = to.from;
          by = to.by;
          before = less c to.by;
          walk = listed;
          leads = to.leads;
          cost = sym (plus-minus c to.by within);
        })
        | inr none ↦ inr (λ ends. none (before_is to ends within))
      ]
    ]
  ] where
    alike : (to : LeadsTo net k v) (ends : EndsBy net k v (IsListed cert.labels) c) → (to.from ≡ ends.at) × (to.by ≡ ends.by)
    alike to ends = let same = leads_alike net k to.from v ends.at v to.by ends.by to.leads ends.leads in (same.0, same.1)

    whole : (ends : EndsBy net k v (IsListed cert.labels) c) → length ends.before ≡ length ends.by
    whole ends = length_of_listed ends.at ends.before ends.walk ∙ sym (leads_by_vector net is k ends.at v ends.by ends.leads).whole

    fits : (to : LeadsTo net k v) → EndsBy net k v (IsListed cert.labels) c → AtMost to.by c
    fits to ends =
        subst (λ w. AtMost w c) (sym (alike to ends).1) (subst (AtMost ends.by) (sym ends.cost) (AtMost-plus_other ends.before ends.by (whole ends)))

    before_is : (to : LeadsTo net k v) → EndsBy net k v (IsListed cert.labels) c → AtMost to.by c → IsListed cert.labels to.from (less c to.by)
    before_is to ends within =
        let same = alike to ends in
        let vector = leads_by_vector net is k to.from v to.by to.leads in
        let rest = (left net is k to.from v to.by c to.leads long within).0 ∙ sym vector.whole in
        let total : plus ends.before to.by ≡ plus (less c to.by) to.by = ap (plus ends.before) same.1 ∙ sym ends.cost ∙ sym (plus-minus c to.by within) in
        let one = plus_cancel ends.before (less c to.by) to.by (whole ends ∙ ap length (sym same.1)) rest total in
        subst (IsListed cert.labels to.from) one (subst (λ u. IsListed cert.labels u ends.before) (sym same.0) ends.walk)

-- ---- what it is that no rule fails

module _ (net : Network) (cert : Certificate) (none : HasNoFailure net cert) where
  pub none_at : (rule : Rule) (l : Label) → Contains cert.labels l → ¬ FailsAt net cert rule l
  none_at rule l there fails =
      none rule (suc there.0)
      (subst (λ o. IsSomeAnd o (FailsAt net cert rule)) (sym (slice_get-get_or cert.labels there.0 l there.1 ∙ ap Some there.2)) fails)

  -- the start is listed, and it alone has no arc
  pub start_listed : Contains cert.labels (start_label net cert)
  start_listed =
      elim (decidable_some (λ (l : Label). ((l.node ≡ cert.start) × (l.cost ≡ (start_label net cert).cost)) × (l.arc ≡ 0))
      (λ l. decidable_both (decidable_both (cases_eq l.node cert.start) (cases_same l.cost (start_label net cert).cost)) (cases_eq l.arc 0)) cert.labels) [
        | inl found ↦ subst (Contains cert.labels) (one_label _ _ _ _ _ _ found.2.0.0 found.2.0.1 found.2.1) found.1
        | inr missing ↦ absurd (none Start 0 (refl, λ there. missing (start_label net cert) there ((refl, refl), refl)))
      ]

  pub no_arc_at_start : (l : Label) → Contains cert.labels l → l.arc ≡ 0 → (l.node ≡ cert.start) × (l.cost ≡ (start_label net cert).cost)
  no_arc_at_start l there bare =
      elim (decidable_both (cases_eq l.node cert.start) (cases_same l.cost (start_label net cert).cost)) [
        | inl both ↦ both
        | inr other ↦ absurd (none_at Start l there (bare, λ same. other (ap (λ (m : Label). m.node) same, ap (λ (m : Label). m.cost) same)))
      ]

  -- each other label comes of a listed one by its arc
  pub comes_by : (is : IsNetwork net) → IsCertificate net cert → (l : Label) → Contains cert.labels l → l.arc ≢ 0
      → EndsBy net l.arc l.node (IsListed cert.labels) l.cost
  comes_by is good l there some = elim (cases_ends net is cert good l.arc l.node l.cost (length_of_listed net is cert good l.node l.cost (listed_label cert.labels l there))) [
    | inl comes ↦ comes
    | inr other ↦ absurd (none_at Arrival l there (some, other))
  ]

  -- where an arc leads on, a listed cost is at most the sum, or one of the target dominates it
  pub leads_to_listed : (l : Label) → Contains cert.labels l → (k v : ℕ) (w : List ℕ) → Leads net k l.node w v
      → IsCovered cert.labels v (plus l.cost w) ⊎ IsBeaten cert.labels cert.target (plus l.cost w)
  leads_to_listed l there k v w arc = elim (cases_covered cert.labels v (plus l.cost w)) [
    | inl covered ↦ inl covered
    | inr bare ↦ elim (cases_beaten cert.labels cert.target (plus l.cost w)) [
      | inl beaten ↦ inr beaten
      | inr free ↦ absurd (none_at Departure l there (record { arc = k; at = v; by = w; leads = arc; holds = (bare, free) }))
    ]
  ]

  -- and where the sum is listed, its arc is no greater
  pub arc_at_most : (l : Label) → Contains cert.labels l → (k v a : ℕ) (w : List ℕ) → Leads net k l.node w v
      → Contains cert.labels (record { node = v; cost = plus l.cost w; arc = a }) → a ≤ k
  arc_at_most l there k v a w arc next = elim (cases_lt k a) [
    | inr within ↦ within
    | inl above ↦ absurd (none_at LeastArc l there (record { arc = k; at = v; by = w; leads = arc; holds = record { arc = a; greater = above; listed = next } }))
  ]
