-- Which rule fails at a label.
use Rattle.std.proofs.Common.{◌≡◌, ◌≢◌, ℕ, zero, suc, true, ◌+◌, ◌^◌, ◌<◌, ◌≤◌, List, length, Option, Some, None, is_some, ◌⊎◌, ◌↔◌, inl, inr, refl, sym, ap, subst, subst₂, ◌∙◌, arith}
use Rattle.std.specs.Prelude.{All, Bool, false, ◌||◌, Contains, IfSome, IsSomeAnd, MatchBool, nat_eq, slice_get, sum}
use Rattle.std.proofs.lemmas.List.Elements.{All-weaker}
use Rattle.std.specs.Option.{option_eq}
use Rattle.std.proofs.lemmas.Bool.{cases_lt}
use Rattle.std.proofs.lemmas.Bool.Decides.{nat_tests}
use Rattle.std.proofs.lemmas.Option.{get_or_from_slice_get, slice_get_within}
use Rattle.cost_vector.specs.Costs.{AtMost, plus}
use Rattle.cost_vector.specs.declared.label.ArcNo.{ArcNo}
use Rattle.cost_vector.proofs.Vectors.{AtMost-plus_other, AtMost-plus_self, AtMost-refl, AtMost-trans, All-plus, cases_same, plus_cancel, sum-AtMost, sum-plus}
use Rattle.road_network.specs.Labels.{Label}
use Rattle.road_network.specs.Network.{Network, IsNetwork, IsVector, Leads}
use Rattle.road_network.specs.Walks.{EndsBy}
use Rattle.road_network.proofs.WalkLaws.{leads_by_vector}
use Rattle.arc_graph.specs.Graph.{arc_state, head_of, out_arcs_of, tail_of}
use Rattle.cert_rules.specs.Certificates.{Certificate, IsCertificate, IsCovered, IsBeaten, IsListed, start_label}
use Rattle.cert_rules.specs.Rules.{FailsAt, Fails, ForSomeArc, HasNoFailure, IsFirstFailure, IsListedAbove, rule_number}
use Rattle.cert_rules.specs.declared.rule.Rule.{Rule}
use Rattle.cert_rules.specs.declared.rule.Rule.TheVariants.{Start, Arrival, Departure, LeastArc, Undominated}
use Rattle.cert_rules.proofs.ListedLaws.{length_of_listed}
use Rattle.front_cert.specs.Checks.{AreUnbeaten, Comes, ForArc, IsListedLater, LeadsAstray, TellsArc, TellsArcs, TellsBeaten, TellsLeast}
use Rattle.front_cert.proofs.ArcLemmas.{leads_over, leads_is, in_out_arcs}
use Rattle.front_cert.proofs.SeenLemmas.{Seen, seen_all, seen_more}

abbrev an_arc : ℕ → ArcNo
an_arc n = record { 0 = n }

-- the arc that was found, if this node and this cost are listed
abbrev pub Finds : List Label → ℕ → List ℕ → Option ArcNo → Type 0
Finds labels v c found = (arc : ArcNo) → (found ≡ Some arc) ↔ Contains labels (record { node = v; cost = c; arc = arc.0 })

pub finds_listed : (labels : List Label) (v : ℕ) (c : List ℕ) (found : Option ArcNo) → Finds labels v c found → (is_some found ≡ true) ↔ IsListed labels v c
finds_listed labels v c None finds = (λ e. absurd cc, λ listed. let none = (finds (an_arc listed.arc)).1 listed.listed in absurd cc)
finds_listed labels v c (Some a) finds = (λ e. record { arc = a.0; listed = (finds a).0 refl }, λ listed. refl)

-- whether it is found without an arc
pub finds_bare : (labels : List Label) (v : ℕ) (c : List ℕ) (a : ArcNo) → Finds labels v c (Some a)
    → (a.0 ≡ 0) ↔ Contains labels (record { node = v; cost = c; arc = 0 })
finds_bare labels v c a finds = (
  λ bare. subst (λ n. Contains labels (record { node = v; cost = c; arc = n })) bare ((finds a).0 refl),
  λ there. let one = (finds (an_arc 0)).1 there in let same : a ≡ an_arc 0 = cc in ap (λ (b : ArcNo). b.0) same,
)

pub finds_not_bare : (labels : List Label) (v : ℕ) (c : List ℕ) → Finds labels v c None → ¬ Contains labels (record { node = v; cost = c; arc = 0 })
finds_not_bare labels v c finds there = let one = (finds (an_arc 0)).1 there in absurd cc

module _ (net : Network) (is : IsNetwork net) (cert : Certificate) (good : IsCertificate net cert) (l : Label) (a : ArcNo) (w : List ℕ) (whole : length l.cost ≡ net.criteria)
    (counted : 1 ≤ a.0) (there : a.0 ≤ length net.ends) (state : arc_state net.states a ≡ Some w) where
  -- the label comes of the cost less the arc's vector, where that is listed at the tail
  pub comes_if_listed : head_of net.ends a ≡ l.node → (before : List ℕ) → length before ≡ length l.cost → plus before w ≡ l.cost
      → IsListed cert.labels (tail_of net.ends a) before ↔ EndsBy net a.0 l.node (IsListed cert.labels) l.cost
  comes_if_listed head before long total = (
    λ listed. record {
      at = tail_of net.ends a;
      by = w;
      before = before;
      walk = listed;
      leads = subst (Leads net a.0 (tail_of net.ends a) w) head (leads_over net a w counted there state);
      cost = sym total;
    },
    λ ends.
        let same = leads_is net a ends.at l.node ends.by ends.leads in
        let by : Some w ≡ Some ends.by = sym state ∙ same.2 in
        let vector : w ≡ ends.by = cc in
        let long_too = length_of_listed net is cert good ends.at ends.before ends.walk in
        let whole_by = (leads_by_vector net is a.0 ends.at l.node ends.by ends.leads).whole in
        let both : plus ends.before w ≡ plus before w = ap (plus ends.before) vector ∙ sym ends.cost ∙ sym total in
        let one = plus_cancel ends.before before w (long_too ∙ sym whole_by ∙ ap length (sym vector)) (long ∙ whole ∙ sym whole_by ∙ ap length (sym vector)) both in
        subst₂ (IsListed cert.labels) (sym same.0) one ends.walk,
  )

  -- nor does it come of any, where the vector is greater in some component
  pub comes_of_none : ¬ AtMost w l.cost → ¬ EndsBy net a.0 l.node (IsListed cert.labels) l.cost
  comes_of_none above ends =
      let same = leads_is net a ends.at l.node ends.by ends.leads in
      let by : Some w ≡ Some ends.by = sym state ∙ same.2 in
      let vector : w ≡ ends.by = cc in
      let long = length_of_listed net is cert good ends.at ends.before ends.walk ∙ sym (leads_by_vector net is a.0 ends.at l.node ends.by ends.leads).whole in
      above (subst₂ AtMost (sym vector) (sym ends.cost) (AtMost-plus_other ends.before ends.by long))

-- ---- over one arc

-- no arc that is shut tells anything
pub tells_shut : (net : Network) (cert : Certificate) (l : Label) (a : ArcNo) → arc_state net.states a ≡ None → TellsArc net cert l a.0 None
tells_shut net cert l a shut = record {
  departure = λ e. absurd cc;
  least_arc = λ e. absurd cc;
  astray = λ over. let none = sym shut ∙ (leads_is net a l.node over.at over.by over.leads).2 in absurd cc;
  later = λ over. let none = sym shut ∙ (leads_is net a l.node over.at over.by over.leads).2 in absurd cc;
  only = tt;
}

module _ (net : Network) (cert : Certificate) (l : Label) (a : ArcNo) (w : List ℕ) (counted : 1 ≤ a.0) (there : a.0 ≤ length net.ends)
    (tail : tail_of net.ends a ≡ l.node) (state : arc_state net.states a ≡ Some w) where
  abbrev head : ℕ
  head = head_of net.ends a

  leads : Leads net a.0 l.node w head
  leads = subst (λ u. Leads net a.0 u w head) tail (leads_over net a w counted there state)

  over_this : (P : ℕ → ℕ → List ℕ → Type 0) → ForArc net l a.0 P → P a.0 head (plus l.cost w)
  over_this P over =
      let same = leads_is net a l.node over.at over.by over.leads in
      let by : Some w ≡ Some over.by = sym state ∙ same.2 in
      let vector : w ≡ over.by = cc in
      subst₂ (λ v b. P a.0 v (plus l.cost b)) (sym same.1) (sym vector) over.holds

  -- the sum is listed with a greater arc
  pub tells_later : (listed : ArcNo) → Finds cert.labels head (plus l.cost w) (Some listed) → a.0 < listed.0 → TellsArc net cert l a.0 (Some LeastArc)
  tells_later listed finds above =
      let here = (finds listed).0 refl in
      record {
        departure = λ e. absurd cc;
        least_arc = λ e. record { at = head; by = w; leads = leads; holds = record { arc = listed.0; greater = above; listed = here } };
        astray = λ over.
            let free = over_this (λ k v c. (¬ IsCovered cert.labels v c) × (¬ IsBeaten cert.labels cert.target c)) over in
            absurd (free.0 (record { cost = plus l.cost w; listed = record { arc = listed.0; listed = here }; at_most = AtMost-refl (plus l.cost w) }));
        later = λ over. refl;
        only = inr refl;
      }

  -- the sum is listed, with no greater arc
  pub tells_listed : (listed : ArcNo) → Finds cert.labels head (plus l.cost w) (Some listed) → ¬ (a.0 < listed.0) → TellsArc net cert l a.0 None
  tells_listed listed finds most =
      let here = (finds listed).0 refl in
      record {
        departure = λ e. absurd cc;
        least_arc = λ e. absurd cc;
        astray = λ over.
            let free = over_this (λ k v c. (¬ IsCovered cert.labels v c) × (¬ IsBeaten cert.labels cert.target c)) over in
            absurd (free.0 (record { cost = plus l.cost w; listed = record { arc = listed.0; listed = here }; at_most = AtMost-refl (plus l.cost w) }));
        later = λ over.
            let above = over_this (IsListedAbove cert.labels) over in
            let one : Some listed ≡ Some (an_arc above.arc) = (finds (an_arc above.arc)).1 above.listed in
            let same : listed ≡ an_arc above.arc = cc in
            absurd (most (subst (λ (b : ArcNo). a.0 < b.0) (sym same) above.greater));
        only = tt;
      }

  not_later : Finds cert.labels head (plus l.cost w) None → ¬ IsListedLater net cert l a.0
  not_later finds over =
      let above = over_this (IsListedAbove cert.labels) over in
      let one : None ≡ Some (an_arc above.arc) = (finds (an_arc above.arc)).1 above.listed in
      absurd cc

  -- the sum isn't listed, but dominated at the head or at the target
  pub tells_beaten : Finds cert.labels head (plus l.cost w) None → (IsBeaten cert.labels head (plus l.cost w) ⊎ IsBeaten cert.labels cert.target (plus l.cost w))
      → TellsArc net cert l a.0 None
  tells_beaten finds beaten = record {
    departure = λ e. absurd cc;
    least_arc = λ e. absurd cc;
    astray = λ over.
        let free = over_this (λ k v c. (¬ IsCovered cert.labels v c) × (¬ IsBeaten cert.labels cert.target c)) over in
        elim beaten [
          | inl here ↦ absurd (free.0 (record { cost = here.cost; listed = here.listed; at_most = here.better.at_most }))
          | inr at_target ↦ absurd (free.1 at_target)
        ];
    later = λ over. absurd (not_later finds over);
    only = tt;
  }

  -- the sum is dominated at the head, where no listed cost is dominated
  pub tells_needless : AreUnbeaten cert.labels → IsBeaten cert.labels head (plus l.cost w) → TellsArc net cert l a.0 None
  tells_needless unbeaten beaten = record {
    departure = λ e. absurd cc;
    least_arc = λ e. absurd cc;
    astray = λ over.
        let free = over_this (λ k v c. (¬ IsCovered cert.labels v c) × (¬ IsBeaten cert.labels cert.target c)) over in
        absurd (free.0 (record { cost = beaten.cost; listed = beaten.listed; at_most = beaten.better.at_most }));
    later = λ over.
        let above = over_this (IsListedAbove cert.labels) over in
        absurd (unbeaten (record { node = head; cost = plus l.cost w; arc = above.arc }) above.listed beaten);
    only = tt;
  }

  -- the sum is dominated at the head where the label comes from it
  pub beaten_back : IsNetwork net → IsCertificate net cert → Comes net cert.labels l → (b : ArcNo) → l.arc ≡ b.0 → 1 ≤ b.0 → tail_of net.ends b ≡ head
      → length l.cost ≡ net.criteria → IsVector net.criteria w → IsBeaten cert.labels head (plus l.cost w)
  beaten_back is good comes b by some back whole vector =
      let ends = subst (λ k. EndsBy net k l.node (IsListed cert.labels) l.cost) by (comes (omega (arith, by, some))) in
      let at : ends.at ≡ head = sym (leads_is net b ends.at l.node ends.by ends.leads).0 ∙ back in
      let long = length_of_listed net is cert good ends.at ends.before ends.walk in
      let whole_by = (leads_by_vector net is b.0 ends.at l.node ends.by ends.leads).whole in
      let first : AtMost ends.before l.cost = subst (AtMost ends.before) (sym ends.cost) (AtMost-plus_self ends.before ends.by (long ∙ sym whole_by)) in
      let second : AtMost l.cost (plus l.cost w) = AtMost-plus_self l.cost w (whole ∙ sym vector.whole) in
      record {
        cost = ends.before;
        listed = subst (λ u. IsListed cert.labels u ends.before) at ends.walk;
        better = record {
          at_most = AtMost-trans ends.before l.cost (plus l.cost w) first second;
          differs = λ same. omega (arith, ap sum same, sum-AtMost ends.before l.cost first, sum-plus l.cost w (whole ∙ sym vector.whole), vector.nonzero);
        };
      }

  -- neither
  pub tells_astray : Finds cert.labels head (plus l.cost w) None → ¬ (IsBeaten cert.labels head (plus l.cost w) ⊎ IsBeaten cert.labels cert.target (plus l.cost w))
      → TellsArc net cert l a.0 (Some Departure)
  tells_astray finds free =
      let bare : ¬ IsCovered cert.labels head (plus l.cost w) = λ covered. elim (cases_same covered.cost (plus l.cost w)) [
        | inl same ↦
            let arc = covered.listed.arc in
            let listed = subst (λ c. Contains cert.labels (record { node = head; cost = c; arc = arc })) same covered.listed.listed in
            let one : None ≡ Some (an_arc arc) = (finds (an_arc arc)).1 listed in
            absurd cc
        | inr other ↦ free (inl (record { cost = covered.cost; listed = covered.listed; better = record { at_most = covered.at_most; differs = other } }))
      ] in
      record {
        departure = λ e. record { at = head; by = w; leads = leads; holds = (bare, λ beaten. free (inr beaten)) };
        least_arc = λ e. absurd cc;
        astray = λ over. refl;
        later = λ over. absurd (not_later finds over);
        only = inl refl;
      }

-- the sum of a listed cost and a vector fits
pub sum_fits : (c w : List ℕ) → All (λ x. x ≤ 2 ^ 58) c → All (λ x. x < 2 ^ 32) w → All (λ x. x < 2 ^ 64) (plus c w)
sum_fits c w most small =
    All-weaker (λ x. x ≤ 2 ^ 58 + 2 ^ 32) (λ x. x < 2 ^ 64) (λ x within. omega (arith, within)) (plus c w)
    (All-plus (2 ^ 58) (2 ^ 32) c w most (All-weaker (λ x. x < 2 ^ 32) (λ x. x ≤ 2 ^ 32) (λ x below. omega (arith, below)) w small))

-- ---- over all arcs that lead on

module _ (net : Network) (cert : Certificate) (l : Label) where
  abbrev NotAstray : ArcNo → Type 0
  NotAstray a = ¬ LeadsAstray net cert l a.0

  abbrev NotLater : ArcNo → Type 0
  NotLater a = ¬ IsListedLater net cert l a.0

  abbrev SomeLater : Type 0
  SomeLater = ForSomeArc net l (IsListedAbove cert.labels)

  pub over_arc : (a : ArcNo) (P : ℕ → ℕ → List ℕ → Type 0) → ForArc net l a.0 P → ForSomeArc net l P
  over_arc a P over = record { arc = a.0; at = over.at; by = over.by; leads = over.leads; holds = over.holds }

  -- the first arc over which the third rule fails
  pub tells_departure : (a : ArcNo) → TellsArc net cert l a.0 (Some Departure) → TellsArcs net cert l (Some Departure)
  tells_departure a tells = record {
    departure = (λ e. over_arc a (λ k v c. (¬ IsCovered cert.labels v c) × (¬ IsBeaten cert.labels cert.target c)) (tells.departure refl), λ fails. refl);
    least_arc = λ e. absurd cc;
    none = λ e. absurd cc;
    only = inl refl;
  }

  module _ (arcs : List ArcNo) (i : ℕ) (a : ArcNo) (here : slice_get arcs i ≡ Some a) (fault : Option Rule) (tells : TellsArc net cert l a.0 fault)
      (other : fault ≢ Some Departure) where
    pub astray_more : Seen NotAstray arcs i → Seen NotAstray arcs (i + 1)
    astray_more seen = seen_more NotAstray arcs i a here (λ over. other (tells.astray over)) seen

    later_by : (f : Option Rule) → fault ≡ f → (later : Bool) → MatchBool later SomeLater (Seen NotLater arcs i)
        → MatchBool (later || is_some f) SomeLater (Seen NotLater arcs (i + 1))
    later_by f is true some = some
    later_by None is false none = seen_more NotLater arcs i a here (λ over. let one = tells.later over in absurd cc) none
    later_by (Some rule) is false none = elim (subst (λ f. IfSome f (λ rule. (rule ≡ Departure) ⊎ (rule ≡ LeastArc))) is tells.only) [
      | inl departs ↦ absurd (other (is ∙ ap Some departs))
      | inr later ↦ over_arc a (IsListedAbove cert.labels) (tells.least_arc (is ∙ ap Some later))
    ]

    pub later_more : (later : Bool) → MatchBool later SomeLater (Seen NotLater arcs i)
        → MatchBool (later || is_some fault) SomeLater (Seen NotLater arcs (i + 1))
    later_more later so_far = later_by fault refl later so_far

  module _ (arcs : List ArcNo) (out : arcs ≡ out_arcs_of net.ends l.node) (astray : Seen NotAstray arcs (length arcs)) where
    no_departure : ¬ FailsAt net cert Departure l
    no_departure fails =
        let there = subst (λ all. Contains all (an_arc fails.arc)) (sym out) (in_out_arcs net fails.arc l.node fails.at fails.by fails.leads) in
        seen_all NotAstray arcs (length arcs) refl astray (an_arc fails.arc) there (record { at = fails.at; by = fails.by; leads = fails.leads; holds = fails.holds })

    -- the fourth rule fails over some arc
    pub tells_least_arc : SomeLater → TellsArcs net cert l (Some LeastArc)
    tells_least_arc later = record {
      departure = (λ e. absurd cc, λ fails. absurd (no_departure fails));
      least_arc = λ e. later;
      none = λ e. absurd cc;
      only = inr refl;
    }

    -- neither fails
    pub tells_none : Seen NotLater arcs (length arcs) → TellsArcs net cert l None
    tells_none not_later = record {
      departure = (λ e. absurd cc, λ fails. absurd (no_departure fails));
      least_arc = λ e. absurd cc;
      none = λ e fails.
          let there = subst (λ all. Contains all (an_arc fails.arc)) (sym out) (in_out_arcs net fails.arc l.node fails.at fails.by fails.leads) in
          seen_all NotLater arcs (length arcs) refl not_later (an_arc fails.arc) there (record { at = fails.at; by = fails.by; leads = fails.leads; holds = fails.holds });
      only = tt;
    }

-- ---- over the list

module _ (net : Network) (cert : Certificate) where
  abbrev pub Holds : Label → Type 0
  Holds l = (rule : Rule) → ¬ FailsAt net cert rule l

  -- where no rule is answered none fails
  pub none_answered : (l : Label) (answer : Option Rule) → answer ≡ None → TellsLeast net cert l answer → Holds l
  none_answered l answer none tells = subst (TellsLeast net cert l) none tells

  -- where no rule fails before a label the last one fails there just if it is the first at which that fails
  at_first_beaten : (beaten : Option ℕ) → TellsBeaten cert.labels beaten → (i : ℕ) (l : Label) → slice_get cert.labels i ≡ Some l → Seen Holds cert.labels i
      → (option_eq nat_eq beaten (Some i) ≡ true) ↔ IsBeaten cert.labels l.node l.cost
  at_first_beaten None unbeaten i l at seen = (
    λ e. absurd cc,
    λ dominated. absurd (unbeaten l (i, slice_get_within cert.labels i l at, get_or_from_slice_get cert.labels i l l at) dominated),
  )
  at_first_beaten (Some j) is i l at seen = (
    λ e.
        let place : j ≡ i = grind (arith, nat_tests) in
        let here = subst (λ n. slice_get cert.labels n ≡ Some is.label) place is.at in
        let one : Some is.label ≡ Some l = sym here ∙ at in
        let same : is.label ≡ l = cc in
        subst (λ (m : Label). IsBeaten cert.labels m.node m.cost) same is.beaten,
    λ dominated. elim (cases_lt i j) [
      | inl before ↦ absurd (is.first i l at before dominated)
      | inr from ↦ elim (cases_lt j i) [
        | inl behind ↦ absurd (seen j is.label is.at behind Undominated is.beaten)
        | inr up_to ↦ let place : j ≡ i = omega (arith, from, up_to) in grind (arith, nat_tests)
      ]
    ],
  )

  pub known_beaten : (beaten : Option ℕ) → TellsBeaten cert.labels beaten → (i : ℕ) (l : Label) → slice_get cert.labels i ≡ Some l → Seen Holds cert.labels i
      → (test : Bool) → test ≡ option_eq nat_eq beaten (Some i) → (test ≡ true) ↔ IsBeaten cert.labels l.node l.cost
  known_beaten beaten tells i l at seen test is =
      let fails = at_first_beaten beaten tells i l at seen in
      (λ e. fails.0 (sym is ∙ e), λ dominated. is ∙ fails.1 dominated)

  -- the start isn't listed
  pub first_at_whole : ¬ Contains cert.labels (start_label net cert) → IsFirstFailure net cert Start 0
  first_at_whole missing = record { fails = (refl, missing); first = λ other j below. absurd (omega arith); least = λ other less. absurd (none_less other less) } where
    none_less : (other : Rule) → ¬ (rule_number other < 1)
    none_less Start less = omega arith
    none_less Arrival less = omega arith
    none_less Departure less = omega arith
    none_less LeastArc less = omega arith
    none_less Undominated less = omega arith

  -- no rule fails at a label before this number
  none_before : (i : ℕ) → Contains cert.labels (start_label net cert) → Seen Holds cert.labels i → (other : Rule) (j : ℕ) → j < suc i → ¬ Fails net cert other j
  none_before i start seen other zero below fails = fails.1 start
  none_before i start seen other (suc j) below fails = by_label (slice_get cert.labels j) refl fails where
    by_label : (o : Option Label) → slice_get cert.labels j ≡ o → ¬ IsSomeAnd o (FailsAt net cert other)
    by_label None at fails = fails
    by_label (Some l) at fails = seen j l at (omega (arith, below)) other fails

  at_next_label : (i : ℕ) (l : Label) → slice_get cert.labels i ≡ Some l → Contains cert.labels (start_label net cert) → Seen Holds cert.labels i
      → (rule : Rule) → TellsLeast net cert l (Some rule) → IsFirstFailure net cert rule (suc i)
  at_next_label i l at start seen rule tells =
      record {
        fails = subst (λ o. IsSomeAnd o (FailsAt net cert rule)) (sym at) tells.0;
        first = λ other j below. none_before i start seen other j below;
        least = λ other less fails. tells.1 other less (subst (λ o. IsSomeAnd o (FailsAt net cert other)) at fails);
      }

  pub first_at_label : (i : ℕ) (l : Label) → slice_get cert.labels i ≡ Some l → Contains cert.labels (start_label net cert) → Seen Holds cert.labels i
      → (rule : Rule) → TellsLeast net cert l (Some rule) → IsFirstFailure net cert rule (i + 1)
  first_at_label i l at start seen rule tells =
      let next : suc i ≡ i + 1 = omega arith in subst (IsFirstFailure net cert rule) next (at_next_label i l at start seen rule tells)

  pub none_fails : (i : ℕ) → length cert.labels ≤ i → Contains cert.labels (start_label net cert) → Seen Holds cert.labels i → HasNoFailure net cert
  none_fails i all start seen rule zero fails = fails.1 start
  none_fails i all start seen rule (suc j) fails = by_label (slice_get cert.labels j) refl fails where
    by_label : (o : Option Label) → slice_get cert.labels j ≡ o → ¬ IsSomeAnd o (FailsAt net cert rule)
    by_label None at fails = fails
    by_label (Some l) at fails = seen j l at (omega (arith, all, slice_get_within cert.labels j l at)) rule fails
