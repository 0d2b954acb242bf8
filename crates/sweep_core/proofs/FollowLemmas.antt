-- What follows a settled item along the arcs that lead on, one after another.
use Rattle.std.proofs.Common.{◌≡◌, ℕ, ◌+◌, ◌≤◌, List, ◌∷◌, Some, None, length, get_or, inl, inr, ◌⊎◌, refl, sym, ap, subst, ◌∙◌, arith}
use Rattle.std.specs.Prelude.{Contains}
use Rattle.std.proofs.lemmas.Bool.{cases_eq}
use Rattle.std.proofs.lemmas.List.Sorted.{Contains-permutation, IsPermutation-sym}
use Rattle.list_laws.proofs.Members.{cases_in, in_first, in_rest}
use Rattle.cost_vector.specs.Costs.{AtMost, plus}
use Rattle.cost_vector.specs.declared.label.ArcNo.{ArcNo}
use Rattle.cost_vector.proofs.Vectors.{AtMost-plus, AtMost-refl, length-plus, plus_assoc}
use Rattle.road_network.specs.Network.{Network, IsNetwork, IsNode, Leads}
use Rattle.road_network.proofs.WalkLaws.{leads_by_vector, leads_to_node}
use Rattle.arc_graph.specs.Graph.{out_arcs_of}
use Rattle.settled_front.specs.Fronts.{IsCovered}
use Rattle.waiting_item.specs.Waiting.{Spot, Waiting}
use Rattle.sweep_parts.specs.Settled.{IsBehind, costs_of}
use Rattle.sweep_core.specs.Potentials.{IsConsistent, Potential}
use Rattle.sweep_core.specs.Relaxing.{IsGivenFrom, IsGivenIfAny}
use Rattle.sweep_core.specs.Sweeps.{CanTell, Follows, IsFollowing, IsFromSettled, IsHandled, IsLifted, IsRelaxing, LetsWait, Sweep, lifted, with_queue}
use Rattle.sweep_core.proofs.Ascending.{all_behind_above}
use Rattle.sweep_core.proofs.Leaving.{covered_below}
use Rattle.sweep_core.proofs.LeadingLemmas.{IsAmong, among_one_more, among_out_arcs, one_given}

still_handled : (s : Sweep) (before after : List Waiting) → ((j : Waiting) → Contains before j → Contains after j) → (y : Spot) → IsHandled (with_queue s before) y
    → IsHandled (with_queue s after) y
still_handled s before after kept y (inl spent) = inl spent
still_handled s before after kept y (inr below) = inr (record { item = below.item; waits = kept below.item below.waits; node = below.node; at_most = below.at_most })

module _ (net : Network) (P : Potential) (s : Sweep) (x : Waiting) where
  -- ---- along one arc after another

  pub none_follows : (arcs : List ArcNo) (queue : List Waiting) → Follows net P s x (IsAmong arcs 0) queue queue
  none_follows arcs queue =
      record { kept = λ j there. there; come = λ j there. inl there; all = λ b k v w h among arc has. absurd (omega (arith, among.1)) }

  pub more_follow : (arcs : List ArcNo) (i : ℕ) (before between after : List Waiting) → Follows net P s x (IsAmong arcs i) before between
      → Follows net P s x (λ k. k ≡ (get_or arcs i (record { 0 = 0 })).0) between after → Follows net P s x (IsAmong arcs (i + 1)) before after
  more_follow arcs i before between after first second = record {
    kept = λ j there. second.kept j (first.kept j there);
    come = λ j there. elim (second.come j there) [ inr new ↦ inr new | inl old ↦ first.come j old ];
    all = λ b k v w h among arc has. elim (among_one_more arcs i k among) [
      | inr now ↦ second.all b k v w h now arc has
      | inl earlier ↦ still_handled s between after second.kept (lifted v (plus b.cost w) h) (first.all b k v w h earlier arc has)
    ];
  }

  pub all_follow : (arcs : List ArcNo) (i : ℕ) (before after : List Waiting) → arcs ≡ out_arcs_of net.ends x.spot.node → length arcs ≤ i
      → Follows net P s x (IsAmong arcs i) before after → Follows net P s x (λ k. Unit {0}) before after
  all_follow arcs i before after whole ended follows = record {
    kept = follows.kept;
    come = follows.come;
    all = λ b k v w h any arc has. follows.all b k v w h (among_out_arcs net arcs i k x.spot.node v w whole ended arc) arc has;
  }

  -- ---- along one arc

  module _ (road : IsNetwork net) (t : ℕ) (is : IsConsistent net t P) (relaxing : IsRelaxing net P s x) where
    pub item_node : IsNode net.nodes x.spot.node
    item_node = is.nodes x.spot.node relaxing.lifted.height relaxing.lifted.has

    -- it costs at least as much in each component
    above : (b : IsLifted net P x.spot) (k v : ℕ) (w h : List ℕ) → Leads net k x.spot.node w v → P v h → AtMost x.spot.cost (plus (plus b.cost w) h)
    above b k v w h arc has =
        let back = is.along k x.spot.node v w h arc has in
        let sum : x.spot.cost ≡ plus b.cost back.height = b.sum ∙ ap (plus b.cost) (is.one x.spot.node b.height back.height b.has back.has) in
        subst (λ z. AtMost z (plus (plus b.cost w) h)) (sym sum)
        (subst (AtMost (plus b.cost back.height)) (sym (plus_assoc b.cost w h))
        (AtMost-plus b.cost b.cost back.height (plus w h) (AtMost-refl b.cost) back.at_most))

    -- straight back it is covered
    back_is_spent : (b : IsLifted net P x.spot) (k v : ℕ) (w h : List ℕ) → Leads net k x.spot.node w v → P v h → v ≡ x.from → (items : List Waiting)
        → IsHandled (with_queue s items) (lifted v (plus b.cost w) h)
    back_is_spent b k v w h arc has back items = elim (relaxing.came) [
      | inl none ↦ let node = is.nodes v h has in absurd (omega (arith, node.0, back, none))
      | inr covered ↦ inl (inl (inl (covered_below (costs_of s.settled v) x.spot.cost (plus (plus b.cost w) h) (above b k v w h arc has)
          (subst (λ u. IsCovered (costs_of s.settled u) x.spot.cost) (sym back) covered))))
    ]

    from_given : (k : ℕ) (j : Waiting) (given : IsGivenFrom net P x.spot k j.spot) → IsFromSettled net P s.start s.settled j.spot
    from_given k j given =
        let long = (leads_by_vector net road k x.spot.node j.spot.node given.by given.leads).whole in
        let whole = given.is_lifted.whole in record {
          lifted = record {
            cost = plus given.is_lifted.cost given.by;
            whole = length-plus given.is_lifted.cost given.by (whole ∙ sym long) ∙ whole;
            height = given.height;
            has = given.has;
            sum = given.cost;
          };
          from = inr (record { from = x.spot; there = relaxing.settled; before = given.is_lifted; arc = k; by = given.by; leads = given.leads; cost = refl });
        }

    given_above : (k : ℕ) (j : Waiting) → IsGivenFrom net P x.spot k j.spot → AtMost x.spot.cost j.spot.cost
    given_above k j given = subst (AtMost x.spot.cost) (sym given.cost) (above given.is_lifted k j.spot.node given.by given.height given.leads given.has)

    -- of what is given it can be told whether it is spent
    pub can_tell_given : (k : ℕ) (j : Waiting) → IsGivenFrom net P x.spot k j.spot → CanTell s.settled s.target j.spot
    can_tell_given k j given =
        let node = leads_to_node net road k x.spot.node j.spot.node given.by given.leads in
        let behind : (u : ℕ) → IsBehind (costs_of s.settled u) j.spot.cost =
        λ u. all_behind_above (costs_of s.settled u) x.spot.cost j.spot.cost (given_above k j given) (relaxing.behind u) in record {
          node = omega (arith, node.1, relaxing.count);
          target_node = omega (arith, relaxing.target_node.1, relaxing.count);
          at_node = behind j.spot.node;
          at_target = behind s.target;
        }

    -- what an arc leads to is given by it
    given_by : (b : IsLifted net P x.spot) (k v : ℕ) (w h : List ℕ) → Leads net k x.spot.node w v → P v h → IsGivenFrom net P x.spot k (lifted v (plus b.cost w) h)
    given_by b k v w h arc has = record { is_lifted = b; by = w; height = h; leads = arc; has = has; cost = refl }

    -- where the arc gives nothing, nothing has to come
    pub nothing_follows : (k : ℕ) (queue : List Waiting) → IsGivenIfAny net P s.limit x k None → Follows net P s x (λ n. n ≡ k) queue queue
    nothing_follows k queue none = record {
      kept = λ j there. there;
      come = λ j there. inl there;
      all = λ b n v w h same arc has. elim (cases_eq v x.from) [
        | inl back ↦ back_is_spent b n v w h arc has back queue
        | inr on ↦ inl (inr (none (lifted v (plus b.cost w) h) (given_by b k v w h (subst (λ m. Leads net m x.spot.node w v) same arc) has) on))
      ];
    }

    -- what it gives waits, or is spent
    pub one_follows : (k : ℕ) (i : Waiting) (before after : List Waiting) → IsGivenIfAny net P s.limit x k (Some i) → LetsWait s.settled s.target i before after
        → Follows net P s x (λ n. n ≡ k) before after
    one_follows k i before after given waits = record {
      kept = kept;
      come = come;
      all = λ b n v w h same arc has.
          let y = lifted v (plus b.cost w) h in
          let one = one_given net t P is x.spot k i.spot y given.0 (given_by b k v w h (subst (λ m. Leads net m x.spot.node w v) same arc) has) in
          subst (IsHandled (with_queue s after)) one handled;
    } where
      following : IsFollowing net P s x i
      following = record { from_settled = from_given k i given.0; within = given.2; above = given_above k i given.0; came = given.1 }

      kept : (j : Waiting) → Contains before j → Contains after j
      kept j there = elim waits [
        | inl spent ↦ subst (λ q. Contains q j) (sym spent.1) there
        | inr moved ↦ Contains-permutation (i ∷ before) after j moved (in_rest i before j there)
      ]

      come : (j : Waiting) → Contains after j → Contains before j ⊎ IsFollowing net P s x j
      come j there = elim waits [
        | inl spent ↦ inl (subst (λ q. Contains q j) spent.1 there)
        | inr moved ↦ elim (cases_in i before j (Contains-permutation after (i ∷ before) j (IsPermutation-sym (i ∷ before) after moved) there)) [
          | inl same ↦ inr (subst (IsFollowing net P s x) (sym same) following)
          | inr earlier ↦ inl earlier
        ]
      ]

      handled : IsHandled (with_queue s after) i.spot
      handled = elim waits [
        | inl spent ↦ inl (inl spent.0)
        | inr moved ↦ inr (record {
          item = i;
          waits = Contains-permutation (i ∷ before) after i moved (in_first i before);
          node = refl;
          at_most = AtMost-refl i.spot.cost;
        })
      ]
