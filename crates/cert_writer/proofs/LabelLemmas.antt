-- Labels are listed one after another.
use Rattle.std.proofs.Common.{◌≡◌, ℕ, ◌+◌, ◌-◌, ◌^◌, ◌<◌, ◌≤◌, List, [], ◌∷◌, ◌++◌, Some, None, length, map, take, get_or, inl, inr, ◌⊎◌, ◌↔◌, refl, sym, ap, subst, subst₂, ◌∙◌, arith, length-take}
use Rattle.std.specs.Prelude.{Contains, slice_get, slice_index}
use Rattle.std.proofs.lemmas.Bool.{cases_eq, cases_lt}
use Rattle.std.proofs.lemmas.List.{get_or-take, get_or_default, length-map, reverse-append, take_all, take_more}
use Rattle.std.proofs.lemmas.List.Elements.{All-weaker, Contains-append_left, Contains-append_right, Contains-get_or}
use Rattle.std.proofs.lemmas.Option.{slice_get_within}
use Rattle.list_laws.proofs.Members.{all_from_in, cases_push, in_first, in_map, in_none, of_map}
use Rattle.list_laws.proofs.Pairs.{pairs_none, pairs_push}
use Rattle.cost_vector.specs.Costs.{LexLess, no_limit}
use Rattle.cost_vector.specs.declared.label.Label.{Label as StoredLabel}
use Rattle.road_network.specs.Answers.{AreRelevantPairs, IsRelevant, Passes}
use Rattle.road_network.specs.Labels.{Label, HasLeastArc, last_arc}
use Rattle.road_network.specs.Network.{Network, IsNetwork, IsNode}
use Rattle.road_network.specs.Queries.{IsTooLarge, limit_of, limit_or_none}
use Rattle.road_network.specs.declared.query.Query.{Query}
use Rattle.road_network.proofs.RelevantLaws.{passes_below}
use Rattle.road_network.proofs.WalkLaws.{ends_by_last, length_of_walk, node_of_walk}
use Rattle.road_network.specs.Walks.{IsWalk}
use Rattle.arc_graph.specs.Graph.{IsRoadNetwork}
use Rattle.walk_readback.specs.Found.{FoundCosts, HasAllRelevant, HasSettled, IsFound, IsOf}
use Rattle.walk_readback.proofs.GoingBackLaws.{EndsWith, empty, last, cases_end}
use Rattle.walk_readback.specs.SettledCosts.{ListsSettled}
use Rattle.cert_rules.specs.Certificates.{Certificate, IsCertificate, IsLine, IsListed, max_component, max_labels}
use Rattle.cert_rules.specs.Meaning.{ListsRelevant}
use Rattle.cert_rules.proofs.CompleteLaws.{small_costs}
use Rattle.front_cert.specs.Listing.{AreKept, line_of}
use Rattle.front_cert.specs.Lookup.{Precedes}
use Rattle.front_cert.proofs.FoundLemmas.{listed_ascend, pairs_once, settled_alike}
use Rattle.cert_writer.specs.Labels.{IsWhole, ListsPairs, ListsUpTo}

-- ---- the last arc of a walk

pub last_some : (q : List ℕ) (k : ℕ) → Some k ≡ slice_get q 0 → k ≡ slice_index q 0
last_some [] k e = absurd cc
last_some (x ∷ q) k e = cc

pub last_none : (q : List ℕ) → None ≡ slice_get q 0 → 0 ≡ slice_index q 0
last_none [] e = refl
last_none (x ∷ q) e = absurd cc

-- it is an arc of the network, or there is none
pub arc_within : (net : Network) → IsNetwork net → (s : ℕ) (l : Label) → HasLeastArc net s l → l.arc ≤ length net.ends
arc_within net is s l has = by_end (cases_end has.walk) where
  by_end : EndsWith has.walk → l.arc ≤ length net.ends
  by_end (empty none) = let e = ap last_arc none in omega (arith, has.arc, e)
  by_end (last front k ends) =
      let back = (ends_by_last net is front s l.node k l.cost).0 (subst (λ p. IsWalk net s p l.node l.cost) ends has.least.walk) in
      let within = slice_get_within net.ends (k - 1) (back.at, l.node) back.leads.ends in
      let is_last : last_arc (front ++ k ∷ []) ≡ k = ap (λ q. slice_index q 0) (reverse-append front (k ∷ [])) in
      omega (arith, has.arc, ap last_arc ends, is_last, within, back.leads.counted)

-- ---- lists of pairs

module _ (net : Network) (s : ℕ) where
  pub lists_alike : (P Q : ℕ → List ℕ → Type 0) (labels : List StoredLabel) → ((v : ℕ) (c : List ℕ) → P v c ↔ Q v c)
      → ListsPairs net s P labels → ListsPairs net s Q labels
  lists_alike P Q labels same lists = record {
    ascending = lists.ascending;
    least = lists.least;
    exact = λ v c. (λ listed. (same v c).0 ((lists.exact v c).0 listed), λ q. (lists.exact v c).1 ((same v c).1 q));
  }

  pub lists_none : (P : ℕ → List ℕ → Type 0) → ((v : ℕ) (c : List ℕ) → ¬ P v c) → ListsPairs net s P []
  lists_none P none = record {
    ascending = pairs_none Precedes;
    least = λ l there. absurd (in_none l there);
    exact = λ v c. (λ listed. absurd (in_none (record { node = v; cost = c; arc = listed.arc }) listed.listed), λ p. absurd (none v c p));
  }

  -- the node and the cost stand before the label
  abbrev pub StandsBefore : ℕ → List ℕ → StoredLabel → Type 0
  StandsBefore v c l = (v < l.node.0) ⊎ ((v ≡ l.node.0) × LexLess c l.cost)

  module _ (P : ℕ → List ℕ → Type 0) (labels : List StoredLabel) (l : StoredLabel) where
    abbrev pub OrThis : ℕ → List ℕ → Type 0
    OrThis v c = P v c ⊎ ((v ≡ l.node.0) × (c ≡ l.cost))

    -- one label more
    pub lists_push : ListsPairs net s P labels → HasLeastArc net s (line_of l) → ((v : ℕ) (c : List ℕ) → P v c → StandsBefore v c l)
        → ListsPairs net s OrThis (labels ++ l ∷ [])
    lists_push lists has before = record {
      ascending = pairs_push Precedes labels l lists.ascending (λ x there. before x.node.0 x.cost ((lists.exact x.node.0 x.cost).0
          (record { arc = x.arc.0; listed = in_map line_of labels x there })));
      least = λ x there. elim (cases_push labels l x there) [
        | inl old ↦ lists.least x old
        | inr same ↦ subst (λ (y : StoredLabel). HasLeastArc net s (line_of y)) (sym same) has
      ];
      exact = λ v c. (of_listed v c, listed_of v c);
    } where
      of_listed : (v : ℕ) (c : List ℕ) → IsListed (map line_of (labels ++ l ∷ [])) v c → OrThis v c
      of_listed v c listed =
          let found = of_map line_of (labels ++ l ∷ []) (record { node = v; cost = c; arc = listed.arc }) listed.listed in
          elim (cases_push labels l found.0 found.1) [
            | inl old ↦ inl ((lists.exact v c).0 (record { arc = listed.arc; listed = subst (Contains (map line_of labels)) (sym found.2) (in_map line_of labels found.0 old) }))
            | inr same ↦
                let is : record { node = v; cost = c; arc = listed.arc } ≡ line_of l = found.2 ∙ ap line_of same in
                inr (ap (λ (x : Label). x.node) is, ap (λ (x : Label). x.cost) is)
          ]

      listed_of : (v : ℕ) (c : List ℕ) → OrThis v c → IsListed (map line_of (labels ++ l ∷ [])) v c
      listed_of v c (inl old) =
          let listed = (lists.exact v c).1 old in
          let found = of_map line_of labels (record { node = v; cost = c; arc = listed.arc }) listed.listed in
          record { arc = listed.arc; listed = subst (Contains (map line_of (labels ++ l ∷ []))) (sym found.2) (in_map line_of (labels ++ l ∷ []) found.0 (Contains-append_left labels (l ∷ []) found.0 found.1)) }
      listed_of v c (inr this) = record {
        arc = l.arc.0;
        listed = subst₂ (λ u b. Contains (map line_of (labels ++ l ∷ [])) (record { node = u; cost = b; arc = l.arc.0 })) (sym this.0) (sym this.1)
            (in_map line_of (labels ++ l ∷ []) l (Contains-append_right labels (l ∷ []) l (in_first l [])));
      }

-- ---- node by node

-- what is settled is settled at a node
pub settled_at_node : (net : Network) → IsNetwork net → (f : FoundCosts) → IsWhole net f → (v : ℕ) (c : List ℕ) → HasSettled f v c → IsNode net.nodes v
settled_at_node net is f whole v c there =
    let reached = ((whole.relevant.relevant v c).0 there).best.reached in node_of_walk net is reached.0 f.start v c reached.1

-- none is of node 0
pub up_to_none : (net : Network) → IsNetwork net → (f : FoundCosts) → IsWhole net f → ListsUpTo net f 0 []
up_to_none net is f whole =
    lists_none net f.start (λ v c. (v ≤ 0) × HasSettled f v c) (λ v c p. let node = settled_at_node net is f whole v c p.1 in omega (arith, p.0, node.0))

-- beyond the last node there are none
pub up_to_all : (net : Network) → IsNetwork net → (f : FoundCosts) → IsWhole net f → (n : ℕ) (labels : List StoredLabel) → net.nodes ≤ n
    → ListsUpTo net f n labels → ListsUpTo net f net.nodes labels
up_to_all net is f whole n labels all lists =
    lists_alike net f.start (λ v c. (v ≤ n) × HasSettled f v c) (λ v c. (v ≤ net.nodes) × HasSettled f v c) labels (λ v c. (
      λ p. ((settled_at_node net is f whole v c p.1).1, p.1),
      λ p. (omega (arith, p.0, all), p.1),
    )) lists

module _ (net : Network) (f : FoundCosts) (node : ℕ) (some : 1 ≤ node) (costs : List (List ℕ)) (of_node : ListsSettled f node costs) where
  -- the pair is of a lesser node, or of this one with one of the first costs
  abbrev pub OfFirst : ℕ → ℕ → List ℕ → Type 0
  OfFirst i v c = ((v ≤ node - 1) × HasSettled f v c) ⊎ ((v ≡ node) × Contains (take i costs) c)

  pub first_none : (labels : List StoredLabel) → ListsUpTo net f (node - 1) labels → ListsPairs net f.start (OfFirst 0) labels
  first_none labels lists =
      lists_alike net f.start (λ v c. (v ≤ node - 1) × HasSettled f v c) (OfFirst 0) labels
      (λ v c. (λ p. inl p, elim [ inl p ↦ p | inr q ↦ absurd (in_none c q.1) ])) lists

  pub first_all : (i : ℕ) (labels : List StoredLabel) → length costs ≤ i → ListsPairs net f.start (OfFirst i) labels → ListsUpTo net f node labels
  first_all i labels all lists = lists_alike net f.start (OfFirst i) (λ v c. (v ≤ node) × HasSettled f v c) labels (λ v c. (to v c, from v c)) lists where
    to : (v : ℕ) (c : List ℕ) → OfFirst i v c → (v ≤ node) × HasSettled f v c
    to v c (inl p) = (omega (arith, p.0), p.1)
    to v c (inr q) =
        let there = (of_node.exact c).0 (subst (λ l. Contains l c) (take_all i costs all) q.1) in
        (omega (arith, q.0), subst (λ n. HasSettled f n c) (sym q.0) there)

    from : (v : ℕ) (c : List ℕ) → (v ≤ node) × HasSettled f v c → OfFirst i v c
    from v c p = elim (cases_eq v node) [
      | inl same ↦ inr (same, subst (λ l. Contains l c) (sym (take_all i costs all)) ((of_node.exact c).1 (subst (λ n. HasSettled f n c) same p.1)))
      | inr other ↦ inl (omega (arith, other, p.0, some), p.1)
    ]

  module _ (i : ℕ) (c : List ℕ) (d : List ℕ) (within : i < length costs) (here : c ≡ get_or costs i d) where
    pub settled_here : HasSettled f node c
    settled_here = subst (HasSettled f node) (sym here) ((of_node.exact (get_or costs i d)).0 (Contains-get_or costs i d within))

    pub first_more : (l : StoredLabel) (labels : List StoredLabel) → l.node.0 ≡ node → l.cost ≡ c → HasLeastArc net f.start (line_of l)
        → ListsPairs net f.start (OfFirst i) labels → ListsPairs net f.start (OfFirst (i + 1)) (labels ++ l ∷ [])
    first_more l labels node_is cost_is has lists =
        lists_alike net f.start (OrThis net f.start (OfFirst i) labels l) (OfFirst (i + 1)) (labels ++ l ∷ []) (λ v b. (to v b, from v b))
        (lists_push net f.start (OfFirst i) labels l lists has before) where
          more : take (i + 1) costs ≡ take i costs ++ c ∷ []
          more = take_more costs i d within ∙ ap (λ x. take i costs ++ x ∷ []) (sym here)

          before : (v : ℕ) (b : List ℕ) → OfFirst i v b → (v < l.node.0) ⊎ ((v ≡ l.node.0) × LexLess b l.cost)
          before v b (inl p) = inl (omega (arith, p.0, node_is, some))
          before v b (inr q) =
              let (k, inside, is) = q.1 in
              let below : k < i = omega (arith, inside, length-take i costs) in
              let order = of_node.ascending k i b below within in
              let one : get_or costs k b ≡ b = sym (get_or-take i costs k b below) ∙ is in
              let two : get_or costs i b ≡ l.cost = get_or_default costs i b d within ∙ sym here ∙ sym cost_is in
              inr (q.0 ∙ sym node_is, subst₂ LexLess one two order)

          to : (v : ℕ) (b : List ℕ) → OrThis net f.start (OfFirst i) labels l v b → OfFirst (i + 1) v b
          to v b (inl (inl p)) = inl p
          to v b (inl (inr q)) = inr (q.0, subst (λ xs. Contains xs b) (sym more) (Contains-append_left (take i costs) (c ∷ []) b q.1))
          to v b (inr this) = inr (this.0 ∙ node_is, subst (λ xs. Contains xs b) (sym more) (subst (Contains (take i costs ++ c ∷ [])) (sym (this.1 ∙ cost_is)) (Contains-append_right (take i costs) (c ∷ []) c (in_first c []))))

          from : (v : ℕ) (b : List ℕ) → OfFirst (i + 1) v b → OrThis net f.start (OfFirst i) labels l v b
          from v b (inl p) = inl (inl p)
          from v b (inr q) = elim (cases_push (take i costs) c b (subst (λ xs. Contains xs b) more q.1)) [
            | inl old ↦ inl (inr (q.0, old))
            | inr same ↦ inr (q.0 ∙ sym node_is, same ∙ sym cost_is)
          ]

-- ---- the certificate of all

module _ (net : Network) (road : IsRoadNetwork net) (query : Query) (f : FoundCosts) (of : IsOf net query f) (unlimited : query.limit ≡ None)
    (relevant : HasAllRelevant net (limit_of net.criteria query) f) where
  all_relevant : HasAllRelevant net (no_limit net.criteria) f
  all_relevant = subst (λ o. HasAllRelevant net (limit_or_none net.criteria o) f) unlimited relevant

  pub is_whole : IsWhole net f
  is_whole = record { nodes = of.nodes; criteria = of.criteria; limit = limit_of net.criteria query; relevant = relevant }

  module _ (labels : List StoredLabel) (lists : ListsUpTo net f net.nodes labels) where
    abbrev cert : Certificate
    cert = record { start = f.start; target = f.target; labels = map line_of labels }

    is : IsNetwork net
    is = road.network

    pub lists_relevant : ListsRelevant net cert
    lists_relevant = record {
      relevant = λ v c. (
        λ listed. (all_relevant.relevant v c).0 ((lists.exact v c).0 listed).1,
        λ r. let there = (all_relevant.relevant v c).1 r in (lists.exact v c).1 ((settled_at_node net is f is_whole v c there).1, there),
      );
      least = λ l there. let found = of_map line_of labels l there in subst (HasLeastArc net f.start) (sym found.2) (lists.least found.0 found.1);
    }

    relevant_at : (l : Label) → Contains (map line_of labels) l → IsRelevant net f.start f.target (no_limit net.criteria) l.node l.cost
    relevant_at l there = (lists_relevant.relevant l.node l.cost).0 (record { arc = l.arc; listed = there })

    pub are_kept : AreKept net.criteria labels
    are_kept = record {
      whole = all_from_in (λ l. length l.cost ≡ net.criteria) labels (λ l there.
          let reached = (relevant_at (line_of l) (in_map line_of labels l there)).best.reached in
          length_of_walk net is reached.0 f.start l.node.0 l.cost reached.1);
      ascending = lists.ascending;
    }

    line_at : (l : Label) → Contains (map line_of labels) l → IsLine net l
    line_at l there =
        let reached = (relevant_at l there).best.reached in record {
          node = node_of_walk net is reached.0 f.start l.node l.cost reached.1;
          arc = arc_within net is f.start l (lists_relevant.least l there);
          cost = length_of_walk net is reached.0 f.start l.node l.cost reached.1;
          small = All-weaker (λ x. x < 2 ^ 55) (λ x. x ≤ max_component) (λ x small. omega (arith, small)) l.cost
              (small_costs net is cert lists_relevant road.small road.nodes l there);
        }

    -- there are as many as the budget allows
    pairs_are : AreRelevantPairs net f.start f.target (no_limit net.criteria) (map (λ l. (l.node, l.cost)) (map line_of labels))
    pairs_are = record {
      distinct = pairs_once (map line_of labels) (listed_ascend labels lists.ascending);
      exact = λ p. (
        λ there. (lists_relevant.relevant p.0 p.1).0 ((settled_alike (map line_of labels) p.0 p.1).0 there),
        λ r. (settled_alike (map line_of labels) p.0 p.1).1 ((lists_relevant.relevant p.0 p.1).1 r),
      );
    }

    within_budget : ¬ Passes net f.start f.target (no_limit net.criteria) query.budget → length (map line_of labels) ≤ query.budget
    within_budget not =
        let pairs = map (λ l. (l.node, l.cost)) (map line_of labels) in
        let count : length pairs ≡ length (map line_of labels) = length-map (map line_of labels) (λ l. (l.node, l.cost)) in
        elim (cases_lt query.budget (length pairs)) [
          | inl more ↦ absurd (not ((passes_below net f.start f.target (no_limit net.criteria) pairs pairs_are query.budget).1 more))
          | inr most ↦ omega (arith, most, count)
        ]

    pub is_certificate : IsFound f → query.budget ≤ max_labels → ¬ IsTooLarge net query → IsCertificate net cert
    is_certificate found budget few = record {
      start = subst (λ n. IsNode n f.start) of.nodes found.start;
      target = subst (λ n. IsNode n f.target) of.nodes found.target;
      lines = all_from_in (IsLine net) (map line_of labels) line_at;
      ascending = listed_ascend labels lists.ascending;
      count = omega (
        arith,
        budget,
        within_budget (λ passes. few (
            subst₂ (λ s t. Passes net s t (limit_of net.criteria query) query.budget) of.start of.target
            (subst (λ o. Passes net f.start f.target (limit_or_none net.criteria o) query.budget) (sym unlimited) passes))),
      );
    }
