-- What the taken items of an open round give along their arcs: it arrives, but for what leads straight back, which is spent.
use Rattle.std.proofs.Common.{◌≡◌, ◌≢◌, ℕ, ◌*◌, ◌-◌, ◌^◌, ◌<◌, ◌≤◌, ◌⊎◌, ◌↔◌, ◌+◌, List, [], ◌∷◌, map, nat_eq, inl, inr, refl, sym, ap, subst, ◌∙◌, arith, Contains}
use Rattle.std.specs.Prelude.{All, flat_map, not}
use Rattle.std.proofs.lemmas.Bool.{cases_Bool, cases_lt}
use Rattle.std.proofs.lemmas.Bool.Decides.{nat_tests}
use Rattle.std.proofs.lemmas.List.Elements.{All-weaker}
use Rattle.cost_vector.specs.Costs.{AtMost, plus}
use Rattle.cost_vector.proofs.Vectors.{All-plus, AtMost-refl, AtMost-trans}
use Rattle.list_laws.proofs.Members.{cases_in, in_front, in_rest, in_map, of_map, in_filter, of_filter, each_in, all_from_in}
use Rattle.list_laws.proofs.SetLaws.{none_of_empty}
use Rattle.road_network.specs.Labels.{Label}
use Rattle.road_network.specs.Network.{AreSmall, Network, IsNetwork, IsNode, Leads}
use Rattle.road_network.proofs.SumLaws.{small_by}
use Rattle.road_network.proofs.WalkLaws.{leads_to_node}
use Rattle.arc_graph.specs.Graph.{relaxed, label_over}
use Rattle.arc_graph.proofs.RelaxLaws.{label_in, label_of}
use Rattle.event_machine.specs.Machine.{Task, SearchState, Follows, HasSettled, LeadsOn}
use Rattle.event_machine.specs.Orders.{IsArrival}
use Rattle.event_machine.proofs.Keeping.{sound_if_reached}
use Rattle.event_machine.proofs.Sound.{grown_from_settled}
use Rattle.bulk_rounds.specs.Cores.{Core, HasSpot, IsSpent, Item, Spot}
use Rattle.bulk_rounds.specs.Finishes.{AreArrivals, HasItemBelow, PutsAll}
use Rattle.bulk_rounds.specs.Kept.{IsFrom, IsKeptItem}
use Rattle.bulk_rounds.specs.Standing.{IsAt, as_spot}
use Rattle.bulk_rounds.proofs.FinishedLemmas.{finishes_round}
use Rattle.bulk_rounds.proofs.FoundLemmas.{arrives_at_node, spares_settled, taken_at_node, taken_is_small, way_back_spent}
use Rattle.bulk_rounds.proofs.SpentLemmas.{barred_below, covered_below, decidable_spent}
use Rattle.waiting_item.specs.Waiting.{spot_in, spot_of}
use Rattle.waiting_item.specs.declared.item.Item.{Item as QueueItem}
use Rattle.waiting_queue.proofs.JoiningLemmas.{in_flat, of_flat}
use Rattle.round_work.specs.Onward.{IsTooWide, onward, onward_of, reached_from}
use Rattle.round_work.specs.Survivors.{HasBelow, KeepsSurvivors}
use Rattle.bulk_search.specs.Rounds.{IsOpen, EndsOver, KeepsEnough}

-- ---- what items give along all arcs

-- for each passable arc that leads from the item's node, the arc's head at the cost with the arc's vector added
abbrev pub given_by : Network → Item → List Item
given_by net w = map (reached_from w.spot.node) (relaxed net w.spot.node w.spot.cost)

-- that of all items
abbrev pub all_given : Network → List Item → List Item
all_given net ws = flat_map (given_by net) ws

-- one of the items gives i along this arc
record IsGiven (net : Network) (ws : List Item) (i : Item) : Type 0 where
  pub item : Item
  pub there : Contains ws item
  pub here : Contains (given_by net item) i
  pub arc : ℕ
  pub by : List ℕ
  pub leads : Leads net arc item.spot.node by i.spot.node
  pub cost : i.spot.cost ≡ plus item.spot.cost by
  pub from : i.from ≡ item.spot.node

module _ (net : Network) (ws : List Item) (i : Item) where
  by_item : (w : Item) → Contains ws w → Contains (given_by net w) i → IsGiven net ws i
  by_item w there here =
      let (l, l_in, is) = of_map (reached_from w.spot.node) (relaxed net w.spot.node w.spot.cost) i here in
      let comes = label_of net w.spot.node w.spot.cost l l_in in
      record {
        item = w;
        there = there;
        here = here;
        arc = l.arc.0;
        by = comes.by;
        leads = subst (λ (y : Item). Leads net l.arc.0 w.spot.node comes.by y.spot.node) (sym is) comes.leads;
        cost = ap (λ (y : Item). y.spot.cost) is ∙ comes.cost;
        from = ap (λ (y : Item). y.from) is;
      }

  of_given : Contains (all_given net ws) i → IsGiven net ws i
  of_given there = let (w, w_in, here) = of_flat (given_by net) ws i there in by_item w w_in here

  of_onward : Contains (onward_of net ws) i → IsGiven net ws i
  of_onward there =
      let (w, w_in, here) = of_flat (onward net) ws i there in
      by_item w w_in (of_filter (λ (x : Item). not (nat_eq x.spot.node w.from)) (given_by net w) i here).0

module _ (net : Network) (task : Task) (core : Core) (s : SearchState) (over : task.network ≡ net) (at : IsAt task core s) (ws : List Item)
    (spots : map spot_of ws ≡ core.taken) where
  module _ {i : Item} (g : IsGiven net ws i) where
    -- the label of the machine to which the arc leads
    abbrev label : Label
    label = record { node = i.spot.node; cost = i.spot.cost; arc = g.arc }

    taken : Contains core.taken g.item.spot
    taken = rw (← spots) (in_map spot_of ws g.item g.there)

    has : HasSettled s g.item.spot.node g.item.spot.cost
    has = at.stands.taken g.item.spot taken

    -- the settled label of the item gives it
    follows : Follows task.network has.label label
    follows = record {
      by = g.by;
      leads = subst (λ (n : Network). Leads n g.arc has.label.node g.by i.spot.node) (sym over) (rw has.node g.leads);
      cost = rw has.cost g.cost;
    }

    -- so it arrives
    arrives : IsArrival task.network s label
    arrives =
        let on : LeadsOn task.network has.label.node g.arc = record { by = follows.by; to = i.spot.node; leads = follows.leads } in
        inr (has.label, (at.stands.unrelaxed (has.label, g.arc)).1 (has.settled, rw (has.node, has.cost) taken, on), follows)

    -- its cost is no less in any component
    grown : AtMost g.item.spot.cost i.spot.cost
    grown =
        let sound = sound_if_reached task at.search.is_task s at.reached in
        rw (← has.cost) (grown_from_settled task at.search.is_task s sound has.label label has.settled follows).at_most

    -- and it is as items have to be
    given_kept : IsKeptItem core i
    given_kept = record {
      node = arrives_at_node task core s at label arrives;
      spares = spares_settled task core s at label arrives;
      from = λ _. rw g.from (record { by = g.item.spot.cost; settled = (at.stands.settled g.item.spot.node g.item.spot.cost).1 has; at_most = grown });
    }

  -- what arrives is given by a taken item
  arrival_given : (y : Label) → IsArrival task.network s y → HasSpot (all_given net ws) (as_spot y)
  arrival_given y (inl here) = absurd (none_of_empty s.candidates at.stands.candidates y here)
  arrival_given y (inr (e, unrelaxed, leads)) =
      let (_, there, _) = (at.stands.unrelaxed (e, y.arc)).0 unrelaxed in
      let (w, w_in, is) = of_map spot_of ws (as_spot e) (rw spots there) in
      let i = reached_from e.node (label_over y.arc y.node e.cost leads.by) in
      let gives = in_map (reached_from e.node) (relaxed net e.node e.cost) _ (label_in net e.node e.cost y.arc y.node leads.by (rw (← over) leads.leads)) in
      let here = subst (λ (x : Spot). Contains (map (reached_from x.node) (relaxed net x.node x.cost)) i) is gives in
      (i, in_flat (given_by net) ws w i w_in here, rw leads.cost refl)

  -- what the items give is just what arrives
  are_arrivals : AreArrivals task.network s (all_given net ws)
  are_arrivals = λ x. (
    λ (i, there, is). let g = of_given net ws i there in (label g, arrives g, is),
    λ (y, arrives, is). subst (HasSpot (all_given net ws)) is (arrival_given y arrives),
  )

-- ---- what leads onward is among it, and the rest is spent

module _ (net : Network) (is_net : IsNetwork net) (core : Core) (round : IsOpen net core) (ws : List Item) (spots : map spot_of ws ≡ core.taken)
    (from : All (IsFrom core) ws) where
  others : (i : Item) → Contains (all_given net ws) i → Contains (onward_of net ws) i ⊎ IsSpent core i.spot
  others i there =
      let g = of_given net ws i there in
      let w = g.item in
      elim (cases_Bool (nat_eq i.spot.node w.from)) [
        | inr other ↦ inl (in_flat (onward net) ws w i g.there
            (in_filter (λ (x : Item). not (nat_eq x.spot.node w.from)) (given_by net w) i g.here (ap not other)))
        | inl straight ↦
            let back : i.spot.node ≡ w.from = grind (arith, nat_tests) in
            let node = leads_to_node net is_net g.arc w.spot.node i.spot.node g.by g.leads in
            let some : w.from ≢ 0 = λ none. omega (arith, none, back, node) in
            let less = grown net round.task core round.state round.over round.at ws spots g in
            inr (subst (λ v. IsSpent core (record { cost = i.spot.cost; node = v })) (sym back)
            (way_back_spent core w i.spot.cost (each_in (IsFrom core) ws from w g.there) some less))
      ]

  -- what leads onward is as items have to be
  pub onward_kept : (i : Item) → Contains (onward_of net ws) i → IsKeptItem core i
  onward_kept i there = given_kept net round.task core round.state round.over round.at ws spots (of_onward net ws i there)

  module _ (Open : Spot → Type 0) (kept : List Item) (keeps : KeepsEnough Open (onward_of net ws) kept) where
    -- so is what is kept of it
    pub kept_items : All (IsKeptItem core) kept
    kept_items = all_from_in (IsKeptItem core) kept (λ i there. onward_kept i (keeps.among i there))

    -- where enough of it is put into the queue, all that arrives is
    puts_arrivals : ((x : Spot) → ¬ Open x → IsSpent core x) → (after : Core) → PutsAll kept core after → PutsAll (all_given net ws) core after
    puts_arrivals closed after puts = record {
      same_search = puts.same_search;
      settled = puts.settled;
      none_taken = puts.none_taken;
      put = puts.put;
      queue = puts.queue;
      among = λ x there.
          let (i, i_in, is) = puts.among x there in
          let g = of_onward net ws i (keeps.among i i_in) in (i, in_flat (given_by net) ws g.item i g.there g.here, is);
      rest = λ x (i, i_in, is). subst (λ y. IsSpent core y ⊎ HasItemBelow puts.put y) is (elim (others i i_in) [
        | inr spent ↦ inl spent
        | inl on ↦ elim (keeps.rest i on) [ inl shut ↦ inl (closed i.spot shut) | inr b ↦ put_below i.spot b (puts.rest b.by.spot (b.by, b.member, refl)) ]
      ]);
    } where
      put_below : (x : Spot) (b : HasBelow spot_of kept x) → IsSpent core b.by.spot ⊎ HasItemBelow puts.put b.by.spot → IsSpent core x ⊎ HasItemBelow puts.put x
      put_below x b (inl (inl covered)) = inl (inl (covered_below core b.by.spot x b.node b.at_most covered))
      put_below x b (inl (inr barred)) = inl (inr (barred_below core b.by.spot.cost x.cost b.at_most barred))
      put_below x b (inr put) =
          let less = AtMost-trans put.spot.cost b.by.spot.cost x.cost put.at_most b.at_most in
          inr (record { spot = put.spot; there = put.there; node = put.node ∙ b.node; at_most = less })

  -- and the round has ended
  pub ends_over : (Open : Spot → Type 0) → ((x : Spot) → ¬ Open x → IsSpent core x) → (kept : List Item) (after : Core)
      → KeepsEnough Open (onward_of net ws) kept → PutsAll kept core after → EndsOver net core after
  ends_over Open closed kept after keeps puts =
      let all = puts_arrivals Open kept keeps closed after puts in
      record {
        same_search = puts.same_search;
        none_taken = puts.none_taken;
        outcome = λ task s end over at outcome.
            (finishes_round (all_given net ws) core after all).outcome task s end at (are_arrivals net task core s over at ws spots) (rw over outcome);
      }

-- ---- what workers keep is enough

pub keeps_all : (Open : Spot → Type 0) (candidates : List Item) → KeepsEnough Open candidates candidates
keeps_all Open candidates = record {
  among = λ i there. there;
  rest = λ i there. inr (record { by = i; member = there; node = refl; at_most = AtMost-refl i.spot.cost });
}

pub keeps_survivors : (Open : Spot → Type 0) (candidates kept : List Item) → KeepsSurvivors spot_of Open candidates kept → KeepsEnough Open candidates kept
keeps_survivors Open candidates kept keeps = record { among = keeps.among; rest = keeps.rest }

-- what isn't open for a look that tells what is spent, is spent
pub closed_is_spent : (core : Core) (Spent : Spot → Type 0) → ((x : Spot) → Spent x ↔ IsSpent core x) → (x : Spot) → ¬ (¬ Spent x) → IsSpent core x
closed_is_spent core Spent agrees x closed = elim (decidable_spent core x) [
  | inl spent ↦ spent
  | inr unspent ↦ absurd (closed (λ spent. unspent ((agrees x).0 spent)))
]

-- ---- the items of an open round at some width

-- they are of nodes
pub items_at_nodes : {C : Type 0} (components : C → List ℕ) (net : Network) (core : Core) (items : List (QueueItem C)) → IsOpen net core
    → map (spot_in components) items ≡ core.taken → All (λ i. IsNode net.nodes i.node.0) items
items_at_nodes {C} components net core items round spots = all_from_in (λ (i : QueueItem C). IsNode net.nodes i.node.0) items (λ i i_in.
    let taken : Contains core.taken (spot_in components i) = rw (← spots) (in_map (spot_in components) items i i_in) in
    rw (← round.over, round.at.search.nodes) (taken_at_node round.task core round.state round.at (spot_in components i) taken))

-- where some sum has no room, the width is less than 63 bits
pub too_wide_below : (net : Network) → AreSmall net.states → (core : Core) → IsOpen net core → (ws : List Item) → map spot_of ws ≡ core.taken
    → (bound : ℕ) → IsTooWide bound (onward_of net ws) → bound < 2 ^ 63
too_wide_below net weights core round ws spots bound wide = elim (cases_lt bound (2 ^ 63)) [
  | inl less ↦ less
  | inr above ↦
      let g = of_onward net ws wide.one wide.member in
      let there = taken net round.task core round.state round.over round.at ws spots g in
      let sums = taken_is_small round.task core round.state round.at g.item.spot core.budget (rw round.over weights) round.within there in
      let small = small_by net weights g.arc g.item.spot.node wide.one.spot.node g.by g.leads in
      let most = All-weaker (λ x. x < 2 ^ 32) (λ x. x ≤ 2 ^ 32 - 1) (λ x less. omega (arith, less)) g.by small in
      let all = All-plus (core.budget * (2 ^ 32 - 1)) (2 ^ 32 - 1) g.item.spot.cost g.by sums most in
      let fits = λ (x : ℕ) (less : x ≤ core.budget * (2 ^ 32 - 1) + (2 ^ 32 - 1)). let below : x < bound = omega (arith, less, above, round.most) in below in
      absurd (wide.exceeds (rw g.cost (All-weaker _ (λ x. x < bound) fits (plus g.item.spot.cost g.by) all)))
]
