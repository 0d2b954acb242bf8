-- What arcs give from an item on, and which arcs lead on.
use Rattle.std.proofs.Common.{◌≡◌, ℕ, ◌+◌, ◌-◌, ◌<◌, ◌≤◌, List, Option, Some, None, length, get_or, inl, inr, ◌⊎◌, refl, sym, ap, subst, ◌∙◌, arith}
use Rattle.std.specs.Prelude.{Contains, slice_get}
use Rattle.std.specs.Option.{option_and_then, option_map_or}
use Rattle.std.proofs.lemmas.Option.{slice_get_within}
use Rattle.std.proofs.lemmas.Bool.{cases_lt}
use Rattle.std.proofs.lemmas.List.{get_or_default}
use Rattle.std.proofs.lemmas.List.Elements.{Contains-get_or}
use Rattle.cost_vector.specs.Costs.{plus}
use Rattle.cost_vector.specs.declared.label.ArcNo.{ArcNo}
use Rattle.road_network.specs.Network.{Network, Leads}
use Rattle.road_network.proofs.Reached.{leads_alike}
use Rattle.arc_graph.specs.Graph.{arc_state, head_of, out_arcs_of}
use Rattle.arc_graph.proofs.NumbersLemmas.{in_numbers, of_numbers}
use Rattle.goal_bounds.proofs.ArcLemmas.{leads_over}
use Rattle.waiting_item.specs.Waiting.{Spot}
use Rattle.sweep_core.specs.Potentials.{IsConsistent, Potential}
use Rattle.sweep_core.specs.Relaxing.{IsGivenFrom}
use Rattle.sweep_core.specs.Sweeps.{IsLifted, IsOutOf}
use Rattle.sweep_core.proofs.Lifted.{one_cost}

-- ---- what an arc gives

-- it is at the arc's head
pub given_at_head : (net : Network) (P : Potential) (x y : Spot) (a : ArcNo) → IsGivenFrom net P x a.0 y → y.node ≡ head_of net.ends a
given_at_head net P x y a given = sym (ap (λ o. option_map_or (λ (e : ℕ × ℕ). e.1) o 0) given.leads.ends)

-- an arc gives one spot alone
pub one_given : (net : Network) (t : ℕ) (P : Potential) → IsConsistent net t P → (x : Spot) (k : ℕ) (y z : Spot) → IsGivenFrom net P x k y → IsGivenFrom net P x k z
    → y ≡ z
one_given net t P is x k y z first second =
    let both = leads_alike net k x.node y.node x.node z.node first.by second.by first.leads second.leads in
    let cost = one_cost net t P is x first.is_lifted second.is_lifted in
    let height = is.one z.node first.height second.height (subst (λ v. P v first.height) both.2 first.has) second.has in
    let sum : plus (plus first.is_lifted.cost first.by) first.height ≡ plus (plus second.is_lifted.cost second.by) second.height =
    ap (λ c. plus (plus c first.by) first.height) cost ∙ ap (λ w. plus (plus second.is_lifted.cost w) first.height) both.1
    ∙ ap (plus (plus second.is_lifted.cost second.by)) height in
    let same : y.cost ≡ z.cost = first.cost ∙ sum ∙ sym second.cost in
    λ p. record { cost = same p; node = both.2 p }

-- a passable arc gives its head, where that has a height
pub gives : (net : Network) (P : Potential) (x : Spot) (b : IsLifted net P x) (a : ArcNo) → IsOutOf net.ends x.node a → (w h : List ℕ)
    → arc_state net.states a ≡ Some w → P (head_of net.ends a) h → (y : Spot) → y.node ≡ head_of net.ends a → y.cost ≡ plus (plus b.cost w) h
    → IsGivenFrom net P x a.0 y
gives net P x b a out w h passable has y at sum = record {
  is_lifted = b;
  by = w;
  height = h;
  leads = subst (Leads net a.0 x.node w) (sym at)
      (subst (λ u. Leads net a.0 u w (head_of net.ends a)) out.tail (leads_over net a out.counted out.there w passable));
  has = subst (λ v. P v h) (sym at) has;
  cost = sum;
}

-- a shut one gives nothing
pub shut_gives_none : (net : Network) (P : Potential) (x : Spot) (a : ArcNo) (y : Spot) → arc_state net.states a ≡ None → ¬ IsGivenFrom net P x a.0 y
shut_gives_none net P x a y shut given =
    let none : None ≡ Some given.by = sym shut ∙ ap (option_and_then (λ (s : Option (List ℕ)). s)) given.leads.passable in
    let zero : ℕ = 0 in
    absurd (omega (arith, ap (λ (o : Option (List ℕ)). option_map_or (λ w. zero) o 1) none))

-- ---- the arcs that lead on from a node

-- k is one of the first i arcs
abbrev pub IsAmong : List ArcNo → ℕ → ℕ → Type 0
IsAmong arcs i k = (n : ℕ) × (n < i) × ((get_or arcs n (record { 0 = 0 })).0 ≡ k)

pub among_one_more : (arcs : List ArcNo) (i k : ℕ) → IsAmong arcs (i + 1) k → IsAmong arcs i k ⊎ (k ≡ (get_or arcs i (record { 0 = 0 })).0)
among_one_more arcs i k among = elim (cases_lt among.0 i) [
  | inl earlier ↦ inl (among.0, earlier, among.2)
  | inr here ↦
      let at : among.0 ≡ i = omega (arith, among.1, here) in
      inr (sym (subst (λ n. (get_or arcs n (record { 0 = 0 })).0 ≡ k) at among.2))
]

pub among_out_arcs : (net : Network) (arcs : List ArcNo) (i k u v : ℕ) (w : List ℕ) → arcs ≡ out_arcs_of net.ends u → length arcs ≤ i → Leads net k u w v
    → IsAmong arcs i k
among_out_arcs net arcs i k u v w whole ended arc =
    let number : 1 + (k - 1) ≡ k = omega (arith, arc.counted) in
    let listed = subst (λ n. Contains (out_arcs_of net.ends u) (record { 0 = n })) number (in_numbers 1 net.ends u (k - 1) v arc.ends) in
    let there = subst (λ xs. Contains xs (record { 0 = k })) (sym whole) listed in
    (there.0, omega (arith, there.1, ended), ap (λ (y : ArcNo). y.0) (get_or_default arcs there.0 (record { 0 = 0 }) (record { 0 = k }) there.1 ∙ there.2))

pub out_arc_at : (ends : List (ℕ × ℕ)) (u : ℕ) (arcs : List ArcNo) (i : ℕ) (d : ArcNo) → arcs ≡ out_arcs_of ends u → i < length arcs → IsOutOf ends u (get_or arcs i d)
out_arc_at ends u arcs i d all within =
    let a = get_or arcs i d in
    let at = of_numbers 1 ends u a (subst (λ xs. Contains xs a) all (Contains-get_or arcs i d within)) in
    let inside = slice_get_within ends at.place (u, at.head) at.ends in
    let place : at.place ≡ a.0 - 1 = omega (arith, at.number) in
    let got : slice_get ends (a.0 - 1) ≡ Some (u, at.head) = subst (λ n. slice_get ends n ≡ Some (u, at.head)) place at.ends in
    record { counted = omega (arith, at.number); there = omega (arith, at.number, inside); tail = rw got refl }

-- the cost of a spot is that of a walk with whatever is the height of its node added
pub sum_with : (net : Network) (t : ℕ) (P : Potential) → IsConsistent net t P → (x : Spot) (b : IsLifted net P x) (own : List ℕ) → P x.node own → x.cost ≡ plus b.cost own
sum_with net t P is x b own has = b.sum ∙ ap (plus b.cost) (is.one x.node b.height own b.has has)
