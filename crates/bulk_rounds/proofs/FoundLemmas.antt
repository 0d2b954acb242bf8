-- What follows for the spots of a core from the state for which it stands; the start of each search, and what is found at its end.
use Rattle.std.proofs.Common.{◌≡◌, ◌≢◌, ◌↔◌, ℕ, List, [], Option, replicate, inl, inr, refl, sym, ap, subst, ◌∙◌, Contains}
use Rattle.cost_vector.specs.Costs.{AtMost}
use Rattle.cost_vector.proofs.Vectors.{AtMost-Dominates, AtMost-refl, AtMost-trans}
use Rattle.list_laws.specs.Sets.{HasMoreThan}
use Rattle.list_laws.proofs.Members.{in_first, in_none, in_one}
use Rattle.list_laws.proofs.OnceLaws.{alike_through}
use Rattle.list_laws.proofs.SetLaws.{none_of_empty}
use Rattle.road_network.specs.Network.{AreSmall, IsNode}
use Rattle.road_network.specs.Answers.{IsRelevant}
use Rattle.road_network.specs.Walks.{IsSumOf}
use Rattle.road_network.specs.Labels.{Label}
use Rattle.road_network.proofs.WalkLaws.{leads_to_node, node_of_walk}
use Rattle.event_machine.specs.Machine.{Task, SearchState, HasSettled, has_arc, settled, waiting, start_label, start_state}
use Rattle.event_machine.specs.Orders.{IsArrival, IsGiven}
use Rattle.event_machine.proofs.Sound.{all_settled, grown_from_settled, known_is_bounded}
use Rattle.event_machine.proofs.Running.{same_itself}
use Rattle.bulk_rounds.specs.Cores.{Core, IsNewSearch, IsSpent, Item, Spot, costs_at, start_spot}
use Rattle.bulk_rounds.specs.Standing.{IsAt, IsSearchOf, as_spot}
use Rattle.bulk_rounds.specs.Taking.{IsOpenIn}
use Rattle.bulk_rounds.specs.Kept.{IsFrom, SparesSettled}
use Rattle.bulk_rounds.proofs.SpentLemmas.{HasEntryBelow, sound, spot_by_parts, stands_by}
use Rattle.bulk_rounds.proofs.BegunLemmas.{between, none_stay}

-- what an item gives to the node from which it came is spent
pub way_back_spent : (core : Core) (i : Item) (c : List ℕ) → IsFrom core i → i.from ≢ 0 → AtMost i.spot.cost c
    → IsSpent core (record { cost = c; node = i.from })
way_back_spent core i c from other below =
    let covered = from other in
    inl (record { by = covered.by; settled = covered.settled; at_most = AtMost-trans covered.by i.spot.cost c covered.at_most below })

module _ (task : Task) (core : Core) (s : SearchState) (at : IsAt task core s) where
  -- ---- arrivals

  -- an arc that leads from a settled label gives what arrives
  given : (x : Label) → IsArrival task.network s x → IsGiven task.network s x
  given x (inl there) = absurd (none_of_empty s.candidates at.stands.candidates x there)
  given x (inr is) = is

  -- it arrives at a node
  pub arrives_at_node : (x : Label) → IsArrival task.network s x → IsNode core.nodes x.node
  arrives_at_node x arrives =
      let (e, _, follows) = given x arrives in
      rw (← at.search.nodes) (leads_to_node task.network at.search.is_task.network x.arc e.node x.node follows.by follows.leads)

  -- and its cost dominates no settled one
  pub spares_settled : (x : Label) → IsArrival task.network s x → SparesSettled core (as_spot x)
  spares_settled x arrives c there less =
      let l = (at.stands.settled x.node c).0 there in
      let (e, to_do, follows) = given x arrives in
      let is_sound = sound task core s at in
      let grown = grown_from_settled task at.search.is_task s is_sound e x (is_sound.paired e x.arc to_do).0 follows in
      is_sound.undominated l.label e l.settled (has_arc x.arc to_do) (rw l.cost (AtMost-Dominates e.cost x.cost c grown.at_most less))

  -- ---- taken spots

  -- a taken cost is a small sum
  pub taken_is_small : (x : Spot) (n : ℕ) → AreSmall task.network.states → ¬ HasMoreThan n s.settled → Contains core.taken x → IsSumOf n x.cost
  taken_is_small x n small few there =
      let l = at.stands.taken x there in
      subst (IsSumOf n) l.cost (known_is_bounded task at.search.is_task small s (sound task core s at) l.label n few (inl (settled, l.settled)))

  -- what is settled is relevant
  settled_is_relevant : (v : ℕ) (c : List ℕ) → HasSettled s v c → IsRelevant task.network task.start task.target task.limit v c
  settled_is_relevant v c l = rw (← l.node, ← l.cost) ((sound task core s at).relevant l.label l.settled)

  -- a taken cost is relevant
  pub taken_is_relevant : (x : Spot) → Contains core.taken x → IsRelevant task.network task.start task.target task.limit x.node x.cost
  taken_is_relevant x there = settled_is_relevant x.node x.cost (at.stands.taken x there)

  -- a taken spot is of a node
  pub taken_at_node : (x : Spot) → Contains core.taken x → IsNode core.nodes x.node
  taken_at_node x there =
      let reached = (taken_is_relevant x there).best.reached in
      rw (← at.search.nodes) (node_of_walk task.network at.search.is_task.network reached.0 task.start x.node x.cost reached.1)

  -- ---- the end

  -- where none is open, all that is relevant is settled
  pub has_all : core.taken ≡ [] → ((x : Spot) → ¬ IsOpenIn core x) → (v : ℕ) (c : List ℕ)
      → Contains (costs_at core v) c ↔ IsRelevant task.network core.start core.target core.limit v c
  has_all none_taken none_open v c = rw (← at.search.start, ← at.search.target, ← at.search.limit) (alike_through (at.stands.settled v c) (
    settled_is_relevant v c,
    all_settled task at.search.is_task s (sound task core s at) at.stands.candidates (between task core s at none_taken).unrelaxed
        (none_stay task core s at none_open) v c,
  ))

-- ---- the start

module _ (nodes criteria start target : ℕ) (limit : List (Option ℕ)) (budget : ℕ) (core : Core) (task : Task)
    (is : IsNewSearch nodes criteria start target limit budget core) (search : IsSearchOf task core) where
  same_start : as_spot (start_label task) ≡ start_spot core
  same_start = spot_by_parts (as_spot (start_label task)) (start_spot core) search.start (ap (λ n. replicate n 0) search.criteria)

  -- a new search stands for the start
  pub at_start : IsAt task core (start_state task)
  at_start = stands_by task core (start_state task) search
      (λ v c. (λ there. absurd (is.none_settled (record { cost = c; node = v }) there), λ h. absurd (in_none h.label h.settled)))
      (record { events = []; run = same_itself (start_state task) })
      (λ y there. inl ((is.waiting (as_spot y)).1 (ap as_spot (in_one (start_label task) y there) ∙ same_start)))
      (λ x waits. inr (subst (HasEntryBelow (start_state task)) (same_start ∙ sym ((is.waiting x).0 waits))
      (start_label task, (waiting, in_first (start_label task) []), refl, AtMost-refl (start_label task).cost)))
      (λ p. (λ h. absurd (in_none p h), λ h. absurd (in_none p.0 h.0))) refl (λ x there. absurd (none_of_empty core.taken is.none_taken x there))
