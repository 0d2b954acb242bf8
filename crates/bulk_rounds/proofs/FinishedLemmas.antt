-- How a round ends: what is put into the queue is what each order of the machine's relaxes and merges leaves waiting.
use Rattle.std.proofs.Common.{◌≡◌, ◌⊎◌, List, inl, inr, refl, sym, ap, subst, ◌∙◌, arith, Contains}
use Rattle.cost_vector.specs.Costs.{AtMost}
use Rattle.cost_vector.proofs.Vectors.{AtMost-refl, AtMost-trans}
use Rattle.list_laws.proofs.OnceLaws.{alike_through}
use Rattle.list_laws.proofs.SetLaws.{none_of_empty}
use Rattle.event_machine.specs.Machine.{Task, SearchState, IsEntry, settled, dropped, waiting}
use Rattle.road_network.specs.Labels.{Label}
use Rattle.event_machine.specs.Orders.{IsArrival, IsOutcome, Survives}
use Rattle.event_machine.proofs.Sound.{cases_below, same_pair}
use Rattle.event_machine.proofs.CompletesLaws.{completes_to_outcome}
use Rattle.event_machine.proofs.MetLemmas.{end_is_reached, met_at_end, settled_stay}
use Rattle.bulk_rounds.specs.Cores.{Core, HasSpot, IsSpent, Item, Spot, Waits}
use Rattle.bulk_rounds.specs.Standing.{IsAt, as_spot}
use Rattle.bulk_rounds.specs.Finishes.{AreArrivals, FinishesRound, PutsAll}
use Rattle.bulk_rounds.proofs.SpentLemmas.{HasEntryBelow, sound, spent_on, spot_by_parts, stands_by}
use Rattle.bulk_rounds.proofs.BegunLemmas.{same_task}

module _ (task : Task) (candidates : List Item) (before after : Core) (s end : SearchState) (puts : PutsAll candidates before after)
    (at : IsAt task before s) (arrivals : AreArrivals task.network s candidates) (outcome : IsOutcome task.network s end) where
  still_spent : (x : Spot) → IsSpent before x → IsSpent after x
  still_spent = spent_on before after puts.same_search (λ x there. rw puts.settled there)

  -- an entry or an arrival below a spot has an entry below it
  entry_below : (x : Spot) (y : Label) → IsEntry s y ⊎ IsArrival task.network s y → y.node ≡ x.node → AtMost y.cost x.cost → HasEntryBelow end x
  entry_below x y present node below =
      let by = met_at_end task at.search.is_task s (sound task before s at) end outcome y present in
      (by.entry, by.is_entry, by.covers.node ∙ node, AtMost-trans by.entry.cost y.cost x.cost by.covers.cost below)

  end_waiting_of : (x : Spot) → Waits after x → IsSpent after x ⊎ HasEntryBelow end x
  end_waiting_of x waits = elim ((puts.queue x).0 waits) [
    | inl old ↦ elim (at.stands.waiting_of x old) [
      | inl spent ↦ inl (still_spent x spent)
      | inr below ↦ inr (entry_below x below.label (inl (waiting, below.waits)) below.node below.at_most)
    ]
    | inr put ↦
        let (y, arrives, same) = (arrivals x).0 (puts.among x put) in
        inr (subst (HasEntryBelow end) same (entry_below (as_spot y) y (inr arrives) refl (AtMost-refl y.cost)))
  ]

  -- an arrival that survives
  arrival_waits : (y : Label) → IsArrival task.network s y → Survives task.network s y → Waits after (as_spot y) ⊎ IsSpent after (as_spot y)
  arrival_waits y arrives survives = elim (puts.rest (as_spot y) ((arrivals (as_spot y)).1 (y, arrives, refl))) [
    | inl spent ↦ inr (still_spent (as_spot y) spent)
    | inr below ↦
        let (l, l_arrives, same) = (arrivals below.spot).0 (puts.among below.spot below.there) in
        let at_most = subst (λ (z : Spot). AtMost z.cost y.cost) (sym same) below.at_most in
        elim (cases_below l y (ap (λ (z : Spot). z.node) same ∙ below.node) at_most) [
          | inr beats ↦ absurd (survives.unbeaten l (inr l_arrives) beats)
          | inl pair ↦
              let one = sym same ∙ spot_by_parts (as_spot l) (as_spot y) pair.node pair.cost in
              inl ((puts.queue (as_spot y)).1 (inr (subst (HasSpot puts.put) one below.there)))
        ]
  ]

  end_waiting_in : (y : Label) → Contains end.waiting y → Waits after (as_spot y) ⊎ IsSpent after (as_spot y)
  end_waiting_in y there = let (survives, (unsettled, undropped)) = (outcome.entries waiting y).0 there in elim survives.present [
    | inl (settled, here) ↦ let same = same_pair y y refl in grind arith
    | inl (dropped, here) ↦ let same = same_pair y y refl in grind arith
    | inl (waiting, here) ↦ elim (at.stands.waiting_in y here) [
      | inl waits ↦ inl ((puts.queue (as_spot y)).1 (inl waits))
      | inr barred ↦ inr (still_spent (as_spot y) (inr barred))
    ]
    | inr arrives ↦ arrival_waits y arrives survives
  ]

  -- the core stands for the outcome
  finish_stands : IsAt task after end
  finish_stands = stands_by task after end (same_task task before after puts.same_search at.search)
      (λ v c. rw puts.settled (alike_through (at.stands.settled v c) (settled_stay task at.search.is_task s (sound task before s at) end outcome v c)))
      (end_is_reached task at.search.is_task s (sound task before s at) end outcome at.reached) end_waiting_in end_waiting_of
      (λ p. let no_arc = none_of_empty end.unrelaxed outcome.unrelaxed p in let none = none_of_empty after.taken puts.none_taken (as_spot p.0) in grind arith)
      outcome.candidates (λ x there. absurd (none_of_empty after.taken puts.none_taken x there))

-- and for the state to which each order of the round's events leads
pub finishes_round : (candidates : List Item) (before after : Core) → PutsAll candidates before after → FinishesRound candidates before after
finishes_round candidates before after puts = record {
  outcome = λ task s end at arrivals outcome. finish_stands task candidates before after s end puts at arrivals outcome;
  each_order = λ task s end events at arrivals completes run.
      let outcome = (completes_to_outcome task at.search.is_task s (sound task before s at) events completes end).0 run in
      finish_stands task candidates before after s end puts at arrivals outcome;
}
