-- What a round's second half keeps of the state at which it starts: its settled labels, and an entry below all that was there or arrives.
use Rattle.std.proofs.Common.{arith, ◌⊎◌, ◌↔◌, ℕ, List, inl, inr, Contains}
use Rattle.list_laws.proofs.SetLaws.{none_of_empty}
use Rattle.event_machine.specs.Machine.{Task, IsTask, SearchState, HasSettled, IsEntry, settled}
use Rattle.road_network.specs.Labels.{Label}
use Rattle.event_machine.specs.Events.{Event, IsReached, Runs}
use Rattle.event_machine.specs.Orders.{IsArrival, IsOutcome}
use Rattle.event_machine.proofs.Sound.{IsCovered, IsMet, IsSound, covered_by_itself}
use Rattle.event_machine.proofs.Keeping.{Changes, changes_of, met_after, same_changes, sound_by_changes}
use Rattle.event_machine.proofs.Running.{along_run, reached_by_run, runs_on}
use Rattle.event_machine.proofs.CompletesLaws.{finishes_is_outcome}

-- m is sound, and keeps what s has settled and what is met there
record KeepsMet (task : Task) (s m : SearchState) : Type 0 where
  pub sound : IsSound task m
  pub kept : (y : Label) → Contains s.settled y → Contains m.settled y
  pub met : (y : Label) → IsMet task.network s y → IsMet task.network m y

module _ (task : Task) (is : IsTask task) (s : SearchState) (sound : IsSound task s) where
  kept_on : (a b : SearchState) → KeepsMet task s a → Changes task a b → KeepsMet task s b
  kept_on a b h changes = search (sound_by_changes task is a b h.sound changes, changes.entries.kept, h.kept, met_after task is a b h.sound changes, h.met)

  module _ (end : SearchState) (outcome : IsOutcome task.network s end) where
    some_run : (events : List Event) × Runs task s events end
    some_run = let f = (finishes_is_outcome task is s sound end).1 outcome in (_, runs_on task s f.relaxed end _ _ f.relaxing_all f.merging_all)

    at_end : KeepsMet task s end
    at_end = let (events, run) = some_run in along_run task (λ _ m. KeepsMet task s m)
        (λ _ a b same h. kept_on a b h (same_changes task is a b h.sound same)) (λ e _ a b h step. kept_on a b h (changes_of task is a b h.sound e step))
        events s end (record { sound = sound; kept = λ y there. there; met = λ y there. there }) run

    pub end_is_reached : IsReached task s → IsReached task end
    end_is_reached reached = let (events, run) = some_run in reached_by_run task s end events reached run

    -- what was an entry or arrives has an entry of its node below it at the end
    pub met_at_end : (y : Label) → IsEntry s y ⊎ IsArrival task.network s y → IsCovered end y
    met_at_end y (inl entry) = grind (arith, at_end.met y (inr (covered_by_itself s y entry)), none_of_empty)
    met_at_end y (inr arrives) = grind (arith, at_end.met y (inl arrives), none_of_empty)

    -- the same costs are settled
    pub settled_stay : (v : ℕ) (c : List ℕ) → HasSettled s v c ↔ HasSettled end v c
    settled_stay v c = (λ h. grind (arith, at_end.kept h.label h.settled), λ h. grind (arith, (outcome.entries settled h.label).0 h.settled))
