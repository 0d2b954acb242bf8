-- How a round begins, by values: so it is said of each core, whether or not it stands for a state of the event machine.
use Rattle.std.specs.Prelude.{◌≡◌, ◌≢◌, ℕ, ◌+◌, ◌<◌, ◌≤◌, ◌⊎◌, ◌↔◌, List, [], Result, Ok, length, Contains}
use Rattle.out_of_memory.specs.declared.OutOfMemory.{OutOfMemory}
use Rattle.bulk_rounds.specs.declared.begin.Begun.{Begun}
use Rattle.bulk_rounds.specs.declared.begin.Begun.TheVariants.{Taken, Done, Budget}
use Rattle.bulk_rounds.specs.Cores.{Core, IsSettledIn, IsSpent, Item, SameSearch, Spot, Waits}
use Rattle.bulk_rounds.specs.Taking.{CountsSettled, IsOpenIn, ListsNext}

-- What waited waits still, or its spot is spent now; and nothing else waits.
pub record LosesSpent (before after : Core) : Type 0 where
  pub was : (i : Item) → Contains after.queue i → Contains before.queue i
  pub gone : (x : Spot) → Waits before x → Waits after x ⊎ IsSpent after x

-- some spot is open
abbrev pub SomeOpen : Core → Type 0
SomeOpen core = (x : Spot) × IsOpenIn core x

-- exactly the next spots were taken, and are settled now beside those that were, as many as the budget allows
pub record TakesNext (before after : Core) : Type 0 where
  pub same_search : SameSearch before after
  pub some_open : SomeOpen before
  pub taken : ListsNext before after.taken
  pub settled : (x : Spot) → IsSettledIn after x ↔ (IsSettledIn before x ⊎ Contains after.taken x)
  pub queue : LosesSpent before after
  pub count : ℕ
  pub counts : CountsSettled before count
  pub within : count + length after.taken ≤ before.budget

-- no spot is open: nothing waits any more, and all else is as it was
pub record FindsNone (before after : Core) : Type 0 where
  pub same_search : SameSearch before after
  pub none_open : (x : Spot) → ¬ IsOpenIn before x
  pub settled : (x : Spot) → IsSettledIn after x ↔ IsSettledIn before x
  pub none_waits : after.queue ≡ []
  pub none_taken : after.taken ≡ []

-- with the next spots more would be settled than the budget
pub record WouldPass (before : Core) : Type 0 where
  pub some_open : SomeOpen before
  pub next : List Spot
  pub lists : ListsNext before next
  pub count : ℕ
  pub counts : CountsSettled before count
  pub beyond : before.budget < count + length next

-- what each answer says; where the budget would be passed, the search is only to be let go
abbrev pub BeginsAs : Core → Core → Begun → Type 0
BeginsAs before after Taken = TakesNext before after
BeginsAs before after Done = FindsNone before after
BeginsAs before after Budget = WouldPass before

-- A step was counted where spots were taken or would have passed the budget, at most one in any case, and none where no
-- spot is open.
pub record CountsRound (before : Core) (result : Result Begun OutOfMemory) (old new : ℕ) : Type 0 where
  pub counted : (begun : Begun) → result ≡ Ok begun → begun ≢ Done → new ≡ old + 1
  pub uncounted : result ≡ Ok Done → new ≡ old
  pub at_most_one : new ≤ old + 1
  pub no_less : old ≤ new
  pub some_open : old < new → SomeOpen before
