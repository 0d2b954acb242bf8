-- Runs: which states are the same, that runs go on from and to same states, and that runs follow one another.
use Rattle.std.proofs.Common.{ℕ, ◌⊎◌, List, [], ◌∷◌, ◌++◌, ◌↔◌, arith, Contains}
use Rattle.std.proofs.lemmas.List.Sorted.{IsPermutation-refl, IsPermutation-sym, IsPermutation-trans}
use Rattle.cost_vector.specs.Costs.{Within}
use Rattle.list_laws.proofs.OnceLaws.{alike_back, alike_through}
use Rattle.event_machine.specs.Machine.{Place, Task, SearchState, settled, start_state, waiting, IsBeatenAtTarget}
use Rattle.road_network.specs.Labels.{Label}
use Rattle.event_machine.specs.Events.{Event, IsReached, IsSame, MayDrop, Happens, Runs}

-- ---- same states

-- to be the same is an equivalence
pub same_itself : (s : SearchState) → IsSame s s
same_itself s = grind (arith, IsPermutation-refl)

pub same_back : (a b : SearchState) → IsSame a b → IsSame b a
same_back a b same = search (IsPermutation-sym, λ (p : Place) (y : Label). alike_back (same.entries p y), λ (p : Label × ℕ). alike_back (same.unrelaxed p))

pub same_through : (a b c : SearchState) → IsSame a b → IsSame b c → IsSame a c
same_through a b c first second =
    let entries = λ (p : Place) (y : Label). alike_through (first.entries p y) (second.entries p y) in
    let unrelaxed = λ (p : Label × ℕ). alike_through (first.unrelaxed p) (second.unrelaxed p) in search (entries, unrelaxed, IsPermutation-trans)

-- what is beyond the limit or beaten at the target stays so where no settled label goes
pub useless_on : (task : Task) (a b : SearchState) → ((y : Label) → Contains a.settled y → Contains b.settled y) → (c : List ℕ)
    → (¬ Within task.limit c) ⊎ IsBeatenAtTarget task a c → (¬ Within task.limit c) ⊎ IsBeatenAtTarget task b c
useless_on task a b kept c = grind arith

-- what may be dropped in one of two same states may be dropped in the other
pub drop_alike : (task : Task) (a b : SearchState) → IsSame a b → (l : Label) → MayDrop task a l → MayDrop task b l
drop_alike task a b same l h = search ((same.entries waiting l).0 h.waits, useless_on task a b (λ y. (same.entries settled y).0) l.cost h.useless)

-- ---- runs

module _ (task : Task) where
  -- a run from or to a state is one from or to each same state
  pub runs_from_same : (a b c : SearchState) (events : List Event) → IsSame b a → Runs task b events c → Runs task a events c
  runs_from_same a b c [] same run = same_through c b a run same
  runs_from_same a b c (event ∷ rest) same run = search (same_through)

  pub runs_to_same : (a b c : SearchState) (events : List Event) → Runs task a events b → IsSame c b → Runs task a events c
  runs_to_same a b c [] run same = same_through c b a same run
  runs_to_same a b c (event ∷ rest) run same = search (runs_to_same run.next b c rest run.rest same)

  -- two runs one after the other
  pub runs_on : (a b c : SearchState) (events more : List Event) → Runs task a events b → Runs task b more c → Runs task a (events ++ more) c
  runs_on a b c [] more run next = runs_from_same a b c more run next
  runs_on a b c (event ∷ rest) more run next = search (runs_on run.next b c rest more run.rest next)

  -- what events lead to from a state that is reached is reached
  pub reached_by_run : (s next : SearchState) (events : List Event) → IsReached task s → Runs task s events next → IsReached task next
  reached_by_run s next events reached run = grind (arith, runs_on (start_state task) s next reached.events events reached.run run)

  -- a run of two lists of events is a run of the first, and then of the second
  pub runs_apart : (a c : SearchState) (events more : List Event) → Runs task a (events ++ more) c
      → (b : SearchState) × Runs task a events b × Runs task b more c
  runs_apart a c [] more run = (a, same_itself a, run)
  runs_apart a c (event ∷ rest) more run = grind (arith, runs_apart run.next c rest more run.rest)

-- What stands in each same state, and what each event leaves standing, as Q says it of the events to come.
module _ (task : Task) (Q : List Event → SearchState → Type 0) (same : (events : List Event) (a b : SearchState) → IsSame b a → Q events a → Q events b)
    (step : (event : Event) (rest : List Event) (a b : SearchState) → Q (event ∷ rest) a → Happens task a event b → Q rest b) where
  -- it stands at the end of a run
  pub along_run : (events : List Event) (a b : SearchState) → Q events a → Runs task a events b → Q [] b
  along_run [] a b q run = same [] a b run q
  along_run (event ∷ rest) a b q run = along_run rest run.next b (step _ rest run.from run.next (same _ a run.from run.same q) run.step) run.rest

  module _ (may : (event : Event) (rest : List Event) (a : SearchState) → Q (event ∷ rest) a → (b : SearchState) × Happens task a event b) where
    -- there is a run
    pub run_exists : (events : List Event) (a : SearchState) → Q events a → (b : SearchState) × Runs task a events b
    run_exists [] a q = (a, same_itself a)
    run_exists (event ∷ rest) a q =
        let (next, happens) = may event rest a q in grind (arith, run_exists rest next (step event rest a next q happens), same_itself)

    -- the runs are those to what each run ends at, where this is one state
    pub runs_to_end : (End : SearchState → Type 0) → ((b : SearchState) → Q [] b → End b) → ((b c : SearchState) → End b → End c → IsSame b c)
        → (events : List Event) (a : SearchState) → Q events a → (b : SearchState) → Runs task a events b ↔ End b
    runs_to_end End ends one events a q b = grind (arith, along_run, run_exists, runs_to_same)
