-- The search round by round: where it stands after each round, and what is known when it ends.
use Rattle.std.proofs.Common.{◌≡◌, ◌≢◌, ℕ, ◌+◌, ◌≤◌, List, [], ◌∷◌, ◌++◌, map, Result, Ok, inl, inr, refl, sym, subst, ◌∙◌, arith, Contains}
use Rattle.std.specs.Result.{IsErrAnd}
use Rattle.std.proofs.lemmas.Bool.{cases_lt}
use Rattle.out_of_memory.specs.declared.OutOfMemory.{OutOfMemory}
use Rattle.list_laws.specs.Sets.{HasMoreThan}
use Rattle.list_laws.proofs.Members.{in_none, cases_in}
use Rattle.list_laws.proofs.OnceLaws.{alike_through}
use Rattle.list_laws.proofs.Pairs.{pairs_none, pairs_cons}
use Rattle.list_laws.proofs.SetLaws.{longer, more_by_list, more_on}
use Rattle.road_network.specs.Answers.{Passes}
use Rattle.road_network.specs.Labels.{Label}
use Rattle.road_network.specs.Limits.{max_budget}
use Rattle.road_network.specs.Network.{Network}
use Rattle.road_network.specs.Queries.{limit_of}
use Rattle.road_network.specs.declared.query.Query.{Query}
use Rattle.road_network.specs.declared.query.SearchFault.{SearchFault}
use Rattle.road_network.specs.declared.query.SearchFault.TheVariants as fault
use Rattle.event_machine.specs.Machine.{Task, IsTask, SearchState, start_state, settled}
use Rattle.event_machine.specs.Events.{IsReached, merge}
use Rattle.event_machine.specs.Orders.{IsBegun, IsOutcome}
use Rattle.event_machine.specs.Rounds.{IsBetweenRounds, CountedRound, GoRounds, NoneStays, Round, relaxing}
use Rattle.event_machine.proofs.BegunLaws.{begins_is_begun}
use Rattle.event_machine.proofs.CompletesLaws.{finishes_is_outcome}
use Rattle.event_machine.proofs.Keeping.{changes_of, same_is_sound, settled_once, sound_after, sound_if_reached}
use Rattle.event_machine.proofs.RoundLaws.{counted, settles, at_most_all, reached_by_round, round_after_all, some_round, more_to_come, passes_where_more, within_where_none_stays}
use Rattle.event_machine.proofs.Running.{along_run, runs_on, same_itself}
use Rattle.event_machine.proofs.Sound.{IsSound}
use Rattle.bulk_rounds.specs.Begins.{CountsRound, FindsNone, SomeOpen, TakesNext, WouldPass}
use Rattle.bulk_rounds.specs.Cores.{Core, IsNewSearch}
use Rattle.bulk_rounds.specs.Standing.{IsAt, IsSearchOf}
use Rattle.bulk_rounds.specs.declared.begin.Begun.{Begun}
use Rattle.bulk_rounds.specs.declared.begin.Begun.TheVariants.{Done, Budget}
use Rattle.bulk_rounds.proofs.BegunLemmas.{begin_stands, between, none_stay, reached_by_begins, some_stay}
use Rattle.bulk_rounds.proofs.BudgetLemmas.{passes_budget as core_passes, within_budget}
use Rattle.bulk_rounds.proofs.FoundLemmas.{at_start, has_all}
use Rattle.bulk_rounds.proofs.SpentLemmas.{settled_not_waiting}
use Rattle.walk_readback.specs.Found.{FoundCosts}
use Rattle.bulk_search.specs.Counting.{CountsRounds, task_of}
use Rattle.bulk_search.specs.Rounds.{HasSoMany, IsAfter, IsOpen, EndsOver, FindsAll, IsAnswer}
use Rattle.bulk_search.proofs.TaskLemmas.{counts_out}

-- one thing more, which wasn't there before
one_member_more : {X : Type 0} (n : ℕ) (xs ys : List X) (y : X) → HasSoMany n xs → ((x : X) → Contains xs x → Contains ys x)
    → Contains ys y → ¬ Contains xs y → HasSoMany (n + 1) ys
one_member_more n xs ys y many kept there new = record {
  members = y ∷ many.members;
  count = omega (arith, many.count);
  distinct = pairs_cons ◌≢◌ y many.members (λ x old same. new (subst (Contains xs) (sym same) (many.each x old))) many.distinct;
  each = λ x here. elim (cases_in y many.members x here) [ inl same ↦ rw same there | inr old ↦ kept x (many.each x old) ];
}

-- a new search for a query is at the start of its task: no round was made
pub after_none : (d : ℕ) (net : Network) (query : Query) (core : Core) → IsTask (task_of net query) → net.criteria ≡ d
    → IsNewSearch net.nodes d query.from query.to (limit_of net.criteria query) query.budget core → IsAfter (task_of net query) query.budget 0 core
after_none d net query core is criteria new =
    let task = task_of net query in
    let search : IsSearchOf task core = grind arith in
    record {
      budget_is = new.budget_is;
      none_taken = new.none_taken;
      state = start_state task;
      at = at_start net.nodes d query.from query.to (limit_of net.criteria query) query.budget core task new search;
      go = same_itself (start_state task);
      settles = record { members = []; count = refl; distinct = pairs_none ◌≢◌; each = λ x there. absurd (in_none x there) };
      within = λ more. omega (arith, longer query.budget [] more);
    }

-- ---- a round

module _ {task : Task} {budget k : ℕ} {before : Core} (after : IsAfter task budget k before) where
  abbrev s : SearchState
  s = after.state

  is : IsTask task
  is = after.at.search.is_task

  s_between : IsBetweenRounds s
  s_between = between task before s after.at after.none_taken

  -- the next round, in which labels are settled and then their arcs relaxed
  abbrev following : (end : SearchState) × Round task s end
  following = some_round task is s after.at.reached s_between

  abbrev end : SearchState
  end = following.0

  abbrev begun : SearchState
  begun = following.1.begun

  is_begun : IsBegun task s begun
  is_begun = (begins_is_begun task is s (sound_if_reached task is s after.at.reached) s_between begun).0 following.1.begins

  begun_reached : IsReached task begun
  begun_reached = reached_by_begins task before s after.at after.none_taken begun is_begun

  outcome : IsOutcome task.network begun end
  outcome = (finishes_is_outcome task is begun (sound_if_reached task is begun begun_reached) end).0 following.1.finishes

  -- where some spot is open, the round is counted
  round : SomeOpen before → CountedRound task s end
  round some_open = let (l, stays) = some_stay task before s after.at some_open in counted task is s end after.at.reached following.1 l stays

  goes_on : SomeOpen before → GoRounds task budget (k + 1) (start_state task) end
  goes_on some_open = round_after_all task is budget k s end after.go after.within (round some_open)

  -- what is settled stays so
  settled_by_begin : (l : Label) → Contains s.settled l → Contains begun.settled l
  settled_by_begin l there =
      let apart = settled_not_waiting task before s after.at.search after.at.stands.settled after.at.reached l there in
      (is_begun.entries settled l).1 (inl (there, λ may. apart may.waits, λ next. apart next.stays.waits))

  settled_at_end : (l : Label) → Contains begun.settled l → Contains end.settled l
  settled_at_end l there =
      let half = following.1.finishes in
      (along_run task (λ _ m. IsSound task m × Contains m.settled l)
      (λ _ a b same (sound, there). (same_is_sound task is a b same sound, (same.entries settled l).1 there))
      (λ event _ a b (sound, there) step. (sound_after task is a b event sound step, (changes_of task is a b sound event step).entries.kept l there))
      (map relaxing half.relaxes ++ map (λ x. merge x) half.merges) begun end (sound_if_reached task is begun begun_reached, there)
      (runs_on task begun half.relaxed end (map relaxing half.relaxes) (map (λ x. merge x) half.merges) half.relaxing_all half.merging_all)).1

  -- and the second half settles no label
  settled_when_begun : (l : Label) → Contains end.settled l → Contains begun.settled l
  settled_when_begun l there =
      let (_, pair) = (outcome.entries settled l).0 there in
      let reached = reached_by_round task is s end after.at.reached following.1 in
      rw (← settled_once task is end reached pair.label l (settled_at_end pair.label pair.member) there pair.same) pair.member

  opened : {core : Core} → TakesNext before core → IsAt task core begun
  opened {core} takes = begin_stands task before core s begun after.none_taken takes after.at is_begun

  few_settled : {core : Core} → TakesNext before core → ¬ HasMoreThan budget begun.settled
  few_settled {core} takes =
      let few = within_budget task before core s begun after.none_taken takes after.at is_begun in
      subst (λ n. ¬ HasMoreThan n begun.settled) after.budget_is few

  -- ---- the search ends

  none_stays : {core : Core} → FindsNone before core → NoneStays task s
  none_stays finds = none_stay task before s after.at finds.none_open

  -- it has found all
  pub has_found : {d : ℕ} {core : Core} {f : FoundCosts} → FindsNone before core → task.network.criteria ≡ d → FindsAll d core f → IsAnswer task budget f
  has_found {f = f} finds criteria all =
      let start : f.start ≡ before.start = all.start_is ∙ finds.same_search.start in
      let target : f.target ≡ before.target = all.target_is ∙ finds.same_search.target in
      record {
        start = start ∙ sym after.at.search.start;
        target = target ∙ sym after.at.search.target;
        nodes = all.nodes ∙ finds.same_search.nodes ∙ sym after.at.search.nodes;
        criteria = all.criteria ∙ sym criteria;
        relevant = record {
          relevant = λ v c. rw (start, target, after.at.search.limit) (alike_through (all.settled v c) (
              alike_through (finds.settled (record { cost = c; node = v })) (has_all task before s after.at after.none_taken finds.none_open v c)));
        };
        in_budget = within_where_none_stays task is s after.at.reached budget s_between (none_stays finds) after.within;
      }

  -- with one round more the budget is passed
  more_than_budget : WouldPass before → HasMoreThan budget begun.settled
  more_than_budget would =
      subst (λ n. HasMoreThan n begun.settled) after.budget_is (core_passes task before s begun after.none_taken would after.at is_begun)

  pub passes_budget : WouldPass before → Passes task.network task.start task.target task.limit budget
  passes_budget would = passes_where_more task is begun begun_reached budget (more_than_budget would)

  -- there are no more rounds than the budget and one
  pub no_round_more : ¬ (k ≡ budget + 1)
  no_round_more full =
      let many = after.settles in
      after.within (more_by_list budget s.settled many.members many.distinct many.each (omega (arith, many.count, full)))

  -- ---- steps

  module _ {Answer : Type 0} {result : Result Answer SearchFault} {given : Result Begun OutOfMemory} {first old new : ℕ}
      (counts : CountsRound before given old new) (so_far : old ≡ first + k) where
    -- where no spot is open, all rounds were counted
    pub counts_done : {core : Core} → FindsNone before core → given ≡ Ok Done → CountsRounds task budget result first new
    counts_done finds done = record {
      rounds = k;
      all = record { last = s; rounds = after.go; stops = inr (none_stays finds) };
      at_most = omega (arith, counts.uncounted done, so_far);
      exact = λ _. counts.uncounted done ∙ so_far;
    }

    -- the one that would pass the budget was counted too
    pub counts_passing : WouldPass before → given ≡ Ok Budget → CountsRounds task budget result first new
    counts_passing would over =
        let more = more_on budget begun.settled end.settled settled_at_end (more_than_budget would) in
        let rose : new ≡ old + 1 = counts.counted Budget over (λ e. absurd (cc)) in
        record {
          rounds = k + 1;
          all = record { last = end; rounds = goes_on would.some_open; stops = inl more };
          at_most = omega (arith, rose, so_far);
          exact = λ _. omega (arith, rose, so_far);
        }

    -- and where memory ran out, no more than there are
    pub counts_some : {want : OutOfMemory} → IsErrAnd result (λ e. e ≡ fault.OutOfMemory want) → CountsRounds task budget result first new
    counts_some {want} out = counts_out task budget result first new is out (λ n all. elim (cases_lt old new) [
      | inl less ↦
          let (l, stays) = some_stay task before s after.at (counts.some_open less) in
          omega (arith, counts.at_most_one, so_far, more_to_come task is budget k n s l after.go after.within stays all)
      | inr not ↦ omega (arith, not, so_far, at_most_all task is budget k n s after.go all)
    ])

module _ (task : Task) (is : IsTask task) (budget k : ℕ) (before : Core) (after : IsAfter task budget k before) where
  -- a round is open
  pub is_open : (core : Core) → TakesNext before core → budget ≤ max_budget → IsOpen task.network core
  is_open core takes most = record {
    task = task;
    over = refl;
    state = begun after;
    at = opened after takes;
    within = subst (λ n. ¬ HasMoreThan n (begun after).settled) (sym (takes.same_search.budget ∙ after.budget_is)) (few_settled after takes);
    few = omega (arith, takes.within, takes.same_search.budget);
    most = omega (arith, most, takes.same_search.budget, after.budget_is);
  }

  -- the round has ended
  pub at_next : (core next : Core) → TakesNext before core → EndsOver task.network core next → IsAfter task budget (k + 1) next
  at_next core next takes ends =
      let last = end after in
      let (l, there, new) = settles task is after.state last after.at.reached (round after takes.some_open) in
      record {
        budget_is = ends.same_search.budget ∙ takes.same_search.budget ∙ after.budget_is;
        none_taken = ends.none_taken;
        state = last;
        at = ends.outcome task (begun after) last refl (opened after takes) (outcome after);
        go = goes_on after takes.some_open;
        settles = one_member_more k after.state.settled last.settled l after.settles (λ y old. settled_at_end after y (settled_by_begin after y old)) there new;
        within = λ more. few_settled after takes (more_on budget last.settled (begun after).settled (settled_when_begun after) more);
      }
