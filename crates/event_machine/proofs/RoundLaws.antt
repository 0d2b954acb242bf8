-- Rounds: each state between rounds has one, all its rounds lead to one state, and a counted round settles some label. There is one number of
-- counted rounds, each makes what waits heavier, and how many labels are settled says whether the query passes its budget.
use Rattle.std.proofs.Common.{◌≡◌, ◌≢◌, ℕ, zero, suc, ◌+◌, ◌<◌, ◌≤◌, ◌⊎◌, ◌↔◌, List, [], ◌∷◌, length, map, replicate, sum, inl, inr, refl}
use Rattle.std.proofs.Common.{◌∙◌, arith, AllPairs, Contains}
use Rattle.std.proofs.lemmas.Bool.{cases_lt}
use Rattle.std.proofs.lemmas.List.{length-map}
use Rattle.std.proofs.lemmas.List.Elements.{All-map, All-weaker}
use Rattle.cost_vector.proofs.Vectors.{sum-Dominates}
use Rattle.list_laws.specs.Sets.{HasMoreThan}
use Rattle.list_laws.proofs.Members.{in_none, cases_in, in_map}
use Rattle.list_laws.proofs.Pairs.{pairs_none, pairs_cons, pairs_map}
use Rattle.list_laws.proofs.SetLaws.{none_of_empty, same_by_permutation, more_by_list, more_on}
use Rattle.list_laws.proofs.OnceLaws.{decidable_some, decidable_more, more_of_map, once_as, empty_if_none}
use Rattle.road_network.specs.Answers.{IsRelevant, Passes}
use Rattle.road_network.proofs.BestLaws.{start_is_relevant}
use Rattle.event_machine.specs.Machine.{Task, IsTask, SearchState, start_state, settled, waiting}
use Rattle.road_network.specs.Labels.{Label}
use Rattle.event_machine.specs.Events.{Event, drop, IsSame, MayDrop, Runs, IsReached}
use Rattle.event_machine.specs.Rounds.{IsBetweenRounds, Begins, Finishes, Round, CountedRound, GoRounds, NoneStays, Rounds, relaxing}
use Rattle.event_machine.specs.Orders.{Stays, IsNext, IsBegun, IsOutcome}
use Rattle.event_machine.proofs.Sound.{IsSound, cases_label, same_pair, grown_from_settled, all_settled}
use Rattle.event_machine.proofs.Running.{along_run, drop_alike, reached_by_run, runs_from_same, runs_on, same_back, same_itself, same_through}
use Rattle.event_machine.proofs.Keeping.{changes_of, sound_after, same_is_sound, sound_if_reached, settled_once}
use Rattle.event_machine.proofs.BegunLaws.{decidable_may_drop, decidable_stays, decidable_better, all_drops, left_waiting, some_begun, begins_is_begun, one_begun}
use Rattle.event_machine.proofs.CompletesLaws.{some_outcome, finishes_is_outcome, one_outcome}

module _ (task : Task) (is : IsTask task) where
  -- ---- a round is a run

  -- some events lead there
  abbrev LeadsTo : SearchState → SearchState → Type 0
  LeadsTo s t = (events : List Event) × Runs task s events t

  leads_by_begins : (s t : SearchState) → Begins task s t → LeadsTo s t
  leads_by_begins s t h = (_, runs_on task s h.left t _ _ h.dropping h.taking)

  leads_by_finishes : (s t : SearchState) → Finishes task s t → LeadsTo s t
  leads_by_finishes s t h = (_, runs_on task s h.relaxed t _ _ h.relaxing_all h.merging_all)

  leads_by_round : (s t : SearchState) → Round task s t → LeadsTo s t
  leads_by_round s t h = (_, runs_on task s h.begun t _ _ (leads_by_begins s h.begun h.begins).1 (leads_by_finishes h.begun t h.finishes).1)

  -- what it leads to is reached, and keeps what is settled
  reached_on : (s t : SearchState) → IsReached task s → LeadsTo s t → IsReached task t
  reached_on s t reached leads = reached_by_run task s t leads.0 reached leads.1

  kept_on : (s t : SearchState) (l : Label) → IsReached task s → LeadsTo s t → Contains s.settled l → Contains t.settled l
  kept_on s t l reached (events, run) there = (along_run task (λ _ m. IsSound task m × Contains m.settled l)
      (λ _ a b same (sound, there). (same_is_sound task is a b same sound, (same.entries settled l).1 there))
      (λ event _ a b (sound, there) step. (sound_after task is a b event sound step, (changes_of task is a b sound event step).entries.kept l there))
      events s t (sound_if_reached task is s reached, there) run).1

  pub reached_by_round : (s t : SearchState) → IsReached task s → Round task s t → IsReached task t
  reached_by_round s t reached h = reached_on s t reached (leads_by_round s t h)

  -- ---- from same states

  finishes_from_same : (a b t : SearchState) → IsSame a b → Finishes task b t → Finishes task a t
  finishes_from_same a b t same h = record {
    relaxes = h.relaxes;
    each_relax = once_as (Contains b.unrelaxed) (Contains a.unrelaxed) h.relaxes (λ p. ((same.unrelaxed p).1, (same.unrelaxed p).0)) h.each_relax;
    relaxed = h.relaxed;
    relaxing_all = runs_from_same task a b h.relaxed (map relaxing h.relaxes) (same_back a b same) h.relaxing_all;
    merges = h.merges;
    each_merge = h.each_merge;
    merging_all = h.merging_all;
  }

  between_alike : (a b : SearchState) → IsSame a b → IsBetweenRounds b → IsBetweenRounds a
  between_alike a b same between = record {
    unrelaxed = empty_if_none a.unrelaxed (λ p there. grind (arith, same.unrelaxed p, none_of_empty b.unrelaxed between.unrelaxed p));
    candidates = empty_if_none a.candidates
        (λ x there. grind (arith, same_by_permutation a.candidates b.candidates same.candidates x, none_of_empty b.candidates between.candidates x));
  }

  abbrev round_from_same : (a b t : SearchState) → IsSame a b → Round task b t → Round task a t
  round_from_same a b t same h =
      let d = h.begins in
      let all = once_as (MayDrop task b) (MayDrop task a) d.drops (λ l. (drop_alike task b a (same_back a b same) l, drop_alike task a b same l)) d.each_drop in
      let run = runs_from_same task a b d.left (map (λ l. drop l) d.drops) (same_back a b same) d.dropping in
      let begins : Begins task a h.begun =
      record { drops = d.drops; each_drop = all; left = d.left; dropping = run; takes = d.takes; each_take = d.each_take; taking = d.taking } in
      record { between = between_alike a b same h.between; begun = h.begun; begins = begins; finishes = h.finishes }

  -- ---- the two halves of a round

  -- what is left after the drops
  left_after_drops : (s b : SearchState) → IsReached task s → (h : Begins task s b) → (y : Label) → Contains h.left.waiting y ↔ Stays task s y
  left_after_drops s b reached h =
      left_waiting task s h.left (((all_drops task s (sound_if_reached task is s reached) h.drops h.each_drop).1 h.left).0 h.dropping)

  pub some_round : (s : SearchState) → IsReached task s → IsBetweenRounds s → (t : SearchState) × Round task s t
  some_round s reached between =
      let sound = sound_if_reached task is s reached in
      let (begun, is_begun) = some_begun task is s sound between in
      let begins = (begins_is_begun task is s sound between begun).1 is_begun in
      let sound_begun = sound_if_reached task is begun (reached_on s begun reached (leads_by_begins s begun begins)) in
      let (after, outcome) = some_outcome task is begun sound_begun in
      (after, record { between = between; begun = begun; begins = begins; finishes = (finishes_is_outcome task is begun sound_begun after).1 outcome })

  module _ (s t : SearchState) (reached : IsReached task s) (round : Round task s t) where
    reached_begun : IsReached task round.begun
    reached_begun = reached_on s round.begun reached (leads_by_begins s round.begun round.begins)

    begun_of : IsBegun task s round.begun
    begun_of = (begins_is_begun task is s (sound_if_reached task is s reached) round.between round.begun).0 round.begins

    outcome_of : IsOutcome task.network round.begun t
    outcome_of = (finishes_is_outcome task is round.begun (sound_if_reached task is round.begun reached_begun) t).0 round.finishes

    pub between_after : IsBetweenRounds t
    between_after = record { unrelaxed = outcome_of.unrelaxed; candidates = outcome_of.candidates }

    pub counted : (l : Label) → Stays task s l → CountedRound task s t
    counted l stays = record { round = round; label = l; waits = (left_after_drops s round.begun reached round.begins l).1 stays }

    -- what is taken is settled at the end, and was not at the start
    taken_is_new : (y : Label) → IsNext task s y → Contains t.settled y × (¬ Contains s.settled y)
    taken_is_new y next = (
      kept_on round.begun t y reached_begun (leads_by_finishes round.begun t round.finishes) ((begun_of.entries settled y).1 (inr (inr (refl, next)))),
      λ there. let same = (sound_if_reached task is s reached).apart.placed settled waiting y there next.stays.waits in cc,
    )

  pub one_end : (s a b : SearchState) → IsReached task s → Round task s a → Round task s b → IsSame a b
  one_end s a b reached first second =
      let same = one_begun task s first.begun second.begun (begun_of s a reached first) (begun_of s b reached second) in
      let sound = sound_if_reached task is first.begun (reached_begun s a reached first) in
      one_outcome task.network first.begun a b (outcome_of s a reached first)
      ((finishes_is_outcome task is first.begun sound b).0 (finishes_from_same first.begun second.begun b same second.finishes))

  -- ---- a counted round

  -- of what stays after the drops none dominates some label, which is taken
  next_from : (n : ℕ) (s : SearchState) (l : Label) → Stays task s l → sum l.cost < n → (x : Label) × IsNext task s x
  next_from zero s l stays below = absurd (omega arith)
  next_from (suc n) s l stays below = elim (decidable_better task s l) [
    | inl (z, still, better) ↦ next_from n s z still (omega (arith, below, sum-Dominates z.cost l.cost better))
    | inr none ↦ (l, record { stays = stays; none_better = none })
  ]

  some_next : (s t : SearchState) → IsReached task s → CountedRound task s t → (x : Label) × IsNext task s x
  some_next s t reached h =
      next_from (suc (sum h.label.cost)) s h.label ((left_after_drops s h.round.begun reached h.round.begins h.label).0 h.waits) (omega arith)

  pub settles : (s t : SearchState) → IsReached task s → CountedRound task s t → (l : Label) × Contains t.settled l × (¬ Contains s.settled l)
  settles s t reached h = let (l, next) = some_next s t reached h in let new = taken_is_new s t reached h.round l next in (l, new.0, new.1)

  module _ (budget : ℕ) where
    -- ---- there is a number of counted rounds

    abbrev Stops : SearchState → Type 0
    Stops s = HasMoreThan budget s.settled ⊎ NoneStays task s

    -- the search stops, or goes on from a label that stays after the drops
    cases_stops : (s : SearchState) → Stops s ⊎ ((¬ HasMoreThan budget s.settled) × (l : Label) × Stays task s l)
    cases_stops s =
        let some = decidable_some (Stays task s) (decidable_stays task s) s.waiting in
        grind (arith, decidable_more cases_label budget s.settled, some, decidable_may_drop task s)

    -- each round settles one more label than were seen, so no more rounds than the budget and one are left
    rounds_from : (left : ℕ) (s : SearchState) → IsReached task s → IsBetweenRounds s → (seen : List Label) → AllPairs ◌≢◌ seen
        → ((y : Label) → Contains seen y → Contains s.settled y) → length seen + left ≡ budget + 1
        → (n : ℕ) × (last : SearchState) × GoRounds task budget n s last × Stops last
    rounds_from zero s reached between seen once each full = (0, s, same_itself s, inl (more_by_list budget s.settled seen once each (omega (arith, full))))
    rounds_from (suc left) s reached between seen once each full = elim (cases_stops s) [
      | inl stops ↦ (0, s, same_itself s, stops)
      | inr (few, l, stays) ↦
          let (after, round) = some_round s reached between in
          let counts = counted s after reached round l stays in
          let (new, there, was_not) = settles s after reached counts in
          let kept = λ (y : Label) (old : Contains seen y). kept_on s after y reached (leads_by_round s after round) (each y old) in
          let (n, last, rounds, stops) = rounds_from left after (reached_by_round s after reached round) (between_after s after reached round)
          (new ∷ seen) (pairs_cons ◌≢◌ new seen (λ y old same. grind (arith, each y old, was_not)) once)
          (λ y here. grind (arith, cases_in new seen y here, kept y, there))
          (omega (arith, full)) in
          (suc n, last, record { within = few; next = after; round = counts; rest = rounds }, stops)
    ]

    reached_at_start : IsReached task (start_state task)
    reached_at_start = record { events = []; run = same_itself (start_state task) }

    pub some_number : (n : ℕ) × Rounds task budget n
    some_number =
        let between : IsBetweenRounds (start_state task) = record { unrelaxed = refl; candidates = refl } in
        let (n, last, rounds, stops) = rounds_from (budget + 1) (start_state task) reached_at_start between [] (pairs_none ◌≢◌)
        (λ y there. absurd (in_none y there)) (omega arith) in
        (n, record { last = last; rounds = rounds; stops = stops })

    -- ---- and no other

    -- where the search stops, no label stays after the drops
    none_stays_on : (a b : SearchState) → IsSame b a → Stops b → ¬ HasMoreThan budget a.settled → (l : Label) → ¬ Stays task a l
    none_stays_on a b same (inl more) few l stays = few (more_on budget b.settled a.settled (λ y there. (same.entries settled y).0 there) more)
    none_stays_on a b same (inr none) few l stays =
        stays.kept (drop_alike task b a same l (none l ((same.entries waiting l).1 stays.waits)))

    -- fewer rounds go on from a state than lead to where the search stops, or as many, to the same state
    no_more : (k n : ℕ) (a c b d : SearchState) → IsReached task a → IsReached task c → IsSame a c → GoRounds task budget k a b
        → GoRounds task budget n c d → Stops d → (k < n) ⊎ ((k ≡ n) × IsSame b d)
    no_more zero zero a c b d reached reached_too same go go_too stops = inr (refl, same_through b a d go (same_through a c d same (same_back d c go_too)))
    no_more zero (suc n) a c b d reached reached_too same go go_too stops = inl (omega arith)
    no_more (suc k) zero a c b d reached reached_too same go go_too stops =
        let stays = (left_after_drops a go.round.round.begun reached go.round.round.begins go.round.label).0 go.round.waits in
        absurd (none_stays_on a d (same_through d c a go_too (same_back a c same)) stops go.within go.round.label stays)
    no_more (suc k) (suc n) a c b d reached reached_too same go go_too stops =
        let next = one_end a go.next go_too.next reached go.round.round (round_from_same a c go_too.next same go_too.round.round) in
        let most = no_more k n go.next go_too.next b d (reached_by_round a go.next reached go.round.round)
        (reached_by_round c go_too.next reached_too go_too.round.round) next go.rest go_too.rest stops in
        grind (arith, most)

    compared : (k n : ℕ) (s : SearchState) → GoRounds task budget k (start_state task) s → (h : Rounds task budget n) → (k < n) ⊎ ((k ≡ n) × IsSame s h.last)
    compared k n s go all =
        let start = start_state task in no_more k n start start s all.last reached_at_start reached_at_start (same_itself start) go all.rounds all.stops

    -- so many rounds go on from the start, and no more
    pub at_most_all : (k n : ℕ) (s : SearchState) → GoRounds task budget k (start_state task) s → Rounds task budget n → k ≤ n
    at_most_all k n s go all = grind (arith, compared k n s go all)

    pub one_number : (n m : ℕ) → Rounds task budget n → Rounds task budget m → n ≡ m
    one_number n m these those = omega (arith, at_most_all n m these.last these.rounds those, at_most_all m n those.last those.rounds these)

    -- ---- one round more, after those of before

    one_round_more : (n : ℕ) (a b t : SearchState) → GoRounds task budget n a b → ¬ HasMoreThan budget b.settled → CountedRound task b t
        → GoRounds task budget (suc n) a t
    one_round_more zero a b t same few h =
        let within = λ (more : HasMoreThan budget a.settled). few (more_on budget a.settled b.settled (λ y there. (same.entries settled y).1 there) more) in
        let round : CountedRound task a t = record { round = round_from_same a b t (same_back b a same) h.round; label = h.label; waits = h.waits } in
        record { within = within; next = t; round = round; rest = same_itself t }
    one_round_more (suc n) a b t go few h =
        record { within = go.within; next = go.next; round = go.round; rest = one_round_more n go.next b t go.rest few h }

    pub round_after_all : (n : ℕ) (s t : SearchState) → GoRounds task budget n (start_state task) s → ¬ HasMoreThan budget s.settled → CountedRound task s t
        → GoRounds task budget (n + 1) (start_state task) t
    round_after_all n s t go few round = grind (arith, one_round_more)

    -- where the search doesn't stop between rounds, more rounds come
    pub more_to_come : (k n : ℕ) (s : SearchState) (l : Label) → GoRounds task budget k (start_state task) s
        → ¬ HasMoreThan budget s.settled → Stays task s l → Rounds task budget n → k < n
    more_to_come k n s l go few stays all = elim (compared k n s go all) [
      | inl fewer ↦ fewer
      | inr (_, same) ↦ absurd (none_stays_on s all.last (same_back s all.last same) all.stops few l stays)
    ]

    -- ---- what waits grows heavier

    abbrev Weighs : ℕ → SearchState → Type 0
    Weighs k s = (y : Label) → Contains s.waiting y → k ≤ sum y.cost

    module _ (k : ℕ) (s t : SearchState) (reached : IsReached task s) (round : Round task s t) (weighs : Weighs k s) where
      begun : IsBegun task s round.begun
      begun = begun_of s t reached round

      heavier_left : (y : Label) → Contains round.begun.waiting y → k + 1 ≤ sum y.cost
      heavier_left y here = let was = (begun.entries waiting y).0 here in grind (arith, sum-Dominates)

      heavier : Weighs (k + 1) t
      heavier y there =
          let (survives, (unsettled, undropped)) = ((outcome_of s t reached round).entries waiting y).0 there in
          elim survives.present [
            | inl entry ↦ grind (arith, unsettled, undropped, same_pair y y, heavier_left y)
            | inr (inl here) ↦ absurd (none_of_empty round.begun.candidates begun.candidates y here)
            | inr (inr (e, here, follows)) ↦
                let sound = sound_if_reached task is round.begun (reached_begun s t reached round) in
                let less = grown_from_settled task is round.begun sound e y in
                grind (arith, begun.unrelaxed (e, y.arc), begun.entries settled e, less, sum-Dominates e.cost y.cost, weighs e)
          ]

    heavy_end : (n k : ℕ) (a b : SearchState) → IsReached task a → Weighs k a → GoRounds task budget (suc n) a b
        → (v : ℕ) × (c : List ℕ) × IsRelevant task.network task.start task.target task.limit v c × (k + n ≤ sum c)
    heavy_end zero k a b reached weighs go =
        let (l, next) = some_next a go.next reached go.round in
        let there = (taken_is_new a go.next reached go.round.round l next).0 in
        let sound = sound_if_reached task is go.next (reached_by_round a go.next reached go.round.round) in
        (l.node, l.cost, sound.relevant l there, omega (arith, weighs l next.stays.waits))
    heavy_end (suc n) k a b reached weighs go =
        let next = reached_by_round a go.next reached go.round.round in
        let (v, c, relevant, heavy) = heavy_end n (k + 1) go.next b next (heavier k a go.next reached go.round.round weighs) go.rest in
        (v, c, relevant, omega (arith, heavy))

    -- so many rounds take a label of no less a sum
    pub bounded : (n : ℕ) → Rounds task budget n → (v : ℕ) × (c : List ℕ) × IsRelevant task.network task.start task.target task.limit v c × (n ≤ sum c + 1)
    bounded zero h =
        (task.start, replicate task.network.criteria 0, start_is_relevant task.network task.start task.target task.limit is.start is.limit, omega arith)
    bounded (suc n) h =
        let (v, c, relevant, heavy) = heavy_end n 0 (start_state task) h.last reached_at_start (λ y there. omega arith) h.rounds in
        (v, c, relevant, omega (arith, heavy))

  -- ---- the budget

  abbrev pair_of : Label → ℕ × List ℕ
  pair_of l = (l.node, l.cost)

  module _ (s : SearchState) (reached : IsReached task s) where
    pub passes_where_more : (budget : ℕ) → HasMoreThan budget s.settled → Passes task.network task.start task.target task.limit budget
    passes_where_more budget more =
        let sound = sound_if_reached task is s reached in record {
          pairs = map pair_of more.members;
          more = length-map more.members pair_of ∙ more.more;
          distinct = pairs_map (λ x y. pair_of x ≢ pair_of y) ◌≢◌ pair_of (λ x y other. other) more.members
              (λ i j d before within same. grind (arith, more.distinct i j d before within, settled_once task is s reached, more.each i d, more.each j d));
          relevant = search (All-map, All-weaker, more.each, sound.relevant);
        }

    pub within_where_none_stays : (budget : ℕ) → IsBetweenRounds s → NoneStays task s → ¬ HasMoreThan budget s.settled
        → ¬ Passes task.network task.start task.target task.limit budget
    within_where_none_stays budget between none few passes =
        let all = all_settled task is s (sound_if_reached task is s reached) between.candidates between.unrelaxed none in
        let each = All-weaker _ (Contains (map pair_of s.settled)) (λ p relevant.
        let h = all p.0 p.1 relevant in grind (arith, in_map pair_of s.settled h.label h.settled)) passes.pairs passes.relevant in
        few (more_of_map cases_label pair_of budget s.settled (record { members = passes.pairs; more = passes.more; distinct = passes.distinct; each = each }))
