-- Each event that may happen leads to some state. The first half of a round: its drops in any order and then its takes in any order lead to one state.
use Rattle.std.proofs.Common.{◌≡◌, ◌≢◌, ℕ, ◌+◌, ◌-◌, ◌⊎◌, ◌↔◌, List, [], ◌∷◌, ◌++◌, length, map, Option, Some, inl, inr, refl, sym, ap, subst}
use Rattle.std.proofs.Common.{arith, slice_get, Contains, AllPairs, IsPermutation}
use Rattle.std.specs.List.{range_with_len}
use Rattle.std.proofs.lemmas.Bool.{cases_eq, cases_lt}
use Rattle.std.proofs.lemmas.List.Sorted.{IsPermutation-refl, IsPermutation-sym, IsPermutation-trans}
use Rattle.cost_vector.specs.Costs.{plus, Dominates}
use Rattle.cost_vector.proofs.Vectors.{cases_Dominates, cases_Within}
use Rattle.list_laws.specs.Sets.{ListsOnce}
use Rattle.list_laws.proofs.Members.{in_rest, in_front, in_map, of_map, in_none, in_first}
use Rattle.list_laws.proofs.OnceLaws.{IsDecidable, decidable_as, decidable_not, decidable_both, decidable_either, decidable_some, decidable_member, decidable_in}
use Rattle.list_laws.proofs.OnceLaws.{sift, list_all, taken_out, range_once, in_cons, in_append, empty_if_none, same_by, once_as}
use Rattle.list_laws.proofs.Pairs.{pairs_rest, pair_with_first}
use Rattle.list_laws.proofs.SetLaws.{none_of_empty, same_by_permutation}
use Rattle.road_network.specs.Network.{Network}
use Rattle.road_network.proofs.Reached.{arc_counts}
use Rattle.event_machine.specs.Machine.{Task, Beats, SearchState, Place, settled, dropped, waiting, entries_at, IsEntry, LeadsOn, IsTask}
use Rattle.road_network.specs.Labels.{Label, IsSamePair}
use Rattle.event_machine.specs.Machine.{waits, is_candidate, has_arc, Follows}
use Rattle.event_machine.specs.Events.{Becomes, MayTake, Takes, MayDrop, Drops, Relaxes, IsMerged, keeps, lowers, discards, enters, Merges, Event, take, drop}
use Rattle.event_machine.specs.Events.{IsSame, Happens, Runs}
use Rattle.event_machine.specs.Rounds.{IsBetweenRounds, IsUndominated, Begins}
use Rattle.event_machine.specs.Orders.{Stays, Moves, DropsAll, IsNext, IsBegun}
use Rattle.event_machine.proofs.Sound.{cases_label, cases_pair, cases_beats, decidable_pair, IsSound}
use Rattle.event_machine.proofs.Running.{useless_on, same_itself, runs_on, runs_apart, runs_to_same}

-- ---- what is told

decidable_place : (p q : Place) → IsDecidable (p ≡ q)
decidable_place p q = grind arith

any_place : (Q N : Place → Type 0) → ((p : Place) → Q p ⊎ N p) → ((p : Place) × Q p) ⊎ ((p : Place) → N p)
any_place Q N at = grind (arith, at settled, at dropped, at waiting)

-- whether P holds of an entry
decidable_entry : (P : Label → Type 0) → ((y : Label) → IsDecidable (P y)) → (s : SearchState)
    → ((p : Place) × ((y : Label) × Contains (entries_at s p) y × P y)) ⊎ ((p : Place) (y : Label) → Contains (entries_at s p) y → ¬ P y)
decidable_entry P decision s = any_place _ _ (λ p. decidable_some P decision (entries_at s p))

decidable_ends : (u : ℕ) (e : Option (ℕ × ℕ)) (o : Option (Option (List ℕ)))
    → IsDecidable ((by : List ℕ) × (to : ℕ) × (e ≡ Some (u, to)) × (o ≡ Some (Some by)))
decidable_ends u (Some e) (Some (Some w)) = decidable_as (λ same. (w, e.1, ap (λ x. Some (x, e.1)) same, refl))
    (λ (_, to, ends, _). let same : Some e ≡ Some (u, to) = ends in cc) (cases_eq e.0 u)
decidable_ends u e o = inr (λ h. grind arith)

decidable_leads : (net : Network) (u k : ℕ) → IsDecidable (LeadsOn net u k)
decidable_leads net u k = grind (arith, cases_lt 0 k, decidable_ends u (slice_get net.ends (k - 1)) (slice_get net.states (k - 1)))

-- ---- states that are made

-- the pairs of l and each arc that leads on come to some others
opened : (net : Network) (l : Label) (old : List (Label × ℕ))
    → (all : List (Label × ℕ)) × ((p : Label × ℕ) → Contains all p ↔ (Contains old p ⊎ ((p.0 ≡ l) × LeadsOn net l.node p.1)))
opened net l old =
    let (ks, each) = list_all cases_eq (λ k. LeadsOn net l.node k) (decidable_leads net l.node) (range_with_len 0 (length net.ends + 1))
    (λ k h. ((range_once (length net.ends + 1)).exact k).1 (arc_counts net k l.node h.to h.by h.leads)) in
    let f : ℕ → Label × ℕ = λ k. (l, k) in
    (old ++ map f ks, λ p. let i = in_append old (map f ks) p in let e = each.exact p.1 in grind (arith, of_map f ks p, in_map f ks p.1))

-- the entries may change in each way that can be told
made : (s : SearchState) (Stays : Place → Label → Type 0) → ((p : Place) (y : Label) → IsDecidable (Stays p y)) → (n : Label) (to : Place)
    → (b : SearchState) × Becomes s Stays n to b
made s Stays decision n to =
    let at = λ (p : Place). list_all cases_label (λ y. (Contains (entries_at s p) y × Stays p y) ⊎ ((p ≡ to) × (y ≡ n)))
    (λ y. grind (arith, decidable_in cases_label (entries_at s p) y, decision p y, decidable_place p to, cases_label y n))
    (n ∷ entries_at s p) (λ y. grind (arith, in_rest, in_front)) in (
      record { settled = (at settled).0; dropped = (at dropped).0; waiting = (at waiting).0; unrelaxed = []; candidates = [] },
      elim [ settled ↦ (at settled).1.exact | dropped ↦ (at dropped).1.exact | waiting ↦ (at waiting).1.exact ],
    )

-- ---- each event that may happen leads to a state

module _ (task : Task) (s : SearchState) where
  moved : (l : Label) (to : Place) → (b : SearchState) × Becomes s (λ _ y. y ≢ l) l to b
  moved l to = made s (λ _ y. y ≢ l) (λ _ y. decidable_not (cases_label y l)) l to

  -- a drop, a take and a relax
  drop_happens : (l : Label) → MayDrop task s l → (next : SearchState) × Drops task s l next
  drop_happens l may =
      let (b, becomes) = moved l dropped in
      (record b { unrelaxed = s.unrelaxed; candidates = s.candidates }, search (may, becomes, IsPermutation-refl))

  take_happens : (l : Label) → MayTake task s l → (next : SearchState) × Takes task s l next
  take_happens l may =
      let (b, becomes) = moved l settled in
      let (unrelaxed, all) = opened task.network l s.unrelaxed in
      (record b { unrelaxed = unrelaxed; candidates = s.candidates }, search (may, becomes, all, IsPermutation-refl))

  pub relax_happens : (l : Label) (k : ℕ) → Contains s.unrelaxed (l, k) → LeadsOn task.network l.node k → (next : SearchState) × Relaxes task s l k next
  relax_happens l k may on =
      let (rest, left) = sift cases_pair (λ p. p ≢ (l, k)) (λ p. decidable_not (cases_pair p (l, k))) s.unrelaxed in
      let x : Label = record { node = on.to; cost = plus l.cost on.by; arc = k } in
      let f : Follows task.network l x = record { by = on.by; leads = on.leads; cost = refl } in
      let moved = IsPermutation-refl (x ∷ s.candidates) in (
        record s { unrelaxed = rest; candidates = x ∷ s.candidates },
        record { may = may; candidate = x; follows = f; arc = refl; entries = λ p y. (λ h. h, λ h. h); unrelaxed = left.exact; candidates = moved },
      )

module _ (s : SearchState) (x : Label) (there : Contains s.candidates x) where
  -- a merge
  pub merge_happens : (next : SearchState) × Merges s x next
  merge_happens =
      let (rest, taken) = taken_out s.candidates x there in
      let merged : (next : SearchState) → IsMerged s x (record next { unrelaxed = s.unrelaxed; candidates = rest }) → (after : SearchState) × Merges s x after =
      λ next is. (record next { unrelaxed = s.unrelaxed; candidates = rest }, record { candidates = taken; unrelaxed = λ p. (λ h. h, λ h. h); entries = is }) in
      elim (decidable_entry (λ y. IsSamePair y x) (λ y. decidable_pair y x) s) [
        | inl (p, (e, here, pair)) ↦ elim (cases_lt x.arc e.arc) [
          | inr lesser ↦ merged s (keeps (record { entry = e; is_entry = (p, here); same = pair; lesser = lesser; entries = λ p y. (λ h. h, λ h. h) }))
          | inl greater ↦
              let (b, becomes) = made s (λ _ y. y ≢ e) (λ _ y. decidable_not (cases_label y e)) x p in
              merged b (lowers (record { place = p; entry = e; is_entry = here; same = pair; greater = greater; entries = becomes }))
        ]
        | inr none ↦
            let new = λ (y : Label) (h : IsEntry s y). none h.0 y h.1 in
            elim (decidable_entry (λ y. Beats y x) (λ y. cases_beats y x) s) [
              | inl (p, (e, here, beats)) ↦
                  merged s (discards (record { new = new; entry = e; is_entry = (p, here); beats = beats; entries = λ p y. (λ h. h, λ h. h) }))
              | inr unbeaten ↦
                  let (b, becomes) = made s (λ p y. (p ≡ settled) ⊎ (¬ Beats x y)) (λ p y. grind (arith, cases_beats x y)) x waiting in
                  merged b (enters (record { new = new; unbeaten = λ y h. unbeaten h.0 y h.1; entries = becomes }))
            ]
      ]

-- ---- labels that move to one place

module _ (to : Place) (Opens : Label × ℕ → Type 0) where
  none_moved : (s b : SearchState) (L : Label → Type 0) → ((y : Label) → ¬ L y) → IsSame b s → Moves L to Opens s b
  none_moved s b L none same = record {
    entries = λ p y. let n = none y in let e = same.entries p y in grind arith;
    unrelaxed = λ p. let n = none p.0 in let e = same.unrelaxed p in grind arith;
    candidates = search IsPermutation-sym;
  }

  -- those that L and then M hold of move, and these are those that N holds of
  moved_on : (a b c d : SearchState) (L M N : Label → Type 0) → ((y : Label) → N y ↔ (L y ⊎ M y)) → ((y : Label) → L y → ¬ M y) → IsSame b a
      → Moves L to Opens b c → Moves M to Opens c d → Moves N to Opens a d
  moved_on a b c d L M N joined apart same first second = record {
    entries = λ p y. let j = joined y in let k = apart y in let e = same.entries p y in let f = first.entries p y in let g = second.entries p y in grind arith;
    unrelaxed = λ p. let j = joined p.0 in let e = same.unrelaxed p in let f = first.unrelaxed p in let g = second.unrelaxed p in grind arith;
    candidates = search (IsPermutation-trans, IsPermutation-sym);
  }

  one_moved : (s a b : SearchState) (L : Label → Type 0) → Moves L to Opens s a → Moves L to Opens s b → IsSame a b
  one_moved s a b L first second = record {
    entries = λ p. same_by _ (entries_at a p) (entries_at b p) (first.entries p) (second.entries p);
    unrelaxed = same_by _ a.unrelaxed b.unrelaxed first.unrelaxed second.unrelaxed;
    candidates = search (IsPermutation-trans, IsPermutation-sym);
  }

  -- an event for each label, which moves it
  module _ (task : Task) (event : Label → Event)
      (moves : (s : SearchState) (l : Label) (next : SearchState) → Happens task s (event l) next → Moves (λ y. y ≡ l) to Opens s next) where
    -- a run of such events moves all their labels
    moved_by_run : (ls : List Label) (P : Label → Type 0) (s b : SearchState) → ListsOnce P ls → Runs task s (map event ls) b → Moves P to Opens s b
    moved_by_run [] P s b lists run = none_moved s b P (λ y p. in_none y ((lists.exact y).1 p)) run
    moved_by_run (l ∷ ls) P s b lists run =
        let rest : ListsOnce (Contains ls) ls = record { exact = λ y. (λ h. h, λ h. h); once = pairs_rest ◌≢◌ l ls lists.once } in
        moved_on s run.from run.next b (λ y. y ≡ l) (Contains ls) P (λ y. let e = lists.exact y in let c = in_cons l ls y in grind arith)
        (λ y e more. pair_with_first ◌≢◌ l ls lists.once y more (sym e)) run.same (moves run.from l run.next run.step)
        (moved_by_run ls (Contains ls) run.next b rest run.rest)

    -- each order of them leads to one state, where each may happen after others
    module _ (P : Label → Type 0) (s : SearchState) (may : (L : Label → Type 0) (m : SearchState) (l : Label) → ((y : Label) → L y → P y)
        → Moves L to Opens s m → P l → ¬ L l → (next : SearchState) × Happens task m (event l) next) where
      run_exists : (ls : List Label) (L : Label → Type 0) (m : SearchState) → AllPairs ◌≢◌ ls → ((y : Label) → L y → P y) → Moves L to Opens s m
          → ((l : Label) → Contains ls l → P l × (¬ L l)) → (b : SearchState) × Runs task m (map event ls) b
      run_exists [] L m distinct within moved each = (m, same_itself m)
      run_exists (l ∷ ls) L m distinct within moved each =
          let (chosen, new) = each l (in_first l ls) in
          let (next, step) = may L m l within moved chosen new in
          let M : Label → Type 0 = λ y. L y ⊎ (y ≡ l) in
          let on = moved_on s s m next L (λ y. y ≡ l) M (λ y. (λ h. h, λ h. h)) (λ y old e. new (subst L e old)) (same_itself s) moved (moves m l next step) in
          let (b, run) = run_exists ls M next (pairs_rest ◌≢◌ l ls distinct) (λ y. grind (arith, within y)) on
          (λ y h. grind (arith, each y (in_rest l ls y h), pair_with_first ◌≢◌ l ls distinct y h)) in
          (b, record { from = m; same = same_itself m; next = next; step = step; rest = run })

      moves_all : (ls : List Label) → ListsOnce P ls
          → ((b : SearchState) × Runs task s (map event ls) b) × ((b : SearchState) → Runs task s (map event ls) b ↔ Moves P to Opens s b)
      moves_all ls lists =
          let none = none_moved s s (λ y. ⊥) (λ y wrong. wrong) (same_itself s) in
          let (c, run) = run_exists ls (λ y. ⊥) s lists.once (λ y wrong. absurd wrong) none (λ l there. ((lists.exact l).0 there, λ wrong. wrong)) in (
            (c, run),
            λ b. (moved_by_run ls P s b lists, λ moved. runs_to_same task s c b (map event ls) run (one_moved s b c P moved (moved_by_run ls P s c lists run))),
          )

drop_moves : (task : Task) (s : SearchState) (l : Label) (next : SearchState) → Drops task s l next → Moves (λ y. y ≡ l) dropped (λ _. ⊥) s next
drop_moves task s l next h = record { entries = h.entries; unrelaxed = λ p. let u = h.unrelaxed p in grind arith; candidates = h.candidates }

abbrev OpensArcs : Task → Label × ℕ → Type 0
OpensArcs task p = LeadsOn task.network p.0.node p.1

take_moves : (task : Task) (s : SearchState) (l : Label) (next : SearchState) → Takes task s l next → Moves (λ y. y ≡ l) settled (OpensArcs task) s next
take_moves task s l next h = record { entries = h.entries; unrelaxed = λ p. let u = h.unrelaxed p in grind arith; candidates = h.candidates }

-- ---- what is told of a state

module _ (task : Task) (s : SearchState) where
  -- whether a label may be dropped
  pub decidable_may_drop : (l : Label) → IsDecidable (MayDrop task s l)
  decidable_may_drop l =
      let beaten = decidable_member (λ y. (y.node ≡ task.target) × Dominates y.cost l.cost)
      (λ y. decidable_both (cases_eq y.node task.target) (cases_Dominates y.cost l.cost)) s.settled in
      grind (arith, decidable_in cases_label s.waiting l, cases_Within, beaten)

  -- whether the label stays after the drops
  pub decidable_stays : (l : Label) → IsDecidable (Stays task s l)
  decidable_stays l = grind (arith, decidable_in cases_label s.waiting l, decidable_may_drop)

  -- whether what stays dominates a label
  pub decidable_better : (l : Label) → ((z : Label) × Stays task s z × Dominates z.cost l.cost) ⊎ ((z : Label) → Stays task s z → ¬ Dominates z.cost l.cost)
  decidable_better l =
      let some = decidable_some (λ z. Stays task s z × Dominates z.cost l.cost)
      (λ z. decidable_both (decidable_stays z) (cases_Dominates z.cost l.cost)) s.waiting in
      grind arith

  -- all labels that may be dropped, and all that are next
  some_lists : (drops takes : List Label) × ListsOnce (MayDrop task s) drops × ListsOnce (IsNext task s) takes
  some_lists =
      let (drops, each_drop) = list_all cases_label (MayDrop task s) decidable_may_drop s.waiting (λ l h. h.waits) in
      let (takes, each_take) = list_all cases_label (IsNext task s) (λ l. grind (arith, decidable_stays l, decidable_better l)) s.waiting
      (λ l h. h.stays.waits) in
      (drops, takes, each_drop, each_take)

-- ---- all drops

-- each order of the drops leads to one state
pub all_drops : (task : Task) (s : SearchState) → IsSound task s → (ls : List Label) → ListsOnce (MayDrop task s) ls
    → ((b : SearchState) × Runs task s (map (λ l. drop l) ls) b) × ((b : SearchState) → Runs task s (map (λ l. drop l) ls) b ↔ DropsAll task s b)
all_drops task s sound = moves_all dropped (λ _. ⊥) task (λ l. drop l) (drop_moves task) (MayDrop task s) s (λ L m l within moved may new.
    let useless = useless_on task s m (λ y old. grind (arith, moved.entries settled y, sound.apart.placed settled waiting y, within y)) l.cost may.useless in
    drop_happens task m l (record { waits = (moved.entries waiting l).1 (inl (may.waits, new)); useless = useless }))

-- what waits after the drops
pub left_waiting : (task : Task) (s left : SearchState) → DropsAll task s left → (y : Label) → Contains left.waiting y ↔ Stays task s y
left_waiting task s left all y = let e = all.entries waiting y in grind arith

-- ---- both

-- the drops and then the takes lead to one state
pub one_begun : (task : Task) (s a b : SearchState) → IsBegun task s a → IsBegun task s b → IsSame a b
one_begun task s a b first second = record {
  entries = λ p y. let f = first.entries p y in let g = second.entries p y in grind arith;
  unrelaxed = λ p. let f = first.unrelaxed p in let g = second.unrelaxed p in grind arith;
  candidates = grind (arith, IsPermutation-refl);
}

module _ (task : Task) (s left : SearchState) (between : IsBetweenRounds s) (all : DropsAll task s left) where
  -- once some of what waits are taken, only their arcs are to be relaxed, and there is no candidate
  only_opened : (L : Label → Type 0) (m : SearchState) → Moves L settled (OpensArcs task) left m → (p : Label × ℕ)
      → Contains m.unrelaxed p ↔ (L p.0 × OpensArcs task p)
  only_opened L m moved p = let e = all.unrelaxed p in let u = moved.unrelaxed p in grind (arith, none_of_empty, between.unrelaxed)

  no_candidate : (b : SearchState) → IsPermutation left.candidates b.candidates → (x : Label) → ¬ Contains b.candidates x
  no_candidate b moved x h =
      none_of_empty s.candidates between.candidates x ((same_by_permutation s.candidates b.candidates (search (IsPermutation-trans, all.candidates)) x).0 h)

  undominated_is_next : (y : Label) → IsNext task s y ↔ IsUndominated left.waiting y
  undominated_is_next y =
      let waiting = left_waiting task s left all in (λ h. grind (arith, waiting), λ h. let stays = (waiting y).0 h.member in grind (arith, waiting))

  begun_by_moves : (b : SearchState) → Moves (IsUndominated left.waiting) settled (OpensArcs task) left b → IsBegun task s b
  begun_by_moves b moved = record {
    entries = λ p y. let e = all.entries p y in let m = moved.entries p y in let u = undominated_is_next y in grind arith;
    unrelaxed = λ p. let o = only_opened (IsUndominated left.waiting) b moved p in let u = undominated_is_next p.0 in grind arith;
    candidates = empty_if_none b.candidates (no_candidate b moved.candidates);
  }

  may_take : (L : Label → Type 0) (m : SearchState) (l : Label) → ((y : Label) → L y → IsUndominated left.waiting y)
      → Moves L settled (OpensArcs task) left m → IsUndominated left.waiting l → Contains m.waiting l → MayTake task m l
  may_take L m l within moved next there =
      let stays = (left_waiting task s left all l).0 next.member in record {
        waits = there;
        within = grind (arith, cases_Within task.limit l.cost, stays);
        undominated = λ y. elim [
          | waits h ↦ grind (arith, moved.entries waiting y, next.none_better y)
          | is_candidate h ↦ absurd (no_candidate m moved.candidates y h)
          | has_arc k h ↦ grind (arith, only_opened L m moved (y, k), within y, next.none_better y)
        ];
        unbeaten = λ h. grind (arith, stays, all.entries settled h.by, moved.entries settled h.by, within h.by, next.none_better h.by);
        alone = λ x h. absurd (no_candidate m moved.candidates x h);
      }

  -- each order of the takes leads to one state
  all_takes : (ls : List Label) → ListsOnce (IsUndominated left.waiting) ls → ((b : SearchState) × Runs task left (map (λ l. take l) ls) b)
      × ((b : SearchState) → Runs task left (map (λ l. take l) ls) b ↔ Moves (IsUndominated left.waiting) settled (OpensArcs task) left b)
  all_takes = moves_all settled (OpensArcs task) task (λ l. take l) (take_moves task) (IsUndominated left.waiting) left
      (λ L m l within moved next new. take_happens task m l (may_take L m l within moved next ((moved.entries waiting l).1 (inl (next.member, new)))))

module _ (task : Task) (is : IsTask task) (s : SearchState) (sound : IsSound task s) (between : IsBetweenRounds s) where
  begun_by : (b : SearchState) → Begins task s b → IsBegun task s b
  begun_by b h =
      let all = ((all_drops task s sound h.drops h.each_drop).1 h.left).0 h.dropping in
      begun_by_moves task s h.left between all b (((all_takes task s h.left between all h.takes h.each_take).1 b).0 h.taking)

  module _ (drops takes : List Label) (each_drop : ListsOnce (MayDrop task s) drops) (each_take : ListsOnce (IsNext task s) takes) where
    abbrev halves : List Event
    halves = map (λ l. drop l) drops ++ map (λ l. take l) takes

    each_undominated : (left : SearchState) → DropsAll task s left → ListsOnce (IsUndominated left.waiting) takes
    each_undominated left all = once_as (IsNext task s) (IsUndominated left.waiting) takes (undominated_is_next task s left between all) each_take

    begins_by_run : (b : SearchState) → Runs task s halves b → Begins task s b
    begins_by_run b run =
        let (left, first, second) = runs_apart task s b (map (λ l. drop l) drops) (map (λ l. take l) takes) run in
        let each = each_undominated left (((all_drops task s sound drops each_drop).1 left).0 first) in
        record { drops = drops; each_drop = each_drop; left = left; dropping = first; takes = takes; each_take = each; taking = second }

    begun_run : (b : SearchState) × Runs task s halves b
    begun_run =
        let ((left, first), order) = all_drops task s sound drops each_drop in
        let all = (order left).0 first in
        let ((b, second), _) = all_takes task s left between all takes (each_undominated left all) in
        (b, runs_on task s left b (map (λ l. drop l) drops) (map (λ l. take l) takes) first second)

    -- each order of the drops and then each of the takes leads there
    pub begun_in_any_order : (b : SearchState) → Runs task s halves b ↔ IsBegun task s b
    begun_in_any_order b = (
      λ run. begun_by b (begins_by_run b run),
      λ begun. let (c, run) = begun_run in runs_to_same task s c b halves run (one_begun task s b c begun (begun_by c (begins_by_run c run))),
    )

  -- there is such a state
  pub some_begun : (b : SearchState) × IsBegun task s b
  some_begun =
      let (drops, takes, each_drop, each_take) = some_lists task s in
      let (b, run) = begun_run drops takes each_drop each_take in
      (b, begun_by b (begins_by_run drops takes each_drop each_take b run))

  -- a round's first half leads there
  pub begins_is_begun : (b : SearchState) → Begins task s b ↔ IsBegun task s b
  begins_is_begun b =
      let (drops, takes, each_drop, each_take) = some_lists task s in
      (begun_by b, λ begun. begins_by_run drops takes each_drop each_take b ((begun_in_any_order drops takes each_drop each_take b).1 begun))
