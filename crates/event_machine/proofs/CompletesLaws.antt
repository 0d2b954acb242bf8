-- Relaxes and merges lose nothing that survives, and keep its place; at the end all survivors are entries. So lists that complete a round are runs to
-- its outcome, in whatever order, and so are those that relax all and then merge all.
-- The events of pieces, drawn in any order, complete the round.
use Rattle.std.proofs.Common.{◌≡◌, ◌≢◌, ◌↔◌, ◌⊎◌, List, [], inl, inr, refl, sym, subst, ◌∙◌, arith, ℕ, ◌∷◌, ◌++◌, map, ap, ap₂, AllPairs, Contains}
use Rattle.std.proofs.Common.{IsPermutation, ◌<◌, ◌+◌, zero, suc, length, get_or, add-one, flat_map}
use Rattle.std.specs.List.{range_with_len, AllZip}
use Rattle.std.proofs.lemmas.List.Sorted.{IsPermutation-refl, IsPermutation-trans}
use Rattle.std.proofs.lemmas.List.{map-append}
use Rattle.cost_vector.specs.Costs.{AtMost}
use Rattle.cost_vector.proofs.Vectors.{AtMost-trans, AtMost-antisymm}
use Rattle.list_laws.specs.Sets.{ListsOnce}
use Rattle.list_laws.proofs.SetLaws.{none_of_empty, same_by_permutation}
use Rattle.list_laws.proofs.OnceLaws.{alike_back, alike_through, same_by, members_once, rest_once, lists_append, empty_if_none, once_as, pairs_append}
use Rattle.list_laws.proofs.OnceLaws.{pairs_of_members, lists_in_any_order, lists_permute, lists_images, in_append, once_apart, flat_in_any_order, range_once}
use Rattle.list_laws.proofs.Members.{in_none, in_first, cases_in}
use Rattle.list_laws.proofs.Pairs.{pairs_rest, pair_with_first, pairs_none}
use Rattle.road_network.specs.Network.{Network}
use Rattle.event_machine.specs.Machine.{Task, IsTask, Beats, SearchState, Place, settled, dropped, waiting, entries_at, IsEntry}
use Rattle.road_network.specs.Labels.{Label}
use Rattle.event_machine.specs.Events.{Event, take, drop, relax, merge, SameEntries, IsSame, IsMerged, keeps, lowers, discards, enters, Merges, Happens, Runs}
use Rattle.event_machine.specs.Orders.{IsArrival, IsToDo, Survives, HasPair, Belongs, IsOutcome, MergesResult, Completes}
use Rattle.event_machine.specs.Rounds.{relaxing, Finishes}
use Rattle.event_machine.specs.Pieces.{joined, IsRelaxOf, relaxes, AreRelaxPieces, AreMergePieces, merges_of, AreDoneInPieces}
use Rattle.event_machine.proofs.Sound.{IsSound, AreApart, Covers, IsCovered, IsMet, covered_by_itself, below_pair, cases_label, label_by_parts}
use Rattle.event_machine.proofs.Sound.{same_pair, cases_pair, cases_below}
use Rattle.event_machine.proofs.Keeping.{place_before_merge, Changes, changes_of, arrivals_by_relax, arrivals_by_merge, candidates_by_merge, arrival_on}
use Rattle.event_machine.proofs.Keeping.{same_changes, met_after, sound_after, same_is_sound}
use Rattle.event_machine.proofs.Running.{runs_to_same, same_itself, runs_on, runs_apart, run_exists, runs_to_end}
use Rattle.event_machine.proofs.BegunLaws.{relax_happens, merge_happens}

-- ---- what is kept

abbrev IsPresent : Network → SearchState → Label → Type 0
IsPresent net s y = IsEntry s y ⊎ IsArrival net s y

abbrev IsUnbeaten : Network → SearchState → Label → Type 0
IsUnbeaten net s y = (z : Label) → IsPresent net s z → ¬ Beats z y

-- what is met at a is met at b, nothing is new at b, and what is unbeaten keeps its place
pub record KeepsOutcome (net : Network) (a b : SearchState) : Type 0 where
  pub met : (y : Label) → IsMet net a y → IsMet net b y
  pub back : (y : Label) → IsPresent net b y → IsPresent net a y
  pub places : (p : Place) → p ≢ waiting → (y : Label) → IsUnbeaten net a y → HasPair (entries_at a p) y ↔ HasPair (entries_at b p) y

-- where ys has the node and cost of each of the xs, it has each node and cost that xs has
pair_on : (xs ys : List Label) → ((z : Label) → Contains xs z → HasPair ys z) → (y : Label) → HasPair xs y → HasPair ys y
pair_on xs ys on y h = let k = on h.label h.member in record { label = k.label; member = k.member; same = grind arith }

-- a list has the node and cost of each of its labels
pair_itself : (xs : List Label) (y : Label) → Contains xs y → HasPair xs y
pair_itself xs y there = record { label = y; member = there; same = same_pair y y refl }

-- where a label is merged that doesn't beat y, a place that had y's node and cost has them still
module _ (a b : SearchState) (x : Label) (apart : AreApart a) (p : Place) (y : Label) (unbeaten : ¬ Beats x y) where
  place_after : IsMerged a x b → HasPair (entries_at a p) y → HasPair (entries_at b p) y
  place_after (keeps k) was = record { label = was.label; member = (k.entries p was.label).1 was.member; same = was.same }
  place_after (discards k) was = record { label = was.label; member = (k.entries p was.label).1 was.member; same = was.same }
  place_after (enters k) was =
      record { label = was.label; member = (k.entries p was.label).1 (inl (was.member, inr (λ beats. unbeaten (grind arith)))); same = was.same }
  place_after (lowers k) was = elim (cases_label was.label k.entry) [
    | inr other ↦ record { label = was.label; member = (k.entries p was.label).1 (inl (was.member, other)); same = was.same }
    | inl e ↦ record { label = x; member = (k.entries p x).1 (inr (apart.placed p k.place k.entry (rw e at was.member) k.is_entry, refl)); same = grind arith }
  ]

-- what leads from a to b keeps what led to a
module _ (task : Task) (is : IsTask task) (s a b : SearchState) (kept : KeepsOutcome task.network s a) (sound : IsSound task a) where
  keeps_outcome : Changes task a b → ((y : Label) → IsArrival task.network b y → IsArrival task.network a y)
      → ((p : Place) → p ≢ waiting → (y : Label) → IsUnbeaten task.network a y → HasPair (entries_at a p) y ↔ HasPair (entries_at b p) y)
      → KeepsOutcome task.network s b
  keeps_outcome changes arrivals places = record {
    met = λ y h. met_after task is a b sound changes y (kept.met y h);
    back = λ y h. kept.back y (elim h [ inr arrival ↦ inr (arrivals y arrival) | inl entry ↦ let known = changes.entries.known y entry in grind arith ]);
    places = λ p other y none. alike_through (kept.places p other y none) (places p other y (λ z there. none z (kept.back z there)));
  }

  pub same_keeps : Changes task a b → ((y : Label) → IsArrival task.network b y → IsArrival task.network a y) → SameEntries b a → KeepsOutcome task.network s b
  same_keeps changes arrivals same = keeps_outcome changes arrivals (λ p other y unbeaten.
      (pair_on _ _ (λ z h. pair_itself _ z ((same p z).1 h)) y, pair_on _ _ (λ z h. pair_itself _ z ((same p z).0 h)) y))

  merge_keeps : (x : Label) → Merges a x b → KeepsOutcome task.network s b
  merge_keeps x h =
      let mine = (candidates_by_merge a b x h x).1 (inr refl) in
      keeps_outcome (changes_of task is a b sound (merge x) h) (λ y arrival. ((arrivals_by_merge task is a b sound x h y).0 arrival).0)
      (λ p other y unbeaten. (
        place_after a b x sound.apart p y (unbeaten x (inr (inl mine))) h.entries,
        pair_on _ _ (λ z here. elim (place_before_merge task a b sound x mine h.entries p z here) [ inl was ↦ was | inr (waits, _) ↦ absurd (other waits) ]) y,
      ))

  -- an event that is to do keeps it
  pub event_keeps : (event : Event) → IsToDo task.network a event → Happens task a event b → KeepsOutcome task.network s b
  event_keeps (merge x) due h = merge_keeps x h
  event_keeps (relax l k) due h = same_keeps (changes_of task is a b sound (relax l k) h) (λ y. (arrivals_by_relax task a b l k h y).1) h.entries
  event_keeps _ due h = absurd due

-- ---- at the end

-- what stands nowhere else stands in the third place
neither : {E F W S H K : Type 0} → (W → S) → (S → E ⊎ (F ⊎ W)) → (S → (H ↔ E)) → (S → (K ↔ F)) → (W → ¬ (E ⊎ F)) → (W ↔ (S × ((¬ H) × (¬ K))))
neither survives come alike alike_too apart = grind arith

module _ (net : Network) (a b : SearchState) (kept : KeepsOutcome net a b) (apart : AreApart b)
    (no_arc : b.unrelaxed ≡ []) (no_candidate : b.candidates ≡ []) where
  covered : (y : Label) → IsPresent net a y → IsCovered b y
  covered y present = grind (arith, covered_by_itself, none_of_empty)

  -- an entry can stand for all before that isn't worse
  covers_back : (y z : Label) → IsEntry b y → IsPresent net a z → z.node ≡ y.node → AtMost z.cost y.cost → Covers y z
  covers_back y z entry there node below = let by = covered z there in
      rw (apart.alone by.entry y by.is_entry entry (by.covers.node ∙ node) (AtMost-trans _ z.cost _ by.covers.cost below)) at by.covers

  entry_survives : (y : Label) → IsEntry b y → Survives net a y
  entry_survives y entry = record {
    present = kept.back y (inl entry);
    unbeaten = λ z there beats. beats.cost.differs (AtMost-antisymm _ _ beats.cost.at_most (covers_back y z entry there beats.node beats.cost.at_most).cost);
    least = λ z there pair. (covers_back y z entry there pair.node (below_pair z y pair)).arc (sym pair.cost);
  }

  survivor_enters : (y : Label) → Survives net a y → IsEntry b y
  survivor_enters y survives =
      let by = covered y survives.present in
      let there = kept.back by.entry (inl by.is_entry) in
      elim (cases_below by.entry y by.covers.node by.covers.cost) [
        | inr beats ↦ absurd (survives.unbeaten by.entry there beats)
        | inl pair ↦ subst (IsEntry b) (label_by_parts _ y pair (omega (arith, by.covers.arc pair.cost, survives.least by.entry there pair))) by.is_entry
      ]

  -- a survivor stands at a place other than the waiting one where an entry of its pair stood
  stands_alike : (p : Place) → p ≢ waiting → (y : Label) → Survives net a y → HasPair (entries_at a p) y ↔ Contains (entries_at b p) y
  stands_alike p other y survives = alike_through (kept.places p other y survives.unbeaten) (
    λ h. rw (apart.alone h.label y (p, h.member) (survivor_enters y survives) h.same.node (below_pair h.label y h.same)) at h.member,
    pair_itself (entries_at b p) y,
  )

  at_place : (p : Place) (y : Label) → Contains (entries_at b p) y ↔ (Survives net a y × Belongs a y p)
  at_place settled y = let is = λ (h : Contains b.settled y). entry_survives y (settled, h) in let alike = stands_alike settled (λ e. cc) y in grind arith
  at_place dropped y = let is = λ (h : Contains b.dropped y). entry_survives y (dropped, h) in let alike = stands_alike dropped (λ e. cc) y in grind arith
  at_place waiting y = neither (λ here. entry_survives y (waiting, here)) (λ survives. let entry = survivor_enters y survives in grind arith)
      (stands_alike settled (λ e. cc) y) (stands_alike dropped (λ e. cc) y)
      (λ here. elim [ inl there ↦ absurd cc (apart.placed settled waiting y there here) | inr there ↦ absurd cc (apart.placed dropped waiting y there here) ])

  pub outcome_at_end : IsOutcome net a b
  outcome_at_end = record { entries = at_place; unrelaxed = no_arc; candidates = no_candidate }

-- the outcome is one state
pub one_outcome : (net : Network) (s a b : SearchState) → IsOutcome net s a → IsOutcome net s b → IsSame a b
one_outcome net s a b first second = record {
  entries = λ p. same_by _ (entries_at a p) (entries_at b p) (first.entries p) (second.entries p);
  unrelaxed = λ p. subst (λ ps. Contains a.unrelaxed p ↔ Contains ps p) (first.unrelaxed ∙ sym second.unrelaxed) (λ h. h, λ h. h);
  candidates = subst (IsPermutation a.candidates) (first.candidates ∙ sym second.candidates) (IsPermutation-refl a.candidates);
}

-- ---- pieces by their numbers

shifted : {X : Type 0} (f : ℕ → List X) (a n : ℕ) → flat_map f (range_with_len (a + 1) n) ≡ flat_map (λ i. f (suc i)) (range_with_len a n)
shifted f a zero = refl
shifted f a (suc n) = ap₂ ◌++◌ (ap f (add-one a)) (shifted f (a + 1) n)

by_number : {X : Type 0} (pieces : List (List X)) → flat_map (λ i. get_or pieces i []) (range_with_len 0 (length pieces)) ≡ joined pieces
by_number [] = refl
by_number (p ∷ ps) = ap (λ rest. p ++ rest) (shifted (λ i. get_or (p ∷ ps) i []) 0 (length ps) ∙ by_number ps)

-- what is done in pieces is all of the pieces, in some order
done_permutes : (pieces : List (List Event)) (drawn : List ℕ) (events : List Event) → AreDoneInPieces pieces drawn events → IsPermutation (joined pieces) events
done_permutes pieces drawn events done =
    let all = flat_in_any_order (λ i. get_or pieces i []) (λ i. i < length pieces) _ drawn (range_once (length pieces)) done.drawn in
    rw (← by_number pieces) (IsPermutation-trans _ _ events all done.done)

merges_joined : (cut : List (List Label)) → joined (merges_of cut) ≡ map (λ x. merge x) (joined cut)
merges_joined [] = refl
merges_joined (c ∷ cs) = rw (map-append (λ x. merge x) c (joined cs)) (ap (λ rest. map (λ x. merge x) c ++ rest) (merges_joined cs))

-- ---- halves

-- the event relaxes a pair that is to be relaxed
abbrev pub IsRelaxing : SearchState → Event → Type 0
IsRelaxing s (relax l k) = Contains s.unrelaxed (l, k)
IsRelaxing s _ = ⊥

-- the event merges what arrives
abbrev pub IsMerging : Network → SearchState → Event → Type 0
IsMerging net s (merge x) = IsArrival net s x
IsMerging net s _ = ⊥

-- the label that an event is about
abbrev source : Event → Label
source (take l) = l
source (drop l) = l
source (relax l k) = l
source (merge x) = x

module _ (net : Network) (s : SearchState) where
  -- all relaxes in any order, and then all merges in any order
  pub halves_complete : (first second : List Event) → ListsOnce (IsRelaxing s) first → ListsOnce (IsMerging net s) second → Completes net s (first ++ second)
  halves_complete first second due due_next = let order = λ (a b : Event). ¬ MergesResult net a b in record {
    all = lists_append (IsRelaxing s) (IsMerging net s) _ first second (λ event. grind arith) (λ event. grind arith) due due_next;
    in_order = pairs_append order first second (pairs_of_members order first (λ a b h k. let is = (due.exact a).0 h in grind arith))
        (pairs_of_members order second (λ a b h k. let is = (due_next.exact b).0 k in grind arith)) (λ a b h k. let is = (due.exact a).0 h in grind arith);
  }

  -- the merges of all that arrives
  pub mergings : (xs : List Label) → ListsOnce (IsArrival net s) xs → ListsOnce (IsMerging net s) (map (λ x. merge x) xs)
  mergings xs = lists_images (λ x. merge x) (IsArrival net s) (IsMerging net s) xs (λ x y e. cc) (λ x h. h) (λ event h. grind arith)

  -- the relaxes of all pairs, and then those merges
  relaxes_then_merges : (ps : List (Label × ℕ)) (xs : List Label) → ListsOnce (Contains s.unrelaxed) ps → ListsOnce (IsArrival net s) xs
      → Completes net s (map relaxing ps ++ map (λ x. merge x) xs)
  relaxes_then_merges ps xs pairs arrivals = halves_complete _ _
      (lists_images relaxing (Contains s.unrelaxed) (IsRelaxing s) ps (λ p q e. grind arith) (λ p h. h) (λ event h. grind arith) pairs) (mergings xs arrivals)

  -- ---- halves in pieces

  -- to relax an arc from one of the labels is to relax one, and to be about one of the labels
  relax_of : (labels : List Label) (event : Event) → IsRelaxOf s labels event ↔ (Contains labels (source event) × IsRelaxing s event)
  relax_of labels event = grind (arith, relaxes)

  relaxes_joined : (cut : List (List Label)) (pieces : List (List Event)) → AllPairs ◌≢◌ (joined cut)
      → AllZip (λ labels events. ListsOnce (IsRelaxOf s labels) events) cut pieces
      → ListsOnce (λ event. Contains (joined cut) (source event) × IsRelaxing s event) (joined pieces)
  relaxes_joined [] [] apart zipped = record { exact = λ event. grind arith; once = pairs_none ◌≢◌ }
  relaxes_joined (c ∷ cs) (p ∷ ps) apart zipped =
      let (apart_rest, across) = once_apart c (joined cs) apart in
      lists_append _ _ _ p (joined ps) (λ event. let either = in_append c (joined cs) (source event) in grind arith)
      (λ event h k. across (source event) h.0 k.0) (once_as _ _ p (relax_of c) zipped.0) (relaxes_joined cs ps apart_rest zipped.1)
  relaxes_joined _ _ apart zipped = absurd zipped

  relaxes_done : (cut : List (List Label)) (pieces : List (List Event)) → AreRelaxPieces s cut pieces → ListsOnce (IsRelaxing s) (joined pieces)
  relaxes_done cut pieces are = once_as _ (IsRelaxing s) _ (λ event. (λ h. h.1, λ h. (from event h, h))) (relaxes_joined cut pieces are.apart are.events) where
    from : (event : Event) → IsRelaxing s event → Contains (joined cut) (source event)
    from (relax l k) pair = are.each l k pair
    from _ wrong = absurd wrong

  -- relaxes in pieces, and then merges in pieces
  pub pieces_complete : (labels arrivals : List (List Label)) (pieces : List (List Event)) (drawn drawn_next : List ℕ)
      (first second : List Event) → AreRelaxPieces s labels pieces → AreDoneInPieces pieces drawn first
      → AreMergePieces net s arrivals → AreDoneInPieces (merges_of arrivals) drawn_next second → Completes net s (first ++ second)
  pieces_complete labels arrivals pieces drawn drawn_next first second are done are_next done_next =
      let moved = rw (merges_joined arrivals) at (done_permutes (merges_of arrivals) drawn_next second done_next) in
      halves_complete first second (lists_in_any_order _ _ first (done_permutes pieces drawn first done) (relaxes_done labels pieces are))
      (lists_in_any_order _ _ second moved (mergings (joined arrivals) are_next))

-- ---- what is to do

module _ (task : Task) (is : IsTask task) where
  arrival_alike : (a b : SearchState) → IsSame a b → (x : Label) → IsArrival task.network a x ↔ IsArrival task.network b x
  arrival_alike a b same x = let moved = same_by_permutation a.candidates b.candidates same.candidates in
      (arrival_on _ a b (λ y. (moved y).1) (λ p. (same.unrelaxed p).0) x, arrival_on _ b a (λ y. (moved y).0) (λ p. (same.unrelaxed p).1) x)

  to_do_alike : (a b : SearchState) → IsSame b a → (event : Event) → IsToDo task.network a event ↔ IsToDo task.network b event
  to_do_alike a b same (relax l k) = alike_back (same.unrelaxed (l, k))
  to_do_alike a b same (merge x) = alike_back (arrival_alike b a same x)
  to_do_alike a b same _ = (λ h. h, λ h. h)

  -- an event leaves all else to do
  to_do_after : (a b : SearchState) → IsSound task a → (event : Event) → IsToDo task.network a event → Happens task a event b
      → (other : Event) → IsToDo task.network b other ↔ (IsToDo task.network a other × (other ≢ event))
  to_do_after a b sound (relax l k) due h (relax m j) = let left = h.unrelaxed (m, j) in grind arith
  to_do_after a b sound (relax l k) due h (merge x) = let left = arrivals_by_relax task a b l k h x in grind arith
  to_do_after a b sound (merge x) due h (relax m j) = let left = h.unrelaxed (m, j) in grind arith
  to_do_after a b sound (merge x) due h (merge y) = let left = arrivals_by_merge task is a b sound x h y in grind arith
  to_do_after a b sound event due h other = grind arith

  -- ---- lists that complete

  -- the events complete what the state s leads to
  record IsLeft (s : SearchState) (events : List Event) (m : SearchState) : Type 0 where
    pub sound : IsSound task m
    pub all : ListsOnce (IsToDo task.network m) events
    pub in_order : AllPairs (λ a b. ¬ MergesResult task.network a b) events
    pub kept : KeepsOutcome task.network s m

  module _ (s : SearchState) where
    left_alike : (events : List Event) (a b : SearchState) → IsSame b a → IsLeft s events a → IsLeft s events b
    left_alike events a b same left = record {
      sound = same_is_sound task is a b same left.sound;
      all = once_as _ (IsToDo task.network b) events (to_do_alike a b same) left.all;
      in_order = left.in_order;
      kept = same_keeps task is s a b left.kept left.sound (same_changes task is a b left.sound same) (λ x. (arrival_alike b a same x).0) same.entries;
    }

    left_on : (event : Event) (rest : List Event) (a b : SearchState) → IsLeft s (event ∷ rest) a → Happens task a event b → IsLeft s rest b
    left_on event rest a b left h =
        let due = (left.all.exact event).0 (in_first event rest) in record {
          sound = sound_after task is a b event left.sound h;
          all = rest_once _ (IsToDo task.network b) event rest (to_do_after a b left.sound event due h) left.all;
          in_order = pairs_rest (λ a b. ¬ MergesResult task.network a b) event rest left.in_order;
          kept = event_keeps task is s a b left.kept left.sound event due h;
        }

    first_happens : (event : Event) (rest : List Event) (a : SearchState) → IsLeft s (event ∷ rest) a → (b : SearchState) × Happens task a event b
    first_happens (relax l k) rest a left =
        let due = (left.all.exact (relax l k)).0 (in_first _ rest) in relax_happens _ a l k due (left.sound.paired l k due).1
    first_happens (merge x) rest a left = elim ((left.all.exact (merge x)).0 (in_first (merge x) rest)) [
      | inl there ↦ merge_happens a x there
      | inr (e, there, f) ↦ elim (cases_in (merge x) rest (relax e x.arc) ((left.all.exact (relax e x.arc)).1 there)) [
        | inl wrong ↦ absurd cc
        | inr later ↦ absurd (pair_with_first (λ a b. ¬ MergesResult task.network a b) (merge x) rest left.in_order (relax e x.arc) later (refl, f))
      ]
    ]
    first_happens event rest a left = absurd ((left.all.exact event).0 (in_first event rest))

    outcome_if_none_left : (b : SearchState) → IsLeft s [] b → IsOutcome task.network s b
    outcome_if_none_left b left =
        let none = λ (event : Event) (due : IsToDo task.network b event). in_none event ((left.all.exact event).1 due) in
        outcome_at_end task.network s b left.kept left.sound.apart (empty_if_none _ (λ p. none (relaxing p))) (empty_if_none _ (λ x h. none (merge x) (inl h)))

    module _ (sound : IsSound task s) (events : List Event) (completes : Completes task.network s events) where
      none_yet : IsLeft s events s
      none_yet = grind arith

      -- each list that completes leads to the outcome
      pub completes_to_outcome : (after : SearchState) → Runs task s events after ↔ IsOutcome task.network s after
      completes_to_outcome = runs_to_end task (IsLeft s) left_alike left_on first_happens _ outcome_if_none_left (one_outcome task.network s) events s none_yet

  -- ---- all relaxes

  -- where all is relaxed, each arrival is a candidate once
  pub arrivals_when_relaxed : (ps : List (Label × ℕ)) (s b : SearchState) → IsSound task s → ListsOnce (Contains s.unrelaxed) ps
      → Runs task s (map relaxing ps) b → ListsOnce (IsArrival task.network s) b.candidates
  arrivals_when_relaxed [] s b sound pairs run = record {
    exact = λ x. let moved = same_by_permutation b.candidates s.candidates run.candidates x in
        (λ here. inl (moved.1 here), elim [ inl there ↦ moved.0 there | inr (e, there, _) ↦ absurd (in_none _ ((pairs.exact (e, x.arc)).1 there)) ]);
    once = (same_is_sound task is s b run sound).fresh.once;
  }
  arrivals_when_relaxed (p ∷ ps) s b sound pairs run =
      let next_sound = sound_after task is run.from run.next (relaxing p) (same_is_sound task is s run.from run.same sound) run.step in
      let next_pairs = rest_once _ _ p ps run.step.unrelaxed (once_as _ (Contains run.from.unrelaxed) _ (λ q. alike_back (run.same.unrelaxed q)) pairs) in
      once_as _ _ _ (λ x. alike_through (alike_back (arrivals_by_relax task _ _ _ _ run.step x)) (arrival_alike run.from s run.same x))
      (arrivals_when_relaxed ps run.next b next_sound next_pairs run.rest)

  relaxes_exist : (ps : List (Label × ℕ)) (s : SearchState) → IsSound task s → ListsOnce (Contains s.unrelaxed) ps
      → (b : SearchState) × Runs task s (map relaxing ps) b
  relaxes_exist [] s sound pairs = (s, same_itself s)
  relaxes_exist (p ∷ ps) s sound pairs =
      let may = (pairs.exact p).0 (in_first p ps) in
      let (next, step) = relax_happens task s p.0 p.1 may (sound.paired p.0 p.1 may).1 in
      let (b, run) = relaxes_exist ps next (sound_after task is s next (relaxing p) sound step) (rest_once _ _ p ps step.unrelaxed pairs) in
      (b, record { from = s; same = same_itself s; next = next; step = step; rest = run })

  -- ---- the second half of a round

  module _ (s : SearchState) (sound : IsSound task s) where
    -- each second half leads to an outcome
    to_outcome : (after : SearchState) → Finishes task s after → IsOutcome task.network s after
    to_outcome after f =
        let lists = lists_in_any_order _ _ _ f.each_merge (arrivals_when_relaxed f.relaxes s f.relaxed sound f.each_relax f.relaxing_all) in
        (completes_to_outcome s sound _ (relaxes_then_merges task.network s _ _ f.each_relax lists) after).0
        (runs_on task s f.relaxed after (map relaxing f.relaxes) _ f.relaxing_all f.merging_all)

    -- some second half leads to an outcome, and to each state that is the same
    some_finish : (c : SearchState) × IsOutcome task.network s c × ((after : SearchState) → IsSame after c → Finishes task s after)
    some_finish =
        let (ps, pairs) = members_once cases_pair s.unrelaxed in
        let (b, relaxed) = relaxes_exist ps s sound pairs in
        let arrivals = arrivals_when_relaxed ps s b sound pairs relaxed in
        let completes = relaxes_then_merges task.network s ps b.candidates pairs arrivals in
        let (c, run) = run_exists task (IsLeft s) (left_alike s) (left_on s) (first_happens s) _ s (none_yet s sound _ completes) in
        let (m, first, second) = runs_apart task s c (map relaxing ps) (map (λ x. merge x) b.candidates) run in
        let all = lists_permute _ _ _ (arrivals_when_relaxed ps s m sound pairs first) arrivals in (
          c,
          (completes_to_outcome s sound _ completes c).0 run,
          λ after same.
              let merging = runs_to_same task m c after (map (λ x. merge x) b.candidates) second same in
              record { relaxes = ps; each_relax = pairs; relaxed = m; relaxing_all = first; merges = b.candidates; each_merge = all; merging_all = merging },
        )

    -- there is an outcome
    pub some_outcome : (after : SearchState) × IsOutcome task.network s after
    some_outcome = (some_finish.0, some_finish.1)

    -- a round's second half leads to the outcome
    pub finishes_is_outcome : (after : SearchState) → Finishes task s after ↔ IsOutcome task.network s after
    finishes_is_outcome after = (to_outcome after, λ outcome. some_finish.2 after (one_outcome task.network s after some_finish.0 outcome some_finish.1))
