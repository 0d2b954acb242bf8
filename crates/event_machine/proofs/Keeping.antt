-- What each event changes in a sound state: what becomes of the entries, and what of the arcs and the candidates. So each state is sound to which events lead.
use Rattle.std.proofs.Common.{◌≡◌, ◌≢◌, ◌≤◌, List, ◌⊎◌, inl, inr, refl, sym, arith, ℕ, ◌∷◌, ◌↔◌, Contains, IsPermutation, []}
use Rattle.std.proofs.lemmas.List.Sorted.{IsPermutation-sym}
use Rattle.cost_vector.specs.Costs.{AtMost, Within, Dominates}
use Rattle.cost_vector.proofs.Vectors.{Dominates-AtMost}
use Rattle.list_laws.proofs.Pairs.{pairs_cons, pairs_rest, pair_with_first}
use Rattle.list_laws.proofs.SetLaws.{same_by_permutation, gains_by_permutation, none_of_empty}
use Rattle.list_laws.proofs.OnceLaws.{once_in_any_order}
use Rattle.road_network.specs.Network.{Network}
use Rattle.road_network.specs.Answers.{IsRelevant}
use Rattle.road_network.proofs.Reached.{leads_alike}
use Rattle.event_machine.specs.Machine.{Task, Beats, SearchState, Place, settled, waiting, entries_at, IsEntry, IsActive, waits}
use Rattle.road_network.specs.Labels.{Label, IsSamePair}
use Rattle.event_machine.specs.Machine.{is_candidate, IsTask, dropped, has_arc, IsBeatenAtTarget, LeadsOn, Follows, start_label, start_state, HasSettled}
use Rattle.event_machine.specs.Events.{SameEntries, Becomes, IsMerged, keeps, lowers, discards, enters, Event, take, drop, relax, merge, MayTake}
use Rattle.event_machine.specs.Events.{Relaxes, Merges, Happens, IsSame, IsReached}
use Rattle.event_machine.specs.Orders.{HasPair, IsGiven, IsArrival}
use Rattle.event_machine.specs.Laws.{IsKnown}
use Rattle.event_machine.proofs.Sound.{Covers, covers_beaten, covers_pair, below_pair, IsCovered, covered_by_itself, AreApart, apart_by, IsSound, cases_label}
use Rattle.event_machine.proofs.Sound.{cases_beats, cases_below, same_pair, pair_back, IsFresh, IsMet, at_start, follows, label_by_parts, cases_pair}
use Rattle.event_machine.proofs.Sound.{follows_once, IsFounded, covers_through, grown_from_settled, taken_is_relevant, taken_is_least, all_settled}
use Rattle.event_machine.proofs.Running.{useless_on, along_run}

-- no settled label goes, each entry was known and can be stood for later, and they stay apart
pub record EntriesChange (a b : SearchState) : Type 0 where
  pub kept : (y : Label) → Contains a.settled y → Contains b.settled y
  pub known : (y : Label) → IsEntry b y → IsKnown a y
  pub active : (y : Label) → Contains b.waiting y → IsActive a y
  pub covers : (y : Label) → IsEntry a y → IsCovered b y
  pub apart : AreApart b

module _ (a b : SearchState) (apart : AreApart a) where
  -- entries that stay the same
  pub entries_stay : SameEntries b a → EntriesChange a b
  entries_stay same = record {
    kept = λ y there. (same settled y).1 there;
    known = λ y (p, here). inl (p, (same p y).0 here);
    active = λ y here. waits ((same waiting y).0 here);
    covers = λ y (p, there). covered_by_itself b y (p, (same p y).1 there);
    apart = apart_by b (λ p q y z y_in z_in node below. grind (arith, same p y, same q z, apart.alone y z, apart.placed p q y));
  }

  -- n comes to the entries that stay
  module _ (Stays : Place → Label → Type 0) (n : Label) (to : Place) (becomes : Becomes a Stays n to b)
      (source : Contains a.waiting n ⊎ Contains a.candidates n) (settled_stay : (y : Label) → Contains a.settled y → Stays settled y)
      (others_covered : (p : Place) (y : Label) → Contains (entries_at a p) y → Stays p y ⊎ Covers n y)
      (clear : (p : Place) (y : Label) → Contains (entries_at a p) y → Stays p y → n.node ≡ y.node → ¬ (AtMost n.cost y.cost ⊎ AtMost y.cost n.cost)) where
    pub entries_become : EntriesChange a b
    entries_become = record {
      kept = λ y there. (becomes settled y).1 (inl (there, settled_stay y there));
      known = λ y (p, here). grind (arith, becomes p y, source);
      active = λ y here. grind (arith, becomes waiting y, source, waits, is_candidate);
      covers = λ y (p, there). let now : IsEntry b n = (to, (becomes to n).1 (inr (refl, refl))) in
          grind (arith, others_covered p y there, λ (stays : Stays p y). covered_by_itself b y (p, (becomes p y).1 (inl (there, stays))));
      apart = apart_by b (λ p q y z y_in z_in node below. elim ((becomes p y).0 y_in) [
        | inr new ↦ grind (arith, becomes q z, clear q z)
        | inl (old, stays) ↦ grind (arith, becomes q z, clear p y old stays, apart.alone y z (p, old), apart.placed p q y old)
      ]);
    }

  -- a label of its pair comes in place of an entry that isn't settled, or can't be
  pub entry_replaced : (m n : Label) → IsSamePair m n → n.arc ≤ m.arc → IsEntry a m → Contains a.waiting n ⊎ Contains a.candidates n
      → ¬ Contains a.settled m → (to : Place) → Becomes a (λ _ y. y ≢ m) n to b → EntriesChange a b
  entry_replaced m n pair less entry source unsettled to becomes = entries_become (λ _ y. y ≢ m) n to becomes source (λ y there. grind arith)
      (λ p y there. grind (arith, cases_label y m, covers_pair n m (pair_back m n pair) less)) (λ p y there other node. grind arith)

  -- a waiting label moves
  pub entry_moves : (l : Label) → Contains a.waiting l → (to : Place) → Becomes a (λ _ y. y ≢ l) l to b → EntriesChange a b
  entry_moves l there = entry_replaced l l (same_pair l l refl) (omega arith) (waiting, there) (inl there)
      (λ done. grind (arith, apart.placed settled waiting l done there))

-- ---- a candidate is merged

module _ (task : Task) (a b : SearchState) (sound : IsSound task a) (x : Label) (mine : Contains a.candidates x) where
  -- whatever becomes of x
  pub entries_by_merge : IsMerged a x b → EntriesChange a b
  entries_by_merge (keeps h) = entries_stay a b sound.apart h.entries
  entries_by_merge (lowers h) = entry_replaced a b sound.apart h.entry x h.same (omega (arith, h.greater)) (h.place, h.is_entry) (inr mine)
      (λ there. sound.unequalled h.entry x there mine (pair_back h.entry x h.same)) h.place h.entries
  entries_by_merge (discards h) = entries_stay a b sound.apart h.entries
  entries_by_merge (enters h) = entries_become a b sound.apart (λ p y. (p ≡ settled) ⊎ (¬ Beats x y)) x waiting h.entries (inr mine) (λ y there. inl refl)
      (λ p y there. grind (arith, cases_beats x y, covers_beaten x y))
      (λ p y there stays node. grind (arith, h.new y (p, there), h.unbeaten y (p, there), cases_below x y node, cases_below y x, pair_back))

  -- x itself can be stood for
  pub covered_by_merge : IsMerged a x b → IsCovered b x
  covered_by_merge (keeps h) = let (p, there) = h.is_entry in grind (arith, (h.entries p h.entry).1 there, covers_pair)
  covered_by_merge (lowers h) = covered_by_itself b x (h.place, (h.entries h.place x).1 (inr (refl, refl)))
  covered_by_merge (discards h) = let (p, there) = h.is_entry in grind (arith, (h.entries p h.entry).1 there, covers_beaten)
  covered_by_merge (enters h) = covered_by_itself b x (waiting, (h.entries waiting x).1 (inr (refl, refl)))

  -- each entry is of the node and cost of one that stood in its place, or entered to wait
  pub place_before_merge : IsMerged a x b → (p : Place) (y : Label) → Contains (entries_at b p) y → HasPair (entries_at a p) y ⊎ ((p ≡ waiting) × (y ≡ x))
  place_before_merge (keeps h) p y here = grind (arith, h.entries p y, same_pair)
  place_before_merge (lowers h) p y here = grind (arith, h.entries p y, same_pair)
  place_before_merge (discards h) p y here = grind (arith, h.entries p y, same_pair)
  place_before_merge (enters h) p y here = grind (arith, h.entries p y, same_pair)

-- y is settled by the event, and what it gives arrives
pub record IsTaken (task : Task) (a b : SearchState) (y : Label) : Type 0 where
  pub may : MayTake task a y
  pub opens : (x : Label) → Follows task.network y x → IsArrival task.network b x

-- what any event changes at most
pub record Changes (task : Task) (a b : SearchState) : Type 0 where
  pub entries : EntriesChange a b
  pub settled : (y : Label) → Contains b.settled y → Contains a.settled y ⊎ IsTaken task a b y
  pub useless : (y : Label) → Contains b.dropped y → (¬ Within task.limit y.cost) ⊎ IsBeatenAtTarget task a y.cost
  pub paired : (e : Label) (k : ℕ) → Contains b.unrelaxed (e, k) → IsActive a e × Contains b.settled e × LeadsOn task.network e.node k
  pub candidates : (y : Label) → Contains b.candidates y → IsArrival task.network a y
  pub arrivals : (y : Label) → IsArrival task.network a y → IsMet task.network b y
  pub fresh : IsFresh task.network b

-- what is given or arrives still is or does where no candidate and no arc that is to be relaxed goes
pub arrival_on : (net : Network) (a b : SearchState) → ((x : Label) → Contains a.candidates x → Contains b.candidates x)
    → ((p : Label × ℕ) → Contains a.unrelaxed p → Contains b.unrelaxed p) → (x : Label) → IsArrival net a x → IsArrival net b x
arrival_on net a b candidates pairs x = elim [ inl there ↦ inl (candidates x there) | inr (e, there, f) ↦ inr (e, pairs (e, x.arc) there, f) ]

-- an arc is relaxed: what it gave comes to the candidates, and so what arrives stays the same
module _ (task : Task) (a b : SearchState) (l : Label) (k : ℕ) (h : Relaxes task a l k b) (x : Label) where
  given_by_relax : IsGiven task.network a x ↔ (IsGiven task.network b x ⊎ (x ≡ h.candidate))
  given_by_relax = (
    λ (e, there, f). grind (arith, cases_pair (e, x.arc) (l, k), h.unrelaxed (e, x.arc), leads_alike, label_by_parts),
    elim [ inl (e, here, f) ↦ (e, ((h.unrelaxed (e, x.arc)).0 here).0, f) | inr e ↦ rw e (l, rw h.arc h.may, h.follows) ],
  )

  pub arrivals_by_relax : IsArrival task.network a x ↔ IsArrival task.network b x
  arrivals_by_relax = grind (arith, gains_by_permutation h.candidate a.candidates b.candidates h.candidates x, given_by_relax)

-- what is merged leaves the candidates
pub candidates_by_merge : (a b : SearchState) (x : Label) → Merges a x b → (y : Label) → Contains a.candidates y ↔ (Contains b.candidates y ⊎ (y ≡ x))
candidates_by_merge a b x h = gains_by_permutation x b.candidates a.candidates (IsPermutation-sym a.candidates (x ∷ b.candidates) h.candidates)

module _ (task : Task) (is : IsTask task) (a b : SearchState) (sound : IsSound task a) where
  -- what arrives besides the candidate that is merged stays
  pub arrivals_by_merge : (x : Label) → Merges a x b → (y : Label) → IsArrival task.network b y ↔ (IsArrival task.network a y × (y ≢ x))
  arrivals_by_merge x h y =
      let once = pair_with_first ◌≢◌ x b.candidates (once_in_any_order a.candidates (x ∷ b.candidates) h.candidates sound.fresh.once) y in
      let to : IsGiven task.network a y → IsGiven task.network b y = λ (e, pair, f). (e, (h.unrelaxed (e, y.arc)).1 pair, f) in
      let back : IsGiven task.network b y → IsGiven task.network a y = λ (e, pair, f). (e, (h.unrelaxed (e, y.arc)).0 pair, f) in
      grind (arith, candidates_by_merge a b x h y, sound.fresh.apart y)

  -- what waits has given no candidate
  gives_later : (l x : Label) → Contains a.waiting l → Contains a.candidates x → ¬ Follows task.network l x
  gives_later l x it_waits there f = elim (sound.founded x (inr there)) [
    | at_start e ↦ grind (arith, f.leads.counted)
    | follows d done g ↦ grind (arith, follows_once task is a sound d l x (settled, done) (waiting, it_waits) g f, sound.apart.placed settled waiting d done)
  ]

  -- a pair that was to be relaxed before
  still_paired : EntriesChange a b → (e : Label) (k : ℕ) → Contains a.unrelaxed (e, k) → IsActive a e × Contains b.settled e × LeadsOn task.network e.node k
  still_paired entries e k there = let pair = sound.paired e k there in (has_arc k there, entries.kept e pair.0, pair.1)

  -- the candidates stay, and so do the pairs, but for those of a label that waited
  kept_changes : IsPermutation a.candidates b.candidates → ((p : Label × ℕ) → Contains a.unrelaxed p → Contains b.unrelaxed p)
      → ((e : Label) (k : ℕ) → Contains b.unrelaxed (e, k)
      → Contains a.unrelaxed (e, k) ⊎ (Contains a.waiting e × Contains b.settled e × LeadsOn task.network e.node k)) → EntriesChange a b
      → ((y : Label) → Contains b.settled y → Contains a.settled y ⊎ IsTaken task a b y)
      → ((y : Label) → Contains b.dropped y → (¬ Within task.limit y.cost) ⊎ IsBeatenAtTarget task a y.cost) → Changes task a b
  kept_changes moved pairs opened entries settled_by useless = record {
    entries = entries;
    settled = settled_by;
    useless = useless;
    paired = λ e k here. elim (opened e k here) [ inl old ↦ still_paired entries e k old | inr new ↦ (waits new.0, new.1, new.2) ];
    candidates = λ y here. inl ((same_by_permutation a.candidates b.candidates moved y).0 here);
    arrivals = λ y arrival. inl (arrival_on task.network a b (λ x. (same_by_permutation a.candidates b.candidates moved x).1) pairs y arrival);
    fresh = record {
      once = once_in_any_order a.candidates b.candidates moved sound.fresh.once;
      apart = λ x here (e, pair, f).
          grind (arith, same_by_permutation a.candidates b.candidates moved x, opened e x.arc pair, sound.fresh.apart x, gives_later e x);
    };
  }

  -- ---- event by event

  -- a state that is the same
  pub same_changes : IsSame b a → Changes task a b
  same_changes h = kept_changes (IsPermutation-sym b.candidates a.candidates h.candidates) (λ p. (h.unrelaxed p).1)
      (λ e k here. inl ((h.unrelaxed (e, k)).0 here)) (entries_stay a b sound.apart h.entries)
      (λ y here. inl ((h.entries settled y).0 here)) (λ y here. sound.useless y ((h.entries dropped y).0 here))

  -- whatever event happens
  pub changes_of : (event : Event) → Happens task a event b → Changes task a b
  changes_of (take l) h = let taken : IsTaken task a b l = record { may = h.may; opens = λ x f. grind (arith, h.unrelaxed (l, x.arc)) } in
      kept_changes h.candidates (λ p old. (h.unrelaxed p).1 (inl old)) (λ e k here. grind (arith, h.unrelaxed (e, k), h.entries settled l, h.may.waits))
      (entry_moves a b sound.apart l h.may.waits settled h.entries)
      (λ y here. elim ((h.entries settled y).0 here) [ inl old ↦ inl old.0 | inr (_, e) ↦ inr (rw e taken) ])
      (λ y here. elim ((h.entries dropped y).0 here) [ inl old ↦ sound.useless y old.0 | inr (wrong, _) ↦ absurd cc ])
  changes_of (drop l) h = kept_changes h.candidates (λ p. (h.unrelaxed p).1) (λ e k here. inl ((h.unrelaxed (e, k)).0 here))
      (entry_moves a b sound.apart l h.may.waits dropped h.entries) (λ y here. grind (arith, h.entries settled y))
      (λ y here. elim ((h.entries dropped y).0 here) [ inl old ↦ sound.useless y old.0 | inr (_, e) ↦ rw e h.may.useless ])
  changes_of (relax l k) h = record {
    entries = entries_stay a b sound.apart h.entries;
    settled = λ y here. inl ((h.entries settled y).0 here);
    useless = λ y here. sound.useless y ((h.entries dropped y).0 here);
    paired = λ e j here. still_paired (entries_stay a b sound.apart h.entries) e j ((h.unrelaxed (e, j)).0 here).0;
    candidates = λ y here. (arrivals_by_relax task a b l k h y).1 (inl here);
    arrivals = λ y arrival. inl ((arrivals_by_relax task a b l k h y).0 arrival);
    fresh = record {
      once = once_in_any_order (h.candidate ∷ a.candidates) b.candidates h.candidates (pairs_cons ◌≢◌ h.candidate a.candidates
          (λ y there e. sound.fresh.apart y there ((given_by_relax task a b l k h y).1 (inr (sym e)))) sound.fresh.once);
      apart = λ x there (e, here, f).
          let comes = gains_by_permutation h.candidate a.candidates b.candidates h.candidates x in let was = h.unrelaxed (e, x.arc) in
          grind (arith, sound.fresh.apart x, sound.paired e x.arc, sound.paired l k h.may, follows_once task is a sound e l x);
    };
  }
  changes_of (merge x) h =
      let mine = (candidates_by_merge a b x h x).1 (inr refl) in let entries = entries_by_merge task a b sound x mine h.entries in
      let before = place_before_merge task a b sound x mine h.entries in record {
        entries = entries;
        settled = λ y here. let known = entries.known y (settled, here) in elim (before settled y here) [
          | inr (wrong, _) ↦ absurd cc
          | inl e ↦ inl (grind (arith, sound.apart.alone e.label y (settled, e.member), sound.unequalled e.label y e.member, pair_back, below_pair))
        ];
        useless = λ y here. elim (before dropped y here) [ inl e ↦ rw (← e.same.cost) (sound.useless e.label e.member) | inr (wrong, _) ↦ absurd cc ];
        paired = λ e k here. still_paired entries e k ((h.unrelaxed (e, k)).0 here);
        candidates = λ y here. inl ((candidates_by_merge a b x h y).1 (inl here));
        arrivals = λ y arrival. grind (arith, cases_label y x, covered_by_merge task a b sound x mine h.entries, arrivals_by_merge x h y);
        fresh = record {
          once = pairs_rest ◌≢◌ x b.candidates (once_in_any_order a.candidates (x ∷ b.candidates) h.candidates sound.fresh.once);
          apart = λ y there (e, pair, f). sound.fresh.apart y ((candidates_by_merge a b x h y).1 (inl there)) (e, (h.unrelaxed (e, y.arc)).0 pair, f);
        };
      }

module _ (task : Task) (is : IsTask task) where
  module _ (a b : SearchState) (sound : IsSound task a) (changes : Changes task a b) where
    -- what is known now was founded before
    founded_before : (y : Label) → IsKnown b y → IsFounded task a y
    founded_before y (inl entry) = sound.founded y (changes.entries.known y entry)
    founded_before y (inr here) =
        elim (changes.candidates y here) [ inl old ↦ sound.founded y (inr old) | inr (e, there, f) ↦ follows e (sound.paired e y.arc there).0 f ]

    -- no label from which the search went on dominates a settled one
    no_better : (l y : Label) → Contains b.settled l → IsActive a y → ¬ Dominates y.cost l.cost
    no_better l y there active = elim (changes.settled l there) [ inl old ↦ sound.undominated l y old active | inr taken ↦ taken.may.undominated y active ]

    -- nor does an arc that was to be relaxed give what costs at most as much
    none_given : (l y : Label) → Contains b.settled l → IsGiven task.network a y → ¬ AtMost y.cost l.cost
    none_given l y there (e, pair, f) below = no_better l e there (has_arc y.arc pair)
        (Dominates-AtMost e.cost y.cost l.cost (grown_from_settled task is a sound e y (sound.paired e y.arc pair).0 f) below)

    -- nor does one from which it goes on now
    no_better_than : (l y : Label) → Contains b.settled l → IsActive b y → ¬ Dominates y.cost l.cost
    no_better_than l y there (waits here) less = no_better l y there (changes.entries.active y here) less
    no_better_than l y there (has_arc k here) less = no_better l y there (changes.paired y k here).0 less
    no_better_than l y there (is_candidate here) less =
        elim (changes.candidates y here) [ inl old ↦ no_better l y there (is_candidate old) less | inr given ↦ none_given l y there given less.at_most ]

    -- what could be stood for still can be
    covered_after : (x : Label) → IsCovered a x → IsCovered b x
    covered_after x h = let k = changes.entries.covers h.entry h.is_entry in grind (arith, covers_through k.entry h.entry x k.covers h.covers)

    -- what is met stays so
    pub met_after : (x : Label) → IsMet task.network a x → IsMet task.network b x
    met_after x = elim [ inl arrival ↦ changes.arrivals x arrival | inr by ↦ inr (covered_after x by) ]

    pub sound_by_changes : IsSound task b
    sound_by_changes = record {
      founded = λ y known. elim (founded_before y known) [ at_start e ↦ at_start e | follows e there f ↦ follows e (changes.entries.kept e there) f ];
      paired = λ e k there. let pair = changes.paired e k there in (pair.1, pair.2);
      apart = changes.entries.apart;
      fresh = changes.fresh;
      started = covered_after (start_label task) sound.started;
      expanded = λ e x there f. elim (changes.settled e there) [ inr taken ↦ inl (taken.opens x f) | inl old ↦ met_after x (sound.expanded e x old f) ];
      useless = λ y there. useless_on task a b changes.entries.kept y.cost (changes.useless y there);
      undominated = no_better_than;
      unequalled = λ l x there here pair. elim (changes.candidates x here) [
        | inr given ↦ none_given l x there given (below_pair x l pair)
        | inl old ↦ elim (changes.settled l there) [ inl before ↦ sound.unequalled l x before old pair | inr taken ↦ taken.may.alone x old pair ]
      ];
      relevant = λ l there. elim (changes.settled l there) [ inl old ↦ sound.relevant l old | inr taken ↦ taken_is_relevant task is a sound l taken.may ];
      least = λ l there. elim (changes.settled l there) [ inl old ↦ sound.least l old | inr taken ↦ taken_is_least task is a sound l taken.may ];
    }

  -- ---- event by event, and run by run

  pub sound_after : (a b : SearchState) (event : Event) → IsSound task a → Happens task a event b → IsSound task b
  sound_after a b event sound h = sound_by_changes a b sound (changes_of task is a b sound event h)

  pub same_is_sound : (a b : SearchState) → IsSame b a → IsSound task a → IsSound task b
  same_is_sound a b same sound = sound_by_changes a b sound (same_changes task is a b sound same)

  -- ---- from the start

  pub sound_at_start : IsSound task (start_state task)
  sound_at_start = grind (arith, at_start, covered_by_itself (start_state task) (start_label task) (waiting, grind arith))

  pub sound_if_reached : (s : SearchState) → IsReached task s → IsSound task s
  sound_if_reached s reached = along_run task (λ _ m. IsSound task m) (λ _. same_is_sound) (λ event _ a b sound h. sound_after a b event sound h)
      reached.events (start_state task) s sound_at_start reached.run

  -- ---- the laws

  module _ (s : SearchState) (reached : IsReached task s) where
    sound : IsSound task s
    sound = sound_if_reached s reached

    pub settled_once : (l m : Label) → Contains s.settled l → Contains s.settled m → IsSamePair l m → l ≡ m
    settled_once l m there there_too pair = sound.apart.alone l m (settled, there) (settled, there_too) pair.node (below_pair l m pair)

    pub settled_stays : (next : SearchState) (event : Event) (l : Label) → Happens task s event next → Contains s.settled l → Contains next.settled l
    settled_stays next event l step there = (changes_of task is s next sound event step).entries.kept l there

    pub entries_stand : (next : SearchState) (event : Event) (l y : Label) → Happens task s event next → Contains s.settled l
        → y.node ≡ l.node → AtMost y.cost l.cost → IsEntry s y ↔ IsEntry next y
    entries_stand next event l y step there node below =
        grind (arith, settled_stays next event l step there, sound.apart.alone y l, (sound_after s next event sound step).apart.alone y l)

    pub end_has_all : s.waiting ≡ [] → s.candidates ≡ [] → s.unrelaxed ≡ []
        → (v : ℕ) (c : List ℕ) → IsRelevant task.network task.start task.target task.limit v c ↔ HasSettled s v c
    end_has_all none_waits no_candidate no_arc v c =
        grind (arith, sound.relevant, all_settled task is s sound no_candidate no_arc (λ l here. absurd (none_of_empty s.waiting none_waits l here)) v c)
