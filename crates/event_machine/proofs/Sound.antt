-- What each state keeps to which events lead. So no walk gets past the labels that are still to be worked on, a label that may be taken is final, and no
-- cost is greater than the settled labels make it.
use Rattle.std.proofs.Common.{◌≡◌, ◌≢◌, ℕ, List, ◌≤◌, ◌⊎◌, inl, inr, refl, sym, ap, subst, ◌∙◌, arith, AllPairs, Contains, [], ◌∷◌, ◌++◌, length}
use Rattle.std.proofs.Common.{reverse, zero, suc, ◌+◌, ◌<◌, sum}
use Rattle.std.proofs.lemmas.Bool.{cases_eq}
use Rattle.std.proofs.lemmas.List.{reverse-append}
use Rattle.cost_vector.specs.Costs.{AtMost, Dominates, Within, plus}
use Rattle.cost_vector.proofs.Vectors.{AtMost-refl, AtMost-trans, AtMost-antisymm, cases_same, cases_Dominates, AtMost-plus, AtMost-Dominates, Dominates-AtMost}
use Rattle.cost_vector.proofs.Vectors.{Within-AtMost, plus_cancel, sum-Dominates}
use Rattle.list_laws.specs.Sets.{HasMoreThan}
use Rattle.list_laws.proofs.OnceLaws.{IsDecidable}
use Rattle.list_laws.proofs.SetLaws.{none_of_empty, more_by_list}
use Rattle.list_laws.proofs.Members.{cases_in}
use Rattle.list_laws.proofs.Pairs.{pairs_none, pairs_cons}
use Rattle.road_network.specs.Network.{Network, AreSmall}
use Rattle.road_network.specs.Answers.{IsRelevant}
use Rattle.road_network.specs.Walks.{Arrives, IsWalk, IsSumOf}
use Rattle.road_network.specs.Best.{IsBest}
use Rattle.road_network.proofs.WalkLaws.{leads_by_vector, length_of_arrival, length_of_walk, walk_on, arrives_by_walk, ends_by_last}
use Rattle.road_network.proofs.BestLaws.{grows_along, best_before}
use Rattle.road_network.proofs.BackwardLaws.{none_at_zero, with_last_arc}
use Rattle.road_network.proofs.Reached.{leads_alike}
use Rattle.road_network.proofs.SumLaws.{sum_of_none, sum_of_more, sum_of_most, small_by}
use Rattle.event_machine.specs.Machine.{Task, Beats, SearchState, start_label, Place, entries_at, IsEntry, IsActive, IsBeatenAtTarget}
use Rattle.road_network.specs.Labels.{Label, IsSamePair, HasLeastArc}
use Rattle.event_machine.specs.Machine.{LeadsOn, Follows, IsTask, settled, waiting, waits, is_candidate, has_arc, HasSettled}
use Rattle.event_machine.specs.Orders.{IsGiven, IsArrival}
use Rattle.event_machine.specs.Laws.{IsKnown}
use Rattle.event_machine.specs.Events.{MayTake}
use Rattle.event_machine.specs.Rounds.{NoneStays}

-- ---- what can be told of labels

pub label_by_parts : (x y : Label) → IsSamePair x y → x.arc ≡ y.arc → x ≡ y
label_by_parts x y pair arc = grind arith

pub same_pair : (x y : Label) → x ≡ y → IsSamePair x y
same_pair x y e = record { node = ap (λ (l : Label). l.node) e; cost = ap (λ (l : Label). l.cost) e }

pub pair_back : (x y : Label) → IsSamePair x y → IsSamePair y x
pair_back x y h = record { node = sym h.node; cost = sym h.cost }

pub decidable_pair : (x y : Label) → IsDecidable (IsSamePair x y)
decidable_pair x y = grind (arith, cases_eq x.node y.node, cases_same x.cost y.cost)

pub cases_label : (x y : Label) → IsDecidable (x ≡ y)
cases_label x y = grind (arith, decidable_pair x y, cases_eq x.arc y.arc, label_by_parts)

pub cases_pair : (p q : Label × ℕ) → IsDecidable (p ≡ q)
cases_pair p q = grind (arith, cases_label p.0 q.0, cases_eq p.1 q.1)

pub cases_beats : (x y : Label) → IsDecidable (Beats x y)
cases_beats x y = grind (arith, cases_eq x.node y.node, cases_Dominates x.cost y.cost)

-- at one node what costs at most as much as another has its cost, or dominates it
pub cases_below : (x y : Label) → x.node ≡ y.node → AtMost x.cost y.cost → IsSamePair x y ⊎ Beats x y
cases_below x y node below = grind (arith, cases_same x.cost y.cost)

-- ---- labels that can stand for others

-- z can stand for x: it is of x's node, costs at most as much, and has no greater arc if it costs the same
pub record Covers (z x : Label) : Type 0 where
  pub node : z.node ≡ x.node
  pub cost : AtMost z.cost x.cost
  pub arc : z.cost ≡ x.cost → z.arc ≤ x.arc

-- an entry can stand for x
pub record IsCovered (s : SearchState) (x : Label) : Type 0 where
  pub entry : Label
  pub is_entry : IsEntry s entry
  pub covers : Covers entry x

-- x arrives, or an entry can stand for it
abbrev pub IsMet : Network → SearchState → Label → Type 0
IsMet net s x = IsArrival net s x ⊎ IsCovered s x

pub covers_beaten : (z x : Label) → Beats z x → Covers z x
covers_beaten z x h = record { node = h.node; cost = h.cost.at_most; arc = λ same. absurd (h.cost.differs same) }

pub below_pair : (x y : Label) → IsSamePair x y → AtMost x.cost y.cost
below_pair x y h = subst (AtMost x.cost) h.cost (AtMost-refl x.cost)

pub covers_pair : (z x : Label) → IsSamePair z x → z.arc ≤ x.arc → Covers z x
covers_pair z x h less = record { node = h.node; cost = below_pair z x h; arc = λ same. less }

pub covers_through : (x y z : Label) → Covers x y → Covers y z → Covers x z
covers_through x y z h k = grind (arith, AtMost-trans, AtMost-antisymm)

pub covered_by_itself : (s : SearchState) (x : Label) → IsEntry s x → IsCovered s x
covered_by_itself s x entry = record { entry = x; is_entry = entry; covers = covers_pair x x (same_pair x x refl) (omega arith) }

-- ---- sound states

-- y is the label of the start, or what some settled label gives along y's arc
pub data IsFounded (task : Task) (s : SearchState) (y : Label) : Type 0 where
  at_start : y ≡ start_label task → IsFounded task s y
  follows : (e : Label) → Contains s.settled e → Follows task.network e y → IsFounded task s y

-- of two entries of one node neither cost is at most the other, and each entry stands in one place
pub record AreApart (s : SearchState) : Type 0 where
  pub alone : (y z : Label) → IsEntry s y → IsEntry s z → y.node ≡ z.node → AtMost y.cost z.cost → y ≡ z
  pub placed : (p q : Place) (y : Label) → Contains (entries_at s p) y → Contains (entries_at s q) y → p ≡ q

pub apart_by : (s : SearchState) → ((p q : Place) (y z : Label) → Contains (entries_at s p) y → Contains (entries_at s q) z
    → y.node ≡ z.node → AtMost y.cost z.cost → (p ≡ q) × (y ≡ z)) → AreApart s
apart_by s both = record {
  alone = λ y z (p, y_in) (q, z_in) node below. (both p q y z y_in z_in node below).1;
  placed = λ p q y here there. (both p q y y here there refl (AtMost-refl y.cost)).0;
}

-- each candidate stands once, and no arc that is still to be relaxed gives it again
pub record IsFresh (net : Network) (s : SearchState) : Type 0 where
  pub once : AllPairs ◌≢◌ s.candidates
  pub apart : (x : Label) → Contains s.candidates x → ¬ IsGiven net s x

-- all that each state keeps to which events lead
pub record IsSound (task : Task) (s : SearchState) : Type 0 where
  pub founded : (y : Label) → IsKnown s y → IsFounded task s y
  pub paired : (e : Label) (k : ℕ) → Contains s.unrelaxed (e, k) → Contains s.settled e × LeadsOn task.network e.node k
  pub apart : AreApart s
  pub fresh : IsFresh task.network s
  pub started : IsCovered s (start_label task)
  pub expanded : (e x : Label) → Contains s.settled e → Follows task.network e x → IsMet task.network s x
  pub useless : (y : Label) → Contains s.dropped y → (¬ Within task.limit y.cost) ⊎ IsBeatenAtTarget task s y.cost
  pub undominated : (l y : Label) → Contains s.settled l → IsActive s y → ¬ Dominates y.cost l.cost
  pub unequalled : (l x : Label) → Contains s.settled l → Contains s.candidates x → ¬ IsSamePair x l
  pub relevant : (l : Label) → Contains s.settled l → IsRelevant task.network task.start task.target task.limit l.node l.cost
  pub least : (l : Label) → Contains s.settled l → HasLeastArc task.network task.start l

-- some label costs at most c that is settled and of the node v, or isn't settled, or has an arc to be relaxed
record HasBelow (s : SearchState) (v : ℕ) (c : List ℕ) : Type 0 where
  pub label : Label
  pub at_most : AtMost label.cost c
  pub stands : (Contains s.settled label × (label.node ≡ v)) ⊎ (IsActive s label ⊎ Contains s.dropped label)

-- where there are no candidates and no arcs to be relaxed, what is pending waits or was dropped
if_idle : {P : Type 0} (s : SearchState) (y : Label) → s.candidates ≡ [] → s.unrelaxed ≡ [] → (Contains s.waiting y → P) → (Contains s.dropped y → P)
    → IsActive s y ⊎ Contains s.dropped y → P
if_idle s y no_candidate no_arc of_waiting of_dropped pending = grind (arith, none_of_empty)

-- an entry of the node v is settled and of that node, or it is pending
stands : (s : SearchState) (y : Label) (v : ℕ) → y.node ≡ v → IsEntry s y → (Contains s.settled y × (y.node ≡ v)) ⊎ (IsActive s y ⊎ Contains s.dropped y)
stands s y v node entry = grind (arith, waits)

module _ (task : Task) (is : IsTask task) (s : SearchState) (sound : IsSound task s) where
  -- each label has a walk of its cost
  walked : (y : Label) → IsKnown s y → (p : List ℕ) × IsWalk task.network task.start p y.node y.cost
  walked y known = elim (sound.founded y known) [
    | at_start e ↦ ([], grind arith)
    | follows e there f ↦
        let from = sound.least e there in
        (from.walk ++ y.arc ∷ [], rw f.cost (walk_on task.network is.network from.walk task.start _ _ _ _ _ from.least.walk f.leads))
  ]

  -- the cost of an entry has a place for each criterion
  length_of_entry : (e : Label) → IsEntry s e → length e.cost ≡ task.network.criteria
  length_of_entry e entry = let (p, walk) = walked e (inl entry) in length_of_walk task.network is.network p task.start e.node e.cost walk

  -- what follows a settled label costs more
  pub grown_from_settled : (e x : Label) → Contains s.settled e → Follows task.network e x → Dominates e.cost x.cost
  grown_from_settled e x there f = rw f.cost (grows_along task.network is.network _ _ _ _ _ f.leads (length_of_entry e (settled, there)))

  -- a label follows along its arc from one entry alone
  pub follows_once : (d e x : Label) → IsEntry s d → IsEntry s e → Follows task.network d x → Follows task.network e x → d ≡ e
  follows_once d e x entry entry_too f g =
      let (node, by, _) = leads_alike task.network _ _ _ _ _ _ _ f.leads g.leads in
      let long = sym (leads_by_vector task.network is.network _ _ _ _ g.leads).whole in
      let same = plus_cancel d.cost e.cost g.by (length_of_entry d entry ∙ long) (length_of_entry e entry_too ∙ long) (cc) in
      sound.apart.alone d e entry entry_too node (rw same (AtMost-refl e.cost))

  -- ---- the frontier

  -- what is met has a label that costs at most as much
  met_below : (x : Label) → IsMet task.network s x → HasBelow s x.node x.cost
  met_below x (inl (inl here)) = record { label = x; at_most = AtMost-refl x.cost; stands = inr (inl (is_candidate here)) }
  met_below x (inl (inr (e, there, f))) =
      record { label = e; at_most = (grown_from_settled e x (sound.paired e x.arc there).0 f).at_most; stands = inr (inl (has_arc x.arc there)) }
  met_below x (inr by) = record { label = by.entry; at_most = by.covers.cost; stands = stands s by.entry x.node by.covers.node by.is_entry }

  -- each walk's end has a settled label that costs at most as much, or something pending does
  arriving_below : (q : List ℕ) (v : ℕ) (c : List ℕ) → Arrives task.network task.start q v c → HasBelow s v c
  arriving_below [] v c (node, at, cost) = rw (← at, cost) (met_below (start_label task) (inr sound.started))
  arriving_below (k ∷ before) v c walk = let y = arriving_below before walk.at walk.before walk.walk in elim y.stands [
    | inl (there, node) ↦
        let x : Label = record { node = v; cost = plus y.label.cost walk.by; arc = k } in
        let sums = AtMost-plus y.label.cost walk.before walk.by walk.by y.at_most (AtMost-refl walk.by) in
        let m = met_below x (sound.expanded _ x there (record { by = walk.by; leads = rw node walk.leads; cost = refl })) in
        record { label = m.label; at_most = AtMost-trans m.label.cost x.cost c m.at_most (rw walk.cost sums); stands = m.stands }
    | inr pending ↦
        let less = grows_along task.network is.network _ _ _ _ _ walk.leads (length_of_arrival task.network is.network before _ _ _ walk.walk) in
        record { label = y.label; at_most = AtMost-trans y.label.cost walk.before c y.at_most (rw walk.cost less.at_most); stands = inr pending }
  ]

  -- what costs at most as much as a cost within the limit that is unbeaten at the target is so too
  not_useless : (b c : List ℕ) → AtMost b c → Within task.limit c → ¬ IsBeatenAtTarget task s c → ¬ ((¬ Within task.limit b) ⊎ IsBeatenAtTarget task s b)
  not_useless b c below within unbeaten = grind (arith, Within-AtMost, Dominates-AtMost)

  -- a best cost is that of each settled label that costs at most as much
  cost_at_best : (y : Label) (c : List ℕ) → Contains s.settled y → IsBest task.network task.start y.node c → AtMost y.cost c → y.cost ≡ c
  cost_at_best y c there best less =
      let (p, walk) = walked y (inl (settled, there)) in
      let none = best.nondominated p y.cost walk in grind (arith, cases_same y.cost c)

  -- ---- a label that may be taken

  module _ (l : Label) (may : MayTake task s l) where
    -- a walk whose cost dominates its cost has a settled label below it at its end
    nothing_below : (p : List ℕ) (v : ℕ) (b : List ℕ) → IsWalk task.network task.start p v b → Dominates b l.cost
        → (y : Label) × Contains s.settled y × (y.node ≡ v) × AtMost y.cost b × Dominates y.cost l.cost
    nothing_below p v b walk less =
        let y = arriving_below (reverse p) v b (arrives_by_walk _ is.network p task.start v b walk) in
        let dominates = AtMost-Dominates y.label.cost b l.cost y.at_most less in
        elim y.stands [
          | inl (there, node) ↦ (y.label, there, node, y.at_most, dominates)
          | inr (inl active) ↦ absurd (may.undominated y.label active dominates)
          | inr (inr there) ↦ absurd (not_useless y.label.cost l.cost dominates.at_most may.within may.unbeaten (sound.useless y.label there))
        ]

    pub taken_is_relevant : IsRelevant task.network task.start task.target task.limit l.node l.cost
    taken_is_relevant = record {
      best = record {
        reached = walked l (inl (waiting, may.waits));
        nondominated = λ p b walk less.
            let (y, there, node, _, dominates) = nothing_below p l.node b walk less in
            dominates.differs (ap (λ (m : Label). m.cost) (sound.apart.alone y l (settled, there) (waiting, may.waits) node dominates.at_most));
      };
      within = may.within;
      undominated = λ b best less.
          let (y, there, node, _, dominates) = nothing_below best.reached.0 task.target b best.reached.1 less in
          may.unbeaten (record { by = y; settled = there; node = node; dominates = dominates });
    }

    -- no walk of its cost ends by a lesser arc
    least_last : (q : List ℕ) (k : ℕ) → IsWalk task.network task.start (q ++ k ∷ []) l.node l.cost → l.arc ≤ k
    least_last q k whole =
        let walk = (ends_by_last task.network is.network q task.start l.node k l.cost).0 whole in
        let best = best_before _ is.network q _ _ _ _ walk.before _ walk.walk walk.leads (subst (IsBest _ _ _) walk.cost taken_is_relevant.best) in
        let grown = grows_along _ is.network _ _ _ _ _ walk.leads (length_of_walk _ is.network q task.start walk.at walk.before walk.walk) in
        let less = subst (Dominates walk.before) (sym walk.cost) grown in
        let (y, there, node, below, _) = nothing_below q walk.at walk.before walk.walk less in
        let same = cost_at_best y walk.before there (rw node best) below in
        let x : Label = record { node = l.node; cost = l.cost; arc = k } in
        elim (sound.expanded y x there (record { by = walk.by; leads = rw node walk.leads; cost = rw same walk.cost })) [
          | inl (inl there) ↦ absurd (may.alone x there (record { node = refl; cost = refl }))
          | inl (inr (d, there, g)) ↦ absurd (may.undominated d (has_arc k there) (grown_from_settled d x (sound.paired d k there).0 g))
          | inr by ↦ let e = sound.apart.alone by.entry l by.is_entry (waiting, may.waits) by.covers.node by.covers.cost in rw e at (by.covers.arc (cc))
        ]

    pub taken_is_least : HasLeastArc task.network task.start l
    taken_is_least = elim (sound.founded l (inl (waiting, may.waits))) [
      | at_start e ↦ record { walk = []; least = grind (arith, none_at_zero); arc = grind arith }
      | follows e there f ↦
          let from = sound.least e there in record {
            walk = from.walk ++ l.arc ∷ [];
            least = rw f.cost (with_last_arc _ is.network from.walk task.start _ _ _ _ _ from.least f.leads (λ q k walk. least_last q k (rw f.cost walk)));
            arc = grind (arith, reverse-append);
          }
    ]

  -- ---- all relevant pairs

  -- where all that waits may be dropped, and nothing else is to be done, each relevant pair is settled
  pub all_settled : s.candidates ≡ [] → s.unrelaxed ≡ [] → NoneStays task s
      → (v : ℕ) (c : List ℕ) → IsRelevant task.network task.start task.target task.limit v c → HasSettled s v c
  all_settled no_candidate no_arc none v c relevant =
      let (p, walk) = relevant.best.reached in
      let y = arriving_below (reverse p) v c (arrives_by_walk _ is.network p task.start v c walk) in
      let unbeaten = λ (h : IsBeatenAtTarget task s c). relevant.undominated h.by.cost (rw (← h.node) (sound.relevant h.by h.settled).best) h.dominates in
      let no_use = not_useless y.label.cost c y.at_most relevant.within unbeaten in
      elim y.stands [
        | inl (there, node) ↦ record { label = y.label; settled = there; node = node; cost = cost_at_best y.label c there (rw node relevant.best) y.at_most }
        | inr pending ↦ absurd (no_use (if_idle s y.label no_candidate no_arc (λ here. (none y.label here).useless) (sound.useless y.label) pending))
      ]

-- the settled labels on the walk to y are different ones, and y's cost is a sum of as many weights as they are
record HasChain (s : SearchState) (y : Label) : Type 0 where
  pub before : List Label
  pub distinct : AllPairs ◌≢◌ before
  pub settled : (x : Label) → Contains before x → Contains s.settled x
  pub less : (x : Label) → Contains before x → sum x.cost < sum y.cost
  pub bound : IsSumOf (length before) y.cost

module _ (task : Task) (is : IsTask task) (small : AreSmall task.network.states) (s : SearchState) (sound : IsSound task s) where
  chain : (n : ℕ) (y : Label) → sum y.cost < n → IsKnown s y → HasChain s y
  chain zero y less known = absurd (omega arith)
  chain (suc n) y less known = elim (sound.founded y known) [
    | at_start e ↦ record { before = []; distinct = pairs_none ◌≢◌; settled = grind arith; less = grind arith; bound = grind (arith, sum_of_none) }
    | follows e there f ↦
        let grown = sum-Dominates e.cost y.cost (grown_from_settled task is s sound e y there f) in
        let rest = chain n e (omega arith) (inl (settled, there)) in
        record {
          before = e ∷ rest.before;
          distinct = pairs_cons ◌≢◌ e rest.before (λ x here same. omega (arith, rest.less x here, ap (λ (m : Label). sum m.cost) same)) rest.distinct;
          settled = λ x here. elim (cases_in e rest.before x here) [ inl same ↦ rw same there | inr later ↦ rest.settled x later ];
          less = λ x here. let cases = cases_in e rest.before x here in let old = rest.less x in grind arith;
          bound = sum_of_most (length rest.before + 1) (suc (length rest.before)) y.cost (omega arith)
              (subst (IsSumOf _) (sym f.cost) (sum_of_more _ e.cost f.by rest.bound (small_by task.network small _ _ _ _ f.leads)));
        }
  ]

  pub known_is_bounded : (y : Label) (n : ℕ) → ¬ HasMoreThan n s.settled → IsKnown s y → IsSumOf n y.cost
  known_is_bounded y n few known =
      let way = chain (suc (sum y.cost)) y (omega arith) known in
      let more = more_by_list n s.settled way.before way.distinct way.settled in
      sum_of_most (length way.before) n y.cost (grind arith) way.bound
