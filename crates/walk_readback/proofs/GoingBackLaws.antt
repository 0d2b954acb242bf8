-- What can be read back: its fronts can, the arcs that go back from it are the last arcs of the walks of its cost, and how they are found.
use Rattle.std.proofs.Common.{◌≡◌, ◌≢◌, ℕ, ◌<◌, List, [], ◌∷◌, ◌++◌, Option, Some, None, length, reverse, inl, inr, refl, sym, ap, subst, ◌∙◌, arith, ◌+◌, ◌-◌, ◌≤◌, get_or}
use Rattle.std.specs.Prelude.{slice_get, AllPairs, Contains}
use Rattle.std.proofs.lemmas.List.{reverse-reverse, reverse-append, append-nil, append_assoc, get_or_default}
use Rattle.list_laws.specs.Least.{IsLeastIfAny}
use Rattle.cost_vector.specs.Costs.{AtMost, plus}
use Rattle.cost_vector.proofs.Vectors.{AtMost-refl, AtMost-length, AtMost-plus, AtMost-plus_self, cases_same, plus_cancel, AtMost-plus_other}
use Rattle.road_network.specs.Network.{Network, IsNetwork, Leads, IsNode, IsVector}
use Rattle.road_network.specs.Walks.{IsWalk}
use Rattle.road_network.specs.Best.{IsBest, IsBackwardLeast}
use Rattle.road_network.proofs.WalkLaws.{ends_by_last, length_of_walk, parts_of_walk, walk_after, walk_on, leads_by_vector, node_of_walk}
use Rattle.road_network.proofs.BestLaws.{first_part_is_best}
use Rattle.road_network.proofs.BackwardLaws.{last_arc_is_least, one_end}
use Rattle.walk_readback.specs.Found.{FoundCosts, HasSettled, IsCovered, IsBelowSettled}
use Rattle.walk_readback.specs.GoingBack.{GoesBack, IsReadable, last_of}
use Rattle.std.proofs.lemmas.Option.{slice_get-get_or}
use Rattle.cost_vector.specs.declared.label.ArcNo.{ArcNo}
use Rattle.arc_graph.specs.Graph.{arc_state, head_of, in_arcs_of, tail_of, turned}
use Rattle.arc_graph.proofs.NumbersLemmas.{numbers_ascend}
use Rattle.road_network.proofs.Reached.{leads_alike}

-- a list is empty, or has a last element
pub data EndsWith (p : List ℕ) : Type 0 where
  empty : p ≡ [] → EndsWith p
  last : (front : List ℕ) (k : ℕ) → p ≡ front ++ k ∷ [] → EndsWith p

pub cases_end : (p : List ℕ) → EndsWith p
cases_end p = by_reverse (reverse p) refl where
  by_reverse : (q : List ℕ) → reverse p ≡ q → EndsWith p
  by_reverse [] e = empty (sym (reverse-reverse p) ∙ ap reverse e)
  by_reverse (k ∷ q) e = last (reverse q) k (sym (reverse-reverse p) ∙ ap reverse e ∙ reverse-append (k ∷ []) q)

-- the last arc of a walk with arcs
last_is : (front : List ℕ) (k : ℕ) → last_of (front ++ k ∷ []) ≡ Some k
last_is front k = ap (λ q. slice_get q 0) (reverse-append front (k ∷ []))

-- there is one least number of a kind, if any
pub one_least : (P : ℕ → Type 0) (o q : Option ℕ) → IsLeastIfAny P o → IsLeastIfAny P q → o ≡ q
one_least P None None this that = refl
one_least P None (Some k) this that = absurd (this k that.holds)
one_least P (Some k) None this that = absurd (that k this.holds)
one_least P (Some k) (Some j) this that =
    let least : ¬ (k < j) = λ below. that.none_below k below this.holds in
    let least_too : ¬ (j < k) = λ below. this.none_below j below that.holds in
    ap Some (omega (arith, least, least_too))

-- ---- a front of a walk

module _ (net : Network) (is : IsNetwork net) (s : ℕ) (p q : List ℕ) (v : ℕ) (c : List ℕ) (whole : IsWalk net s (p ++ q) v c)
    (u : ℕ) (b : List ℕ) (front : IsWalk net s p u b) where
  -- the walk goes on from where the front leads
  goes_on : (d : List ℕ) × IsWalk net u q v d × (c ≡ plus b d)
  goes_on =
      let parts = parts_of_walk net is p q s v c whole in
      let end = one_end net p s parts.at u parts.so_far b parts.first front in
      (parts.onward, subst (λ x. IsWalk net x q v parts.onward) end.0 parts.second, parts.cost ∙ ap (λ x. plus x parts.onward) end.1)

  -- and the front costs no more
  pub front_below : AtMost b c
  front_below =
      let (d, rest, cost) = goes_on in
      subst (AtMost b) (sym cost) (AtMost-plus_self b d (length_of_walk net is p s u b front ∙ sym (length_of_walk net is q u v d rest)))

  pub front_is_best : IsBest net s v c → IsBest net s u b
  front_is_best best =
      let end = first_part_is_best net is p q s v c whole best in
      let same = one_end net p s u end.at b end.cost front end.walk in
      rw (same.0, same.1) end.best

  -- another walk like the front goes on as well
  pub front_replaced : (r : List ℕ) → IsWalk net s r u b → IsWalk net s (r ++ q) v c
  front_replaced r other = let (d, rest, cost) = goes_on in rw cost (walk_after net is r q s u v b d other rest)

-- what a front of a readable walk costs is readable
pub front_is_readable : (net : Network) (f : FoundCosts) (p q : List ℕ) (v : ℕ) (c : List ℕ) → IsReadable net f v c
    → IsWalk net f.start (p ++ q) v c → (u : ℕ) (b : List ℕ) → IsWalk net f.start p u b → IsReadable net f u b
front_is_readable net f p q v c r whole u b front = record {
  network = r.network;
  best = front_is_best net r.network f.start p q v c whole u b front r.best;
  settled = λ first rest x a other.
      r.settled first (rest ++ q) x a (rw append_assoc at (front_replaced net r.network f.start p q v c whole u b front (first ++ rest) other));
  walked = r.walked;
}

-- ---- going back

-- what is settled is covered
pub settled_is_covered : (f : FoundCosts) (v : ℕ) (c : List ℕ) → HasSettled f v c → IsCovered f v c
settled_is_covered f v c there = record { cost = c; settled = there; at_most = AtMost-refl c }

module _ {net : Network} {f : FoundCosts} {v : ℕ} {c : List ℕ} (r : IsReadable net f v c) where
  pub itself_settled : HasSettled f v c
  itself_settled = let (p, walk) = r.best.reached in r.settled p [] v c (rw append-nil walk) walk

  -- what goes back is the last arc of a walk
  walk_back : (k : ℕ) (back : GoesBack net f v c k)
      → (p : List ℕ) × IsWalk net f.start p back.from back.before × IsWalk net f.start (p ++ k ∷ []) v c
  walk_back k back =
      let (p, walk) = r.walked back.from back.before back.settled in
      (p, walk, rw back.cost (walk_on net r.network p f.start back.from v k back.before back.by walk back.leads))

  -- of a cost that can be read back too
  pub readable_before : (k : ℕ) (back : GoesBack net f v c k) → IsReadable net f back.from back.before
  readable_before k back = let (p, walk, whole) = walk_back k back in front_is_readable net f p (k ∷ []) v c r whole back.from back.before walk

  -- and each last arc goes back
  pub last_goes_back : (p : List ℕ) (k : ℕ) → IsWalk net f.start (p ++ k ∷ []) v c → GoesBack net f v c k
  last_goes_back p k walk =
      let ends = (ends_by_last net r.network p f.start v k c).0 walk in record {
        from = ends.at;
        by = ends.by;
        before = ends.before;
        leads = ends.leads;
        cost = ends.cost;
        settled = r.settled p (k ∷ []) ends.at ends.before walk ends.walk;
      }

  -- the least arc that goes back is the last one of the backward-least walk
  pub least_goes_back : (p : List ℕ) → IsBackwardLeast net f.start v c p → IsLeastIfAny (GoesBack net f v c) (last_of p)
  least_goes_back p least = by_end (cases_end p) where
    by_end : EndsWith p → IsLeastIfAny (GoesBack net f v c) (last_of p)
    by_end (empty none) = rw none (λ k back.
        let (q, _, walk) = walk_back k back in
        let differs : q ++ k ∷ [] ≢ [] = λ e. let wrong : Some k ≡ None = sym (last_is q k) ∙ ap last_of e in absurd cc in
        (rw none at least).least (q ++ k ∷ []) walk differs)
    by_end (last front k ends) =
        let this = subst (IsBackwardLeast net f.start v c) ends least in
        rw (ends, last_is front k) (record {
          holds = last_goes_back front k this.walk;
          none_below = λ m below back. let (q, _, walk) = walk_back m back in omega (arith, below, last_arc_is_least net front q f.start v k m c this walk);
        })

  -- a settled cost that is at most what an arc leaves is all of it
  pub covered_is_settled : (u k : ℕ) (by b : List ℕ) → Leads net k u by v → plus b by ≡ c → length b ≡ length by → IsCovered f u b → HasSettled f u b
  covered_is_settled u k by b leads sum count covered =
      let e = covered.cost in
      let (p, walk) = r.walked u e covered.settled in
      let whole = walk_on net r.network p f.start u v k e by walk leads in
      let below : AtMost (plus e by) c = subst (AtMost (plus e by)) sum (AtMost-plus e b by by covered.at_most (AtMost-refl by)) in
      elim (cases_same (plus e by) c) [
        | inr other ↦ absurd (r.best.nondominated (p ++ k ∷ []) (plus e by) whole (record { at_most = below; differs = other }))
        | inl same ↦ subst (HasSettled f u) (plus_cancel e b by (AtMost-length e b covered.at_most ∙ count) count (same ∙ sym sum)) covered.settled
      ]

-- ---- one arc

module _ {net : Network} {f : FoundCosts} {v : ℕ} {cost : List ℕ} (r : IsReadable net f v cost) where
  pub node_of : IsNode net.nodes v
  node_of = let (p, walk) = r.best.reached in node_of_walk net r.network p f.start v cost walk

  pub count_of : length cost ≡ net.criteria
  count_of = let (p, walk) = r.best.reached in length_of_walk net r.network p f.start v cost walk

module _ {net : Network} {f : FoundCosts} {cost : List ℕ} {arc : ArcNo} (r : IsReadable net f (head_of net.ends arc) cost)
    (counted : 1 ≤ arc.0) (there : arc.0 ≤ length net.ends) {by : List ℕ} (state : arc_state net.states arc ≡ Some by) where
  -- a passable arc leads from its tail to its head
  pub leads_by_state : Leads net arc.0 (tail_of net.ends arc) by (head_of net.ends arc)
  leads_by_state =
      let ends = slice_get-get_or net.ends (arc.0 - 1) (0, 0) (omega (arith, counted, there)) in
      let states = slice_get-get_or net.states (arc.0 - 1) None (omega (arith, counted, there, r.network.matched)) in
      record { counted = counted; ends = rw ends refl; passable = states ∙ ap Some (rw states at state) }

  vector : IsVector net.criteria by
  vector = leads_by_vector net r.network arc.0 (tail_of net.ends arc) (head_of net.ends arc) by leads_by_state

  abbrev Back : Type 0
  Back = GoesBack net f (head_of net.ends arc) cost arc.0

  -- where it goes back, it does so by this vector from its tail
  back_alike : (back : Back) → (tail_of net.ends arc ≡ back.from) × (by ≡ back.by) × (length back.before ≡ length by)
  back_alike back =
      let head = head_of net.ends arc in
      let (from, same, _) = leads_alike net arc.0 (tail_of net.ends arc) head back.from head by back.by leads_by_state back.leads in
      let (p, walk) = r.walked back.from back.before back.settled in
      (from, same, length_of_walk net r.network p f.start back.from back.before walk ∙ sym vector.whole)

  -- so that fits
  pub fits_if_back : Back → AtMost by cost
  fits_if_back back = let (_, same, count) = back_alike back in rw (back.cost, ← same) (AtMost-plus_other back.before by count)

  module _ (before : List ℕ) (same_count : length before ≡ length cost) (sum : plus before by ≡ cost) where
    count : length before ≡ length by
    count = same_count ∙ count_of r ∙ sym vector.whole

    -- what is left of the cost is at most a settled one
    pub left_below_settled : IsBelowSettled f before
    left_below_settled = record {
      node = head_of net.ends arc;
      cost = cost;
      settled = itself_settled r;
      at_most = subst (AtMost before) sum (AtMost-plus_self before by count);
    }

    -- where it is covered, the arc goes back
    pub back_if_covered : IsCovered f (tail_of net.ends arc) before → (back : Back) × (back.before ≡ before)
    back_if_covered covered =
        let settled = covered_is_settled r (tail_of net.ends arc) arc.0 by before leads_by_state sum count covered in
        (record { from = tail_of net.ends arc; by = by; before = before; leads = leads_by_state; cost = sym sum; settled = settled }, refl)

    -- and where it goes back, that is settled
    pub settled_if_back : Back → HasSettled f (tail_of net.ends arc) before
    settled_if_back back =
        let (from, same, long) = back_alike back in
        let left = plus_cancel before back.before by count long (sum ∙ rw (← same) at back.cost) in
        rw (from, left) back.settled

-- ---- the arcs into a node

-- each number that P holds of is that of an arc from place n on
abbrev pub StandBehind : (ℕ → Type 0) → List ArcNo → ℕ → Type 0
StandBehind P arcs n = (k : ℕ) → P k → (at : Contains arcs (record { 0 = k })) × (n ≤ at.0)

module _ (P : ℕ → Type 0) (arcs : List ArcNo) (i : ℕ) (e : ArcNo) (within : i < length arcs) (behind : StandBehind P arcs i) where
  -- none is less than the next of the arcs into a node
  pub none_below : (ends : List (ℕ × ℕ)) (v : ℕ) → arcs ≡ in_arcs_of ends v → (k : ℕ) → k < (get_or arcs i e).0 → ¬ P k
  none_below ends v all k below p =
      let (at, from) = behind k p in
      let ascends : AllPairs (λ a b. a.0 < b.0) arcs = rw all (numbers_ascend 1 (turned ends) v) in
      grind (arith, get_or_default arcs i e (record { 0 = k }) within, at.2, ascends i at.0 (record { 0 = k }))

  -- and where that is none, they stand behind it
  pub none_more : ¬ P (get_or arcs i e).0 → StandBehind P arcs (i + 1)
  none_more none k p = let (at, from) = behind k p in (at, grind (arith, get_or_default arcs i e (record { 0 = k }) within, at.2, none))
