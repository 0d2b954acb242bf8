-- Where the budget is settled and one more is to be, one more than it is relevant. Where all is settled within the budget, it isn't so.
use Rattle.std.proofs.Common.{◌≡◌, ◌≢◌, ℕ, ◌≤◌, List, [], ◌∷◌, get_or, length, inl, inr, refl, sym, ap, subst, ◌∙◌, arith}
use Rattle.std.specs.Prelude.{AllPairs, Contains}
use Rattle.std.proofs.lemmas.List.Sums.{sum-map}
use Rattle.list_laws.proofs.Members.{all_from_in, cases_in, each_in, in_first, in_none, in_rest}
use Rattle.list_laws.proofs.Pairs.{pair_with_first, pairs_cons, pairs_none, pairs_rest, pigeonhole}
use Rattle.cost_vector.specs.Costs.{AtMost, LexLess, plus}
use Rattle.cost_vector.proofs.Vectors.{AtMost-refl, LexLess-irrefl}
use Rattle.road_network.specs.Network.{Network}
use Rattle.road_network.proofs.WalkLaws.{length_of_walk}
use Rattle.arc_graph.specs.Graph.{IsRoadNetwork}
use Rattle.waiting_item.specs.Waiting.{Spot, Waiting}
use Rattle.settled_fronts.specs.NodeFronts.{pairs_from}
use Rattle.settled_fronts.proofs.PairLemmas.{in_settled_pairs, pairs_counted, settled_pairs_once}
use Rattle.sweep_parts.specs.Settled.{IsSettledList, costs_of, count_settled}
use Rattle.sweep_core.specs.Potentials.{HasNoRoom, IsConsistent, IsRelevantBy, PassesBy, Potential}
use Rattle.sweep_core.specs.Sweeps.{IsLifted, IsNext, IsSameSearch, IsSettledIn, SettlesAll, Sweep, lifted, with_queue}
use Rattle.sweep_core.proofs.Frontier.{next_is_relevant}
use Rattle.sweep_core.proofs.Leaving.{there}
use Rattle.sweep_core.proofs.Lifted.{one_cost}

-- the spot of a pair
abbrev spot_at : (ℕ × List ℕ) → Spot
spot_at p = record { cost = p.1; node = p.0 }

-- by equal costs without the heights, equal costs
same_lifted : (net : Network) (t : ℕ) (P : Potential) → IsConsistent net t P → (x y : Spot) (a : IsLifted net P x) (b : IsLifted net P y) → x.node ≡ y.node
    → a.cost ≡ b.cost → x.cost ≡ y.cost
same_lifted net t P is x y a b node cost =
    let height = is.one y.node a.height b.height (subst (λ v. P v a.height) node a.has) b.has in
    a.sum ∙ ap (λ c. plus c a.height) cost ∙ ap (plus b.cost) height ∙ sym b.sum

module _ (net : Network) (t : ℕ) (P : Potential) (is : IsConsistent net t P) where
  -- the pairs with the heights taken off
  without_heights : (ps : List (ℕ × List ℕ)) → ((p : ℕ × List ℕ) → Contains ps p → IsLifted net P (spot_at p)) → List (ℕ × List ℕ)
  without_heights [] lifted = []
  without_heights (p ∷ ps) lifted = (p.0, (lifted p (in_first p ps)).cost) ∷ without_heights ps (λ q there. lifted q (in_rest p ps q there))

  as_many : (ps : List (ℕ × List ℕ)) (lifted : (p : ℕ × List ℕ) → Contains ps p → IsLifted net P (spot_at p)) → length (without_heights ps lifted) ≡ length ps
  unfolding without_heights
  as_many [] lifted = refl
  as_many (p ∷ ps) lifted = omega (arith, as_many ps (λ q there. lifted q (in_rest p ps q there)))

  -- each is of one of them
  record IsOfPair (ps : List (ℕ × List ℕ)) (q : ℕ × List ℕ) : Type 0 where
    pair : ℕ × List ℕ
    there : Contains ps pair
    lifted : IsLifted net P (spot_at pair)
    node : q.0 ≡ pair.0
    cost : q.1 ≡ lifted.cost

  of_without : (ps : List (ℕ × List ℕ)) (lifted : (p : ℕ × List ℕ) → Contains ps p → IsLifted net P (spot_at p)) (q : ℕ × List ℕ)
      → Contains (without_heights ps lifted) q → IsOfPair ps q
  unfolding without_heights
  of_without [] lifted q there = absurd (in_none q there)
  of_without (p ∷ ps) lifted q there =
      elim (cases_in (p.0, (lifted p (in_first p ps)).cost) (without_heights ps (λ r later. lifted r (in_rest p ps r later))) q there) [
        | inl same ↦ record {
          pair = p;
          there = in_first p ps;
          lifted = lifted p (in_first p ps);
          node = ap (λ (r : ℕ × List ℕ). r.0) same;
          cost = ap (λ (r : ℕ × List ℕ). r.1) same;
        }
        | inr later ↦
            let of = of_without ps (λ r later. lifted r (in_rest p ps r later)) q later in
            record { pair = of.pair; there = in_rest p ps of.pair of.there; lifted = of.lifted; node = of.node; cost = of.cost }
      ]

  -- a pair is there without its height
  in_without : (ps : List (ℕ × List ℕ)) (lifted : (p : ℕ × List ℕ) → Contains ps p → IsLifted net P (spot_at p)) (p : ℕ × List ℕ) → Contains ps p
      → (c : List ℕ) → ((b : IsLifted net P (spot_at p)) → b.cost ≡ c) → Contains (without_heights ps lifted) (p.0, c)
  unfolding without_heights
  in_without [] lifted p there c costs = absurd (in_none p there)
  in_without (q ∷ ps) lifted p there c costs =
      let first = lifted q (in_first q ps) in
      let rest : (r : ℕ × List ℕ) → Contains ps r → IsLifted net P (spot_at r) = λ r later. lifted r (in_rest q ps r later) in
      elim (cases_in q ps p there) [
        | inl same ↦
            let node : q.0 ≡ p.0 = sym (ap (λ (r : ℕ × List ℕ). r.0) same) in
            let cost : first.cost ≡ c = subst (λ (r : ℕ × List ℕ). (b : IsLifted net P (spot_at r)) → b.cost ≡ c) same costs first in
            subst (Contains ((q.0, first.cost) ∷ without_heights ps rest)) (λ i. (node i, cost i)) (in_first (q.0, first.cost) (without_heights ps rest))
        | inr later ↦ in_rest (q.0, first.cost) (without_heights ps rest) (p.0, c) (in_without ps rest p later c costs)
      ]

  distinct_without : (ps : List (ℕ × List ℕ)) (lifted : (p : ℕ × List ℕ) → Contains ps p → IsLifted net P (spot_at p)) → AllPairs ◌≢◌ ps
      → AllPairs ◌≢◌ (without_heights ps lifted)
  unfolding without_heights
  distinct_without [] lifted once = pairs_none ◌≢◌
  distinct_without (p ∷ ps) lifted once =
      let first = lifted p (in_first p ps) in
      let rest : (r : ℕ × List ℕ) → Contains ps r → IsLifted net P (spot_at r) = λ r later. lifted r (in_rest p ps r later) in
      pairs_cons ◌≢◌ (p.0, first.cost) (without_heights ps rest)
      (λ q there same.
      let of = of_without ps rest q there in
      let node : p.0 ≡ of.pair.0 = ap (λ (r : ℕ × List ℕ). r.0) same ∙ of.node in
      let cost = same_lifted net t P is (spot_at p) (spot_at of.pair) first of.lifted node (ap (λ (r : ℕ × List ℕ). r.1) same ∙ of.cost) in
      pair_with_first ◌≢◌ p ps once of.pair of.there (λ i. (node i, cost i)))
      (distinct_without ps rest (pairs_rest ◌≢◌ p ps once))

  module _ (road : IsRoadNetwork net) (s : Sweep) (target : s.target ≡ t) (x : Waiting) (next : IsNext net P s x)
      (ordered : (v : ℕ) → IsSettledList (costs_of s.settled v)) (full : count_settled s.settled ≡ s.budget) where
    abbrev pairs : List (ℕ × List ℕ)
    pairs = pairs_from 0 s.settled

    settled_at : (p : ℕ × List ℕ) → Contains pairs p → IsSettledIn s.settled (spot_at p)
    settled_at p = (in_settled_pairs (record { nodes = 0; costs = s.settled }) p.0 p.1).0

    lifted_at : (p : ℕ × List ℕ) → Contains pairs p → IsLifted net P (spot_at p)
    lifted_at p there = (next.sweep.settled_from (spot_at p) (settled_at p there)).lifted

    once : AllPairs ◌≢◌ pairs
    once = settled_pairs_once (record { nodes = 0; costs = s.settled })
        (λ v i j d before within same.
        let a = get_or (costs_of s.settled v) i d in
        LexLess-irrefl a (subst (LexLess a) (sym same) ((ordered v).ascending i j d before within)))

    pub passes : PassesBy net s.start s.target s.limit P s.budget
    passes =
        let here = there net t P is (with_queue s next.queue) next.sweep x s.queue next.leaves in
        let own = (next.sweep.waiting_from x here).lifted in
        let relevant = next_is_relevant net road.network t P is (with_queue s next.queue) next.sweep x s.queue next.leaves here
        (λ covered. next.unspent (inl covered)) (λ dominated. next.unspent (inr dominated)) (next.sweep.within x here) target in
        let others = without_heights pairs lifted_at in record {
          pairs = (x.spot.node, own.cost) ∷ others;
          more = omega (arith, as_many pairs lifted_at, pairs_counted 0 s.settled, sum-map {X = List (List ℕ)} length s.settled, full);
          distinct = pairs_cons ◌≢◌ (x.spot.node, own.cost) others
              (λ q there same.
              let of = of_without pairs lifted_at q there in
              let node : x.spot.node ≡ of.pair.0 = ap (λ (r : ℕ × List ℕ). r.0) same ∙ of.node in
              let cost = same_lifted net t P is x.spot (spot_at of.pair) own of.lifted node (ap (λ (r : ℕ × List ℕ). r.1) same ∙ of.cost) in
              next.unspent (inl (record {
                by = of.pair.1;
                contains = subst (λ v. Contains (costs_of s.settled v) of.pair.1) (sym node) (settled_at of.pair of.there);
                at_most = subst (λ c. AtMost c x.spot.cost) cost (AtMost-refl x.spot.cost);
              })))
              (distinct_without pairs lifted_at once);
          relevant = all_from_in (λ (q : ℕ × List ℕ). IsRelevantBy net s.start s.target s.limit P q.0 q.1) ((x.spot.node, own.cost) ∷ others)
              (λ q there. elim (cases_in (x.spot.node, own.cost) others q there) [
                | inl same ↦ subst (λ (r : ℕ × List ℕ). IsRelevantBy net s.start s.target s.limit P r.0 r.1) (sym same) relevant
                | inr later ↦
                    let of = of_without pairs lifted_at q later in
                    let found = next.sweep.relevant (spot_at of.pair) of.lifted (settled_at of.pair of.there) in
                    subst (λ v. IsRelevantBy net s.start s.target s.limit P v q.1) (sym of.node)
                    (subst (IsRelevantBy net s.start s.target s.limit P of.pair.0) (sym of.cost) found)
              ]);
        }

  -- ---- where all is settled

  module _ (road : IsRoadNetwork net) (s : Sweep) (all : SettlesAll net s.start s.target s.limit P s.settled) where
    abbrev all_pairs : List (ℕ × List ℕ)
    all_pairs = pairs_from 0 s.settled

    of_relevant : (p : ℕ × List ℕ) → Contains all_pairs p → IsLifted net P (spot_at p)
    of_relevant p there = (all.relevant (spot_at p) ((in_settled_pairs (record { nodes = 0; costs = s.settled }) p.0 p.1).0 there)).is_lifted

    is_among : (p : ℕ × List ℕ) → IsRelevantBy net s.start s.target s.limit P p.0 p.1 → Contains (without_heights all_pairs of_relevant) p
    is_among p r =
        let f = plus p.1 r.height in
        let settled = (in_settled_pairs (record { nodes = 0; costs = s.settled }) p.0 f).1 (all.all p.0 p.1 r.height r.has r) in
        let own : IsLifted net P (lifted p.0 p.1 r.height) = record {
          cost = p.1;
          whole = length_of_walk net road.network r.best.reached.0 s.start p.0 p.1 r.best.reached.1;
          height = r.height;
          has = r.has;
          sum = refl;
        } in
        in_without all_pairs of_relevant (p.0, f) settled p.1 (λ b. one_cost net t P is (lifted p.0 p.1 r.height) b own)

    pub not_passed : count_settled s.settled ≤ s.budget → ¬ PassesBy net s.start s.target s.limit P s.budget
    not_passed few h =
        let most = pigeonhole h.pairs (without_heights all_pairs of_relevant) h.distinct
        (λ p there. is_among p (each_in (λ (q : ℕ × List ℕ). IsRelevantBy net s.start s.target s.limit P q.0 q.1) h.pairs h.relevant p there)) in
        omega (arith, most, h.more, as_many all_pairs of_relevant, pairs_counted 0 s.settled, sum-map {X = List (List ℕ)} length s.settled, few)

-- of the same search
pub passes_same : (net : Network) (P : Potential) (a b : Sweep) → IsSameSearch a b → PassesBy net b.start b.target b.limit P b.budget
    → PassesBy net a.start a.target a.limit P a.budget
passes_same net P a b same h =
    subst (λ u. PassesBy net u a.target a.limit P a.budget) same.start
    (subst (λ u. PassesBy net b.start u a.limit P a.budget) same.target
    (subst (λ l. PassesBy net b.start b.target l P a.budget) same.limit (subst (PassesBy net b.start b.target b.limit P) same.budget h)))

pub settles_same : (net : Network) (P : Potential) (a b : Sweep) → IsSameSearch a b → SettlesAll net b.start b.target b.limit P b.settled
    → SettlesAll net a.start a.target a.limit P b.settled
settles_same net P a b same h =
    subst (λ u. SettlesAll net u a.target a.limit P b.settled) same.start
    (subst (λ u. SettlesAll net b.start u a.limit P b.settled) same.target (subst (λ l. SettlesAll net b.start b.target l P b.settled) same.limit h))

pub no_room_same : (net : Network) (P : Potential) (bound : ℕ) (a b : Sweep) → IsSameSearch a b → HasNoRoom net b.start b.target b.limit P bound
    → HasNoRoom net a.start a.target a.limit P bound
no_room_same net P bound a b same h =
    subst (λ u. HasNoRoom net u a.target a.limit P bound) same.start
    (subst (λ u. HasNoRoom net b.start u a.limit P bound) same.target (subst (λ l. HasNoRoom net b.start b.target l P bound) same.limit h))

pub same_back : (a b : Sweep) → IsSameSearch a b → IsSameSearch b a
same_back a b same = record { start = sym same.start; target = sym same.target; limit = sym same.limit; budget = sym same.budget }

-- where something else waits
pub same_with_queue : (a b c : Sweep) → c ≡ with_queue b c.queue → IsSameSearch a b → IsSameSearch a c
same_with_queue a b c rest same = record {
  start = ap (λ (z : Sweep). z.start) rest ∙ same.start;
  target = ap (λ (z : Sweep). z.target) rest ∙ same.target;
  limit = ap (λ (z : Sweep). z.limit) rest ∙ same.limit;
  budget = ap (λ (z : Sweep). z.budget) rest ∙ same.budget;
}
