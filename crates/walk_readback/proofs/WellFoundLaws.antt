-- Relevant pairs and what lies on the way of an answer's walks can be read back, arc by arc; and no such walk is longer than `longest_in` says.
use Rattle.std.proofs.Common.{◌≡◌, ◌≢◌, ℕ, ◌≤◌, List, [], ◌∷◌, Option, length, reverse, inl, inr, refl, sym, subst, arith, ◌<◌, ◌++◌, Some, map}
use Rattle.std.specs.Prelude.{AllPairs, Contains, slice_get}
use Rattle.std.proofs.lemmas.List.{length-reverse, reverse-append, append_assoc, append-nil, length-append, length-map}
use Rattle.cost_vector.specs.Costs.{Dominates}
use Rattle.cost_vector.proofs.Vectors.{Dominates-AtMost, Dominates-irrefl, Dominates-trans, Within-AtMost}
use Rattle.list_laws.proofs.Members.{in_none, cases_in}
use Rattle.list_laws.proofs.Pairs.{pairs_none, pairs_cons, pigeonhole}
use Rattle.road_network.specs.Network.{Network, IsNetwork}
use Rattle.road_network.specs.Walks.{IsWalk, Arrives}
use Rattle.road_network.proofs.WalkLaws.{length_of_arrival, arrives_by_walk, walk_by_arrival}
use Rattle.road_network.proofs.BestLaws.{grows_along}
use Rattle.road_network.proofs.FiniteLaws.{best_is_short}
use Rattle.walk_readback.specs.Found.{FoundCosts, HasSettled, IsFound, IsOnTheWay, IsWellFound, HasAllRelevant, longest_in}
use Rattle.walk_readback.specs.GoingBack.{IsReadable, GoesBack}
use Rattle.walk_readback.proofs.GoingBackLaws.{front_below, front_is_best, front_is_readable, itself_settled, EndsWith, empty, last, cases_end, last_goes_back, readable_before}
use Rattle.std.proofs.lemmas.Option.{slice_get_within, get_or_from_slice_get}
use Rattle.list_laws.specs.Least.{IsLeastWith}
use Rattle.cost_vector.specs.declared.label.ArcNo.{ArcNo}
use Rattle.road_network.specs.Best.{IsBackwardLeast}
use Rattle.road_network.proofs.BackwardLaws.{has_backward_least, with_last_arc}

module _ (net : Network) (is : IsNetwork net) (limit : List (Option ℕ)) (f : FoundCosts) where
  module _ (all : HasAllRelevant net limit f) where
    -- where the relevant pairs are settled, each of them can be read back
    pub settled_is_readable : (v : ℕ) (c : List ℕ) → HasSettled f v c → IsReadable net f v c
    settled_is_readable v c there = let relevant = (all.relevant v c).0 there in record {
      network = is;
      best = relevant.best;
      settled = λ p q u b whole front.
          let below = front_below net is f.start p q v c whole u b front in
          (all.relevant u b).1 (record {
            best = front_is_best net is f.start p q v c whole u b front relevant.best;
            within = Within-AtMost limit b c below relevant.within;
            undominated = λ d best beats. relevant.undominated d best (Dominates-AtMost d b c beats below);
          });
      walked = λ u b settled. ((all.relevant u b).0 settled).best.reached;
    }

    -- and all is well found
    pub well_found : IsFound f → IsWellFound net limit f
    well_found found = record {
      costs = λ c. (
        λ there. let relevant = (all.relevant f.target c).0 ((found.costs c).0 there) in (relevant.best, relevant.within),
        λ (best, within). (found.costs c).1 ((all.relevant f.target c).1 (record {
          best = best;
          within = within;
          undominated = λ b other. best.nondominated other.reached.0 b other.reached.1;
        })),
      );
      walked = λ u b settled. ((all.relevant u b).0 settled).best.reached;
      on_the_way = λ v b way.
          let there = (found.costs way.cost).0 way.there in
          (settled_is_readable f.target way.cost there).settled way.first way.rest v b way.whole way.reaches;
    }

  module _ (well : IsWellFound net limit f) where
    -- where all is well found, the costs can be read back
    pub cost_is_readable : (c : List ℕ) → Contains f.costs c → IsReadable net f f.target c
    cost_is_readable c there = record {
      network = is;
      best = ((well.costs c).0 there).0;
      settled = λ p q u b whole front.
          well.on_the_way u b (record { first = p; rest = q; cost = c; there = there; whole = whole; reaches = front });
      walked = well.walked;
    }

    -- so can what lies on the way
    pub way_is_readable : (v : ℕ) (b : List ℕ) → IsOnTheWay net f v b → IsReadable net f v b
    way_is_readable v b way = front_is_readable net f way.first way.rest f.target way.cost (cost_is_readable way.cost way.there) way.whole v b way.reaches

    -- ---- how long walks are

    -- the pairs are settled, and their costs dominate b
    abbrev AreEarlier : List ℕ → List (ℕ × List ℕ) → Type 0
    AreEarlier b ends = (x : ℕ × List ℕ) → Contains ends x → Contains f.settled x × Dominates x.1 b

    with_end : (v : ℕ) (b : List ℕ) (ends : List (ℕ × List ℕ)) → AreEarlier b ends → AllPairs ◌≢◌ ends → AllPairs ◌≢◌ ((v, b) ∷ ends)
    with_end v b ends each =
        pairs_cons ◌≢◌ (v, b) ends (λ x there same. Dominates-irrefl b (subst (λ (y : ℕ × List ℕ). Dominates y.1 b) (sym same) (each x there).1))

    -- the fronts of a walk end at such pairs, each at its own
    fronts_are_settled : (q : List ℕ) (v : ℕ) (b : List ℕ) → IsReadable net f v b → Arrives net f.start q v b
        → (ends : List (ℕ × List ℕ)) × (length ends ≡ length q) × AllPairs ◌≢◌ ends × AreEarlier b ends
    fronts_are_settled [] v b r walk = ([], refl, pairs_none ◌≢◌, λ x none. absurd (in_none x none))
    fronts_are_settled (k ∷ q) v b r walk =
        let u = walk.at in let a = walk.before in
        let whole = rw (reverse-append (k ∷ []) q) at (walk_by_arrival net is (k ∷ q) f.start v b walk) in
        let front = front_is_readable net f (reverse q) (k ∷ []) v b r whole u a (walk_by_arrival net is q f.start u a walk.walk) in
        let (ends, count, distinct, each) = fronts_are_settled q u a front walk.walk in
        let less : Dominates a b = rw walk.cost (grows_along net is k u v walk.by a walk.leads (length_of_arrival net is q f.start u a walk.walk)) in (
          (u, a) ∷ ends,
          omega (arith, count),
          with_end u a ends each distinct,
          λ x there. elim (cases_in (u, a) ends x there) [
            | inl same ↦ rw same (itself_settled front, less)
            | inr later ↦ ((each x later).0, Dominates-trans x.1 a b (each x later).1 less)
          ],
        )

    -- so a walk of an answer's cost has fewer arcs than there are settled pairs, and nodes, since it goes through none twice
    pub is_within_longest : (c p : List ℕ) → Contains f.costs c → IsWalk net f.start p f.target c → f.nodes ≡ net.nodes → length p ≤ longest_in f
    is_within_longest c p there walk nodes =
        let r = cost_is_readable c there in
        let (ends, count, distinct, each) = fronts_are_settled (reverse p) f.target c r (arrives_by_walk net is p f.start f.target c walk) in
        let all = pigeonhole ((f.target, c) ∷ ends) f.settled (with_end f.target c ends each distinct) (λ x there. elim (cases_in (f.target, c) ends x there) [
          | inl same ↦ rw same (itself_settled r)
          | inr later ↦ (each x later).0
        ]) in
        let short = best_is_short net is p f.start f.target c walk r.best in
        omega (arith, all, count, short, nodes, length-reverse p)

-- ---- a walk that is read back

-- the numbers of the arcs
abbrev pub numbers : List ArcNo → List ℕ
numbers = map (λ a. a.0)

-- A walk of this cost of the target is being read back, and none is longer than `longest_in` says. It comes to the node at the
-- cost `left`, from where these arcs were read.
pub record IsReading (net : Network) (f : FoundCosts) (cost : List ℕ) (node : ℕ) (left : List ℕ) (arcs : List ArcNo) : Type 0 where
  pub short : (p : List ℕ) → IsWalk net f.start p f.target cost → length p ≤ longest_in f
  pub readable : IsReadable net f node left
  pub whole : (p : List ℕ) → IsBackwardLeast net f.start node left p → IsBackwardLeast net f.start f.target cost (p ++ numbers (reverse arcs))

-- nothing is read yet
pub reading_begins : (net : Network) (f : FoundCosts) → IsNetwork net → (limit : List (Option ℕ)) → IsWellFound net limit f → f.nodes ≡ net.nodes
    → (i : ℕ) (c : List ℕ) → slice_get f.costs i ≡ Some c → IsReading net f c f.target c []
reading_begins net f is limit well nodes i c at =
    let there : Contains f.costs c = (i, slice_get_within f.costs i c at, get_or_from_slice_get f.costs i c c at) in
    record {
      short = λ p walk. is_within_longest net is limit f well c p there walk nodes;
      readable = cost_is_readable net is limit f well c there;
      whole = λ p least. rw append-nil least;
    }

module _ {net : Network} {f : FoundCosts} {cost : List ℕ} {node : ℕ} {left : List ℕ} {arcs : List ArcNo} (r : IsReading net f cost node left arcs) where
  -- a walk comes to the node
  abbrev so_far : (p : List ℕ) × IsBackwardLeast net f.start node left p
  so_far = let (p, walk) = r.readable.best.reached in has_backward_least net r.readable.network p f.start node left walk

  -- where no arc goes back, all is read
  pub reading_ends : ((k : ℕ) → ¬ GoesBack net f node left k) → IsBackwardLeast net f.start f.target cost (numbers (reverse arcs))
  reading_ends none = let (p, least) = so_far in by_end p least (cases_end p) where
    by_end : (p : List ℕ) → IsBackwardLeast net f.start node left p → EndsWith p → IsBackwardLeast net f.start f.target cost (numbers (reverse arcs))
    by_end p least (empty is) = rw is at (r.whole p least)
    by_end p least (last front k is) = absurd (none k (last_goes_back r.readable front k (subst (λ q. IsWalk net f.start q node left) is least.walk)))

  -- by the least arc that goes back it goes on
  pub reading_goes_on : (arc : ArcNo) (least : IsLeastWith (GoesBack net f node left) arc.0)
      → IsReading net f cost least.holds.from least.holds.before (arcs ++ arc ∷ [])
  reading_goes_on arc least = record {
    short = r.short;
    readable = readable_before r.readable arc.0 back;
    whole = λ p walk.
        let longer = with_last_arc net r.readable.network p f.start back.from node arc.0 back.before back.by walk back.leads (λ q j other.
        let not_below : ¬ (j < arc.0) = λ below. least.none_below j below (last_goes_back r.readable q j (rw back.cost other)) in
        omega (arith, not_below)) in
        let all = r.whole (p ++ arc.0 ∷ []) (rw back.cost longer) in
        rw reverse-append (rw append_assoc at all);
  } where
    back : GoesBack net f node left arc.0
    back = least.holds

-- a walk of which an arc was read has room for it
pub is_room : {net : Network} {f : FoundCosts} {cost : List ℕ} {node : ℕ} {left : List ℕ} (arcs : List ArcNo) (arc : ArcNo)
    → IsReading net f cost node left (arcs ++ arc ∷ []) → length arcs < longest_in f
is_room arcs arc r =
    let (p, least) = so_far r in
    let read = reverse (arcs ++ arc ∷ []) in
    let most = r.short (p ++ numbers read) (r.whole p least).walk in
    omega (arith, most, length-append p (numbers read), length-map {B = ℕ} read (λ a. a.0), length-reverse (arcs ++ arc ∷ []), length-append arcs (arc ∷ []))
