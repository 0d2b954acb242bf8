-- Sums and counts over the answers to many queries.
use Rattle.std.proofs.Common.{◌≡◌, ◌≢◌, ◌∙◌, ℕ, ◌+◌, ◌<◌, ◌≤◌, List, [], ◌∷◌, ◌++◌, get_or, length, map, take, sum, refl, ap, subst, sym, arith}
use Rattle.std.proofs.Common.{Bool, true, false, Option, Some, None, IfSome, append-nil, length-append, nat_lt}
use Rattle.std.specs.Prelude.{Contains, cond, is_none, is_some, slice_get, slice_index, sum_by, unwrap_or}
use Rattle.std.specs.List.{All}
use Rattle.std.proofs.lemmas.Bool.{ltb-true, ltb-false}
use Rattle.std.proofs.lemmas.Grind.{flat_map-append}
use Rattle.std.proofs.lemmas.List.{length-map, length-take-le, map-append, take_all, take_more}
use Rattle.std.proofs.lemmas.List.Elements.{All-append, All-cons, All-map, All-nil, All-take, Contains-get_or}
use Rattle.std.proofs.lemmas.List.Sums.{sum_by-append, sum_by-take-le, sum_by_push}
use Rattle.std.proofs.lemmas.Option.{get_or_from_slice_get, slice_get_within}
use Rattle.std.proofs.lemmas.Slice.Zip.{all_zipped_more}
use Rattle.list_laws.proofs.Members.{all_from_in}
use Rattle.list_laws.proofs.Pairs.{pairs_map, pairs_take}
use Rattle.cost_vector.specs.Costs.{LexLess, no_limit}
use Rattle.cost_vector.proofs.Vectors.{LexLess-irrefl}
use Rattle.road_network.specs.Answers.{AreBestCosts, IsAnswer, IsRelevant, Passes, Route}
use Rattle.road_network.specs.Best.{IsBackwardLeast}
use Rattle.road_network.specs.Limits.{max_budget}
use Rattle.road_network.specs.Network.{IsNetwork, Network}
use Rattle.walk_readback.specs.Found.{FoundCosts, HasAllRelevant, IsFound, IsOf, IsWellFound}
use Rattle.road_network.specs.Queries.{IsTooLarge, limit_of, limit_or_none}
use Rattle.road_network.specs.declared.query.Query.{Query}
use Rattle.walk_readback.proofs.WellFoundLaws.{is_within_longest}
use Rattle.query_reader.specs.declared.pairs.Pair.{Pair}
use Rattle.gen_laws.specs.Laws.{IsSmall}
use Rattle.still_commands.specs.declared.summary.Summary.{Summary}
use Rattle.still_commands.specs.Summary.{AreFew, CountsAnswer, CountsPair, Fits, HasAnswer, HasWhole, PairEnds, SumsUp, all_routes, summary_of, with_pair, with_routes}

-- one number more
pub sum_of_more : (xs : List ℕ) (i : ℕ) → i < length xs → sum (take (i + 1) xs) ≡ sum (take i xs) + slice_index xs i
sum_of_more xs i within = ap sum (take_more xs i 0 within) ∙ sum_by_push (λ n. n) (take i xs) (get_or xs i 0)

-- a part of the numbers adds up to no more than all
pub sum_of_part : (xs : List ℕ) (i : ℕ) → sum (take i xs) ≤ sum xs
sum_of_part xs i = sum_by-take-le (λ n. n) xs i

-- ---- the costs of an answer

-- a query within its budget has few costs
module _ (net : Network) (limit : List (Option ℕ)) (f : FoundCosts) (budget : ℕ) (all : HasAllRelevant net limit f) (found : IsFound f) where
  -- more costs than the budget are more relevant pairs
  passes_by : budget < length f.costs → Passes net f.start f.target limit budget
  passes_by more =
      let here : List ℕ → ℕ × List ℕ = λ c. (f.target, c) in
      let front = take (budget + 1) f.costs in
      let IsHere : List ℕ → Type 0 = λ c. IsRelevant net f.start f.target limit f.target c in
      record {
        pairs = map here front;
        more = length-map front here ∙ length-take-le (budget + 1) f.costs (omega (arith, more));
        distinct = pairs_map LexLess ◌≢◌ here (λ x z less same. LexLess-irrefl z (subst (λ y. LexLess y z) (ap (λ (p : ℕ × List ℕ). p.1) same) less)) front
            (pairs_take LexLess (budget + 1) f.costs found.ascending);
        relevant = All-map (λ p. IsRelevant net f.start f.target limit p.0 p.1) here front
            (All-take IsHere (budget + 1) f.costs (all_from_in IsHere f.costs (λ c there. (all.relevant f.target c).0 ((found.costs c).0 there))));
      }

  few_if : ¬ Passes net f.start f.target limit budget → (more : Bool) → nat_lt budget (length f.costs) ≡ more → length f.costs ≤ budget
  few_if within true is = absurd (within (passes_by (ltb-true budget (length f.costs) is)))
  few_if within false is = ltb-false budget (length f.costs) is

  pub few_costs : ¬ Passes net f.start f.target limit budget → length f.costs ≤ budget
  few_costs within = few_if within (nat_lt budget (length f.costs)) refl

-- what was found for a query without a limit, within its budget, is its whole answer
pub has_whole : (net : Network) (query : Query) (f : FoundCosts) → IsOf net query f → query.limit ≡ None → HasAllRelevant net (limit_of net.criteria query) f
    → IsWellFound net (limit_of net.criteria query) f → ¬ IsTooLarge net query → query.budget ≤ max_budget → HasWhole net query f
has_whole net query f of unlimited all well within most =
    let none = no_limit net.criteria in
    let limit : limit_of net.criteria query ≡ none = ap (limit_or_none net.criteria) unlimited in
    let here : ¬ Passes net query.from query.to none query.budget = rw limit at within in
    let there : ¬ Passes net f.start f.target none query.budget = rw (of.start, of.target) here in
    record {
      answer = record {
        start = of.start;
        target = of.target;
        nodes = of.nodes;
        criteria = of.criteria;
        well_found = subst (λ l. IsWellFound net l f) limit well;
      };
      few = λ found. let few = few_costs net none f query.budget (subst (λ l. HasAllRelevant net l f) limit all) found there in omega (arith, few, most);
      within = here;
    }

-- The first so many costs were counted, with their walks.
pub record HasCounted (net : Network) (f : FoundCosts) (n : ℕ) (old now : Summary) : Type 0 where
  pub routes : List Route
  pub costs : map (λ r. r.cost) routes ≡ take n f.costs
  pub walks : All (λ r. IsBackwardLeast net f.start f.target r.cost r.arcs) routes
  pub counted : now ≡ with_routes old routes
  pub sums : AreFew now

-- counts with other sums
abbrev with_sums : Summary → ℕ → ℕ → ℕ → Summary
with_sums s costs walk_arcs total = record {
  nodes = s.nodes;
  arcs = s.arcs;
  criteria = s.criteria;
  pairs = s.pairs;
  answered = s.answered;
  passed = s.passed;
  costs = costs;
  walk_arcs = walk_arcs;
  total = total;
}

same_sums : (s : Summary) (a b c d e f : ℕ) → a ≡ b → c ≡ d → e ≡ f → with_sums s a c e ≡ with_sums s b d f
same_sums s a b c d e f costs walk_arcs total = rw (costs, walk_arcs, total) refl

-- one cost more
more_routes : (s : Summary) (routes : List Route) (r : Route) → with_routes (with_routes s routes) (r ∷ []) ≡ with_routes s (routes ++ r ∷ [])
more_routes s routes r =
    same_sums s _ _ _ _ _ _ (omega (arith, length-append routes (r ∷ []))) (omega (arith, sum_by-append (λ (q : Route). length q.arcs) routes (r ∷ [])))
    (omega (arith, sum_by-append (λ (q : Route). sum q.cost) routes (r ∷ [])))

module _ (net : Network) (f : FoundCosts) (old : Summary) where
  -- none was counted yet
  pub none_counted : AreFew old → HasCounted net f 0 old old
  none_counted few = record {
    routes = [];
    costs = refl;
    walks = All-nil (λ r. IsBackwardLeast net f.start f.target r.cost r.arcs);
    counted = same_sums old _ _ _ _ _ _ (omega arith) (omega arith) (omega arith);
    sums = few;
  }

  -- so many have come to the count of costs
  pub count_of_costs : (n : ℕ) (now : Summary) → n ≤ length f.costs → HasCounted net f n old now → now.costs ≡ old.costs + n
  count_of_costs n now within so =
      let costs = ap (λ (s : Summary). s.costs) so.counted in
      let long = ap length so.costs in
      omega (arith, costs, long, length-map so.routes (λ (r : Route). r.cost), length-take-le n f.costs within)

  module _ (i : ℕ) (c p : List ℕ) (at : slice_get f.costs i ≡ Some c)
      (walk : IfSome (slice_get f.costs i) (λ b. IsBackwardLeast net f.start f.target b p)) where
    least : IsBackwardLeast net f.start f.target c p
    least = subst (λ o. IfSome o (λ b. IsBackwardLeast net f.start f.target b p)) at walk

    -- a walk of the answer is short, and costs little
    pub short_walk : (limit : List (Option ℕ)) → IsNetwork net → IsFound f → IsSmall net → f.nodes ≡ net.nodes → IsWellFound net limit f
        → (length p ≤ 1000000) × (sum c ≤ 400000000)
    short_walk limit is found small nodes well =
        let there = subst (Contains f.costs) (get_or_from_slice_get f.costs i c c at) (Contains-get_or f.costs i c (slice_get_within f.costs i c at)) in
        let long = is_within_longest net is limit f well c p there least.walk nodes in
        let few : length p ≤ 1000000 = omega (arith, long, nodes, small.nodes) in
        let cost = small.costs f.start f.target p c least.walk in
        (few, omega (arith, few, cost))

    -- one cost more was counted
    pub one_counted : (mid now : Summary) → HasCounted net f i old mid → now ≡ with_routes mid (record { cost = c; arcs = p } ∷ []) → AreFew now
        → HasCounted net f (i + 1) old now
    one_counted mid now so counts few =
        let route : Route = record { cost = c; arcs = p } in
        let Least : Route → Type 0 = λ r. IsBackwardLeast net f.start f.target r.cost r.arcs in
        let front : take (i + 1) f.costs ≡ take i f.costs ++ c ∷ [] =
        take_more f.costs i c (slice_get_within f.costs i c at) ∙ ap (λ x. take i f.costs ++ x ∷ []) (get_or_from_slice_get f.costs i c c at) in
        record {
          routes = so.routes ++ route ∷ [];
          costs = map-append (λ (r : Route). r.cost) so.routes (route ∷ []) ∙ ap (λ l. l ++ c ∷ []) so.costs ∙ sym front;
          walks = All-append Least so.routes (route ∷ []) so.walks (All-cons Least route [] least (All-nil Least));
          counted = counts ∙ ap (λ m. with_routes m (route ∷ [])) so.counted ∙ more_routes old so.routes route;
          sums = few;
        }

-- all costs of an answer were counted
pub all_counted : (net : Network) (query : Query) (f : FoundCosts) (n : ℕ) (old now : Summary) → HasAnswer net query f → IsFound f
    → length f.costs ≤ n → HasCounted net f n old now → CountsAnswer net query.from query.to old now
all_counted net query f n old now has found past so =
    let limit = no_limit net.criteria in
    let costs = subst (AreBestCosts net f.start f.target limit) (sym (so.costs ∙ take_all n f.costs past))
    (record { ascending = found.ascending; exact = has.well_found.costs }) in
    let answer : IsAnswer net f.start f.target limit so.routes = record { costs = costs; walks = so.walks } in
    record {
      routes = so.routes;
      answer = subst (λ s. IsAnswer net s query.to limit so.routes) has.start (subst (λ t. IsAnswer net f.start t limit so.routes) has.target answer);
      counted = so.counted;
    }

-- ---- pairs

-- an answered pair is counted
pub counts_answered : (net : Network) (budget : ℕ) (pair : Pair) (old mid : Summary) → ¬ Passes net pair.from pair.to (no_limit net.criteria) budget
    → CountsAnswer net pair.from pair.to old mid → CountsPair net budget pair old (record mid { answered = mid.answered + 1; pairs = mid.pairs + 1 })
counts_answered net budget pair old mid within counts = record {
  end = Some counts.routes;
  ends = (within, counts.answer);
  counted = ap (λ (m : Summary). record m { answered = m.answered + 1; pairs = m.pairs + 1 }) counts.counted;
}

pub fits_answered : (net : Network) (s t : ℕ) (old mid : Summary) → Fits old → CountsAnswer net s t old mid → mid.costs ≤ old.costs + max_budget
    → AreFew mid → Fits (record mid { answered = mid.answered + 1; pairs = mid.pairs + 1 })
fits_answered net s t old mid fits counts more few =
    let answered = ap (λ (m : Summary). m.answered) counts.counted in
    let passed = ap (λ (m : Summary). m.passed) counts.counted in
    let pairs = ap (λ (m : Summary). m.pairs) counts.counted in
    record {
      answered = omega (arith, answered, pairs, fits.answered);
      passed = omega (arith, passed, pairs, fits.passed);
      costs = omega (arith, pairs, more, fits.costs);
      sums = record { walk_arcs = few.walk_arcs; total = few.total };
    }

pairs_more : (s : Summary) (end : Option (List Route)) → (with_pair s end).pairs ≡ s.pairs + 1
pairs_more s (Some routes) = refl
pairs_more s None = refl

pub one_pair_more : (net : Network) (budget : ℕ) (pair : Pair) (old now : Summary) → CountsPair net budget pair old now → now.pairs ≡ old.pairs + 1
one_pair_more net budget pair old now counts = ap (λ (s : Summary). s.pairs) counts.counted ∙ pairs_more old counts.end

all_routes_more : (ends : List (Option (List Route))) (end : Option (List Route)) → all_routes (ends ++ end ∷ []) ≡ all_routes ends ++ unwrap_or end []
all_routes_more ends end =
    flat_map-append (λ e. unwrap_or e []) ends (end ∷ []) ∙ ap (λ l. all_routes ends ++ l) (append-nil (unwrap_or end []))

module _ (net : Network) where
  -- the counts of a network
  abbrev counts_of : ℕ → ℕ → ℕ → ℕ → ℕ → ℕ → Summary
  counts_of pairs answered passed costs walk_arcs total = record {
    nodes = net.nodes;
    arcs = length net.ends;
    criteria = net.criteria;
    pairs = pairs;
    answered = answered;
    passed = passed;
    costs = costs;
    walk_arcs = walk_arcs;
    total = total;
  }

  same_counts : (a b c d e f g h i j k l : ℕ) → a ≡ b → c ≡ d → e ≡ f → g ≡ h → i ≡ j → k ≡ l → counts_of a c e g i k ≡ counts_of b d f h j l
  same_counts a b c d e f g h i j k l pairs answered passed costs walk_arcs total = rw (pairs, answered, passed, costs, walk_arcs, total) refl

  -- one pair more
  more_ends : (ends : List (Option (List Route))) (end : Option (List Route)) → with_pair (summary_of net ends) end ≡ summary_of net (ends ++ end ∷ [])
  more_ends ends (Some routes) =
      let all = all_routes_more ends (Some routes) in
      let arcs = ap (sum_by (λ (q : Route). length q.arcs)) all ∙ sum_by-append (λ (q : Route). length q.arcs) (all_routes ends) routes in
      let total = ap (sum_by (λ (q : Route). sum q.cost)) all ∙ sum_by-append (λ (q : Route). sum q.cost) (all_routes ends) routes in
      same_counts _ _ _ _ _ _ _ _ _ _ _ _ (omega (arith, length-append ends (Some routes ∷ [])))
      (sym (sum_by_push (λ e. cond (is_some e) 1 0) ends (Some routes))) (omega (arith, sum_by_push (λ e. cond (is_none e) 1 0) ends (Some routes)))
      (omega (arith, ap length all, length-append (all_routes ends) routes)) (sym arcs) (sym total)
  more_ends ends None =
      let all : all_routes (ends ++ None ∷ []) ≡ all_routes ends = all_routes_more ends None ∙ append-nil (all_routes ends) in
      same_counts _ _ _ _ _ _ _ _ _ _ _ _ (omega (arith, length-append ends (None ∷ [])))
      (omega (arith, sum_by_push (λ e. cond (is_some e) 1 0) ends None)) (sym (sum_by_push (λ e. cond (is_none e) 1 0) ends None))
      (sym (ap length all)) (sym (ap (sum_by (λ (q : Route). length q.arcs)) all)) (sym (ap (sum_by (λ (q : Route). sum q.cost)) all))

  module _ (budget : ℕ) (pairs : List Pair) where
    pub none_summed : (counts : Summary) → counts ≡ summary_of net [] → SumsUp net budget [] counts
    none_summed counts is = record { ends = []; each = tt; counted = is }

    pub one_more_summed : (i : ℕ) (d : Pair) (old now : Summary) → i < length pairs → SumsUp net budget (take i pairs) old
        → CountsPair net budget (get_or pairs i d) old now → SumsUp net budget (take (i + 1) pairs) now
    one_more_summed i d old now within so one =
        subst (λ front. SumsUp net budget front now) (sym (take_more pairs i d within)) (record {
          ends = so.ends ++ one.end ∷ [];
          each = all_zipped_more (PairEnds net budget) (take i pairs) so.ends (get_or pairs i d) one.end so.each one.ends;
          counted = one.counted ∙ ap (λ s. with_pair s one.end) so.counted ∙ more_ends so.ends one.end;
        })

    pub all_summed : (n : ℕ) (counts : Summary) → length pairs ≤ n → SumsUp net budget (take n pairs) counts → SumsUp net budget pairs counts
    all_summed n counts past so = subst (λ front. SumsUp net budget front counts) (take_all n pairs past) so
