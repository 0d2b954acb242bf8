-- How much the walks of a plan's network cost.
use Rattle.std.proofs.Common.{◌≡◌, ℕ, zero, suc, ◌+◌, ◌-◌, ◌*◌, ◌≤◌, List, [], ◌∷◌, Some, IfSome, length, replicate, get_or, refl, ap, arith}
use Rattle.std.specs.Prelude.{sum, slice_get}
use Rattle.std.specs.List.{All, enumerate_from, range_with_len}
use Rattle.std.specs.Option.{option_map_or}
use Rattle.std.proofs.lemmas.List.Elements.{All-head, All-map, All-nil, All-tail, All-weaker}
use Rattle.std.proofs.lemmas.List.FromFn.{length-map-range_with_len}
use Rattle.std.proofs.lemmas.List.{length-map}
use Rattle.std.proofs.lemmas.List.Sums.{sum_by-cons, sum_by-le}
use Rattle.cost_vector.specs.Costs.{plus}
use Rattle.road_network.specs.Network.{Network}
use Rattle.road_network.specs.Walks.{IsWalk}
use Rattle.arc_graph.specs.declared.file.ArcLine.{ArcLine}
use Rattle.arc_graph.specs.Files.{ArcFile}
use Rattle.arc_graph.specs.Agreement.{joined, vector_at, weight_at}
use Rattle.graph_gen.specs.declared.GenPlan.{GenPlan}
use Rattle.graph_gen.specs.Plans.{IsPlan}
use Rattle.graph_gen.specs.Sequence.{first_number}
use Rattle.gen_laws.specs.Laws.{IsSmall, arc_of, file_of, files_of}
use Rattle.gen_laws.proofs.AgreeLemmas.{got}
use Rattle.gen_laws.proofs.GridLemmas.{all_range}
use Rattle.gen_laws.proofs.WeightLemmas.{IsSmallArc, all_small, drawn, few_nodes}

-- ---- costs of walks

sum-cons : (x : ℕ) (xs : List ℕ) → sum (x ∷ xs) ≡ x + sum xs
sum-cons x xs = sum_by-cons (λ n. n) x xs

-- a sum of vectors adds up to no more than both do
sum-plus : (xs ys : List ℕ) → sum (plus xs ys) ≤ sum xs + sum ys
sum-plus [] ys = omega arith
sum-plus (x ∷ xs) [] = omega arith
sum-plus (x ∷ xs) (y ∷ ys) = omega (arith, sum-cons (x + y) (plus xs ys), sum-cons x xs, sum-cons y ys, sum-plus xs ys)

sum-zeros : (d : ℕ) → sum (replicate d 0) ≡ 0
sum-zeros zero = refl
sum-zeros (suc d) = sum-zeros d

module _ (net : Network) (small : All (λ s. IfSome s (λ w. sum w ≤ 400)) net.states) where
  -- where each vector adds up to 400 at most, a walk costs at most as much for each arc
  pub small_walk : (p : List ℕ) (s t : ℕ) (c : List ℕ) → IsWalk net s p t c → sum c ≤ length p * 400
  small_walk [] s t c walk = omega (arith, ap sum walk.2, sum-zeros net.criteria)
  small_walk (k ∷ rest) s t c walk =
      let by = got (λ state. IfSome state (λ w. sum w ≤ 400)) net.states (k - 1) (Some walk.by) small walk.leads.passable in
      let onward = small_walk rest walk.at t walk.onward walk.walk in
      omega (arith, ap sum walk.cost, sum-plus walk.by walk.onward, by, onward)

-- ---- vectors of joined files

-- no weight is above 100
abbrev HasSmallWeights : ArcFile → Type 0
HasSmallWeights file = All (λ (arc : ArcLine). arc.weight ≤ 100) file.arcs

small_at : (arcs : List ArcLine) (k : ℕ) → All (λ (arc : ArcLine). arc.weight ≤ 100) arcs
    → option_map_or (λ (arc : ArcLine). arc.weight) (slice_get arcs k) 0 ≤ 100
small_at [] k all = omega arith
small_at (arc ∷ arcs) zero all = All-head (λ (a : ArcLine). a.weight ≤ 100) arc arcs all
small_at (arc ∷ arcs) (suc k) all = small_at arcs k (All-tail (λ (a : ArcLine). a.weight ≤ 100) arc arcs all)

small_vector : (files : List ArcFile) (place : ℕ) → All HasSmallWeights files → sum (vector_at files place) ≤ length files * 100
small_vector files place all =
    let weights : All (λ w. w ≤ 100) (vector_at files place) =
    All-map (λ w. w ≤ 100) (weight_at place) files
    (All-weaker HasSmallWeights (λ file. weight_at place file ≤ 100) (λ file small. small_at file.arcs place small) files all) in
    omega (arith, sum_by-le (λ n. n) 100 (vector_at files place) weights, length-map files (weight_at place))

small_states : (files : List ArcFile) → All HasSmallWeights files → length files ≤ 4
    → All (λ s. IfSome s (λ w. sum w ≤ 400)) (joined files).states
small_states [] all few = All-nil (λ s. IfSome s (λ w. sum w ≤ 400))
small_states (first ∷ others) all few =
    All-map (λ s. IfSome s (λ w. sum w ≤ 400)) (λ (p : ℕ × ArcLine). Some (vector_at (first ∷ others) p.0)) (enumerate_from 0 first.arcs)
    (λ i d within. omega (arith, few, small_vector (first ∷ others) (get_or (enumerate_from 0 first.arcs) i d).0 all))

-- ---- the network of a plan

module _ (plan : GenPlan) (is : IsPlan plan) where
  small_file : (criterion : ℕ) → HasSmallWeights (file_of plan criterion)
  small_file criterion =
      let x = first_number plan.start criterion in
      All-map (λ (arc : ArcLine). arc.weight ≤ 100) arc_of (drawn plan.side x is.side)
      (All-weaker (IsSmallArc plan.side x is.side) (λ p. p.1 ≤ 100) (λ p small. small.1) (drawn plan.side x is.side) (all_small plan.side x is.side))

  small_files : All HasSmallWeights (files_of plan)
  small_files =
      All-map HasSmallWeights (file_of plan) (range_with_len 1 plan.criteria)
      (all_range (λ c. HasSmallWeights (file_of plan c)) 1 plan.criteria (λ c low high. small_file c))

  few_in : (files : List ArcFile) → All (λ (file : ArcFile). file.nodes ≤ 1000000) files → (joined files).nodes ≤ 1000000
  few_in [] all = omega arith
  few_in (first ∷ others) all = All-head (λ (file : ArcFile). file.nodes ≤ 1000000) first others all

  pub is_small : IsSmall (joined (files_of plan))
  is_small = record {
    nodes = few_in (files_of plan) (All-map (λ (file : ArcFile). file.nodes ≤ 1000000) (file_of plan) (range_with_len 1 plan.criteria)
        (all_range (λ c. (file_of plan c).nodes ≤ 1000000) 1 plan.criteria (λ c low high. few_nodes plan.side is.side)));
    costs = λ s t p c walk. small_walk (joined (files_of plan)) (small_states (files_of plan) small_files
        (omega (arith, is.criteria, length-map-range_with_len (file_of plan) 1 plan.criteria))) p s t c walk;
  }
