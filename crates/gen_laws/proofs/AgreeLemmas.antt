-- The weight files of a plan agree.
use Rattle.std.proofs.Common.{◌≡◌, ℕ, ◌-◌, ◌<◌, ◌≤◌, zero, suc, List, [], ◌∷◌, Some, IsSomeAnd, length, get_or, map, ap, sym, ◌∙◌, subst, arith}
use Rattle.std.specs.Prelude.{option_map, slice_get}
use Rattle.std.specs.List.{All, range_with_len}
use Rattle.std.proofs.lemmas.List.{length-map}
use Rattle.std.proofs.lemmas.List.Elements.{All-get_or, All-head, All-map, All-tail, All-weaker}
use Rattle.std.proofs.lemmas.List.FromFn.{length-map-range_with_len}
use Rattle.std.proofs.lemmas.Option.{get_or_from_slice_get, slice_get-map, slice_get_within}
use Rattle.std.proofs.lemmas.Simd.{map-map}
use Rattle.std.proofs.lemmas.Slice.Zip.{firsts-zip}
use Rattle.arc_graph.specs.declared.file.ArcLine.{ArcLine}
use Rattle.arc_graph.specs.Files.{ArcFile, ends_of, size_of}
use Rattle.arc_graph.specs.Agreement.{DiffersInEnds, DiffersInSize, IsZeroArc}
use Rattle.graph_gen.specs.declared.GenPlan.{GenPlan}
use Rattle.graph_gen.specs.Grids.{arc_count, grid_arcs, node_count}
use Rattle.graph_gen.specs.Plans.{IsPlan}
use Rattle.graph_gen.specs.Sequence.{first_number, nth_behind, weight_by, weights_behind}
use Rattle.gen_laws.specs.Laws.{arc_of, file_of}
use Rattle.gen_laws.proofs.GridLemmas.{AreNodes, all_range, ends_are_nodes}
use Rattle.gen_laws.proofs.ZipLemmas.{all_zip}
use Rattle.gen_laws.proofs.WeightLemmas.{drawn, length-drawn}

-- what holds of all items holds of the one at a place
pub got : {X : Type 0} (P : X → Type 0) (xs : List X) (k : ℕ) (x : X) → All P xs → slice_get xs k ≡ Some x → P x
got P xs k x all is = subst P (get_or_from_slice_get xs k x x is) (All-get_or P xs k x (slice_get_within xs k x is) all)

-- no arc at a place has weight 0, where none has
no_zero : (arcs : List ArcLine) (k : ℕ) → All (λ arc. 1 ≤ arc.weight) arcs → ¬ IsSomeAnd (slice_get arcs k) (λ arc. arc.weight ≡ 0)
no_zero [] k all some = some
no_zero (arc ∷ arcs) zero all some = let one = All-head (λ (a : ArcLine). 1 ≤ a.weight) arc arcs all in absurd (omega (arith, one, some))
no_zero (arc ∷ arcs) (suc k) all some = no_zero arcs k (All-tail (λ (a : ArcLine). 1 ≤ a.weight) arc arcs all) some

module _ (plan : GenPlan) (is : IsPlan plan) where
  abbrev files : List ArcFile
  files = map (file_of plan) (range_with_len 1 plan.criteria)

  abbrev drawn_for : ℕ → List ((ℕ × ℕ) × ℕ)
  drawn_for criterion = drawn plan.side (first_number plan.start criterion) is.side

  -- of all files holds what holds of that of each criterion
  of_files : (P : ArcFile → Type 0) → ((criterion : ℕ) → P (file_of plan criterion)) → All P files
  of_files P each = All-map P (file_of plan) (range_with_len 1 plan.criteria) (all_range (λ c. P (file_of plan c)) 1 plan.criteria (λ c low high. each c))

  abbrev size : ℕ × ℕ
  size = (node_count plan.side, arc_count plan.side)

  sizes_are : All (λ s. s ≡ size) (map size_of files)
  sizes_are =
      All-map (λ s. s ≡ size) size_of files (of_files (λ file. size_of file ≡ size) (λ c.
      ap (λ n. (node_count plan.side, n)) (length-map (drawn_for c) arc_of ∙ length-drawn plan.side (first_number plan.start c) is.side)))

  pub same_sizes : (f : ℕ) → ¬ DiffersInSize files f
  same_sizes f differs =
      differs.differs (got (λ s. s ≡ size) (map size_of files) (f - 1) differs.other sizes_are differs.sizes_are.other_is
      ∙ sym (got (λ s. s ≡ size) (map size_of files) 0 differs.first sizes_are differs.sizes_are.first_is))

  -- a file lists the grid's arcs
  abbrev HasEnds : ArcFile → Type 0
  HasEnds file = map ends_of file.arcs ≡ grid_arcs plan.side

  ends_are : All HasEnds files
  ends_are =
      of_files HasEnds (λ c. map-map ends_of arc_of (drawn_for c)
      ∙ firsts-zip (grid_arcs plan.side) (weights_behind (first_number plan.start c) (length (grid_arcs plan.side)))
      (length-map-range_with_len (λ n. weight_by (nth_behind (first_number plan.start c) n)) 1 (length (grid_arcs plan.side))))

  pub same_ends : (a f : ℕ) → ¬ DiffersInEnds files a f
  same_ends a f differs =
      let first = got HasEnds files 0 differs.first ends_are differs.files_are.first_is in
      let other = got HasEnds files (f - 1) differs.other ends_are differs.files_are.other_is in
      let one : slice_get (grid_arcs plan.side) (a - 1) ≡ Some (ends_of differs.arc) =
      ap (λ l. slice_get l (a - 1)) (sym first) ∙ slice_get-map ends_of differs.first.arcs (a - 1) ∙ ap (option_map ends_of) differs.arc_is in
      let two : slice_get (grid_arcs plan.side) (a - 1) ≡ Some (ends_of differs.other_arc) =
      ap (λ l. slice_get l (a - 1)) (sym other) ∙ slice_get-map ends_of differs.other.arcs (a - 1) ∙ ap (option_map ends_of) differs.other_arc_is in
      let same : ends_of differs.other_arc ≡ ends_of differs.arc = cc in
      differs.differs same

  -- no arc of a file has weight 0
  abbrev HasWeights : ArcFile → Type 0
  HasWeights file = All (λ (arc : ArcLine). 1 ≤ arc.weight) file.arcs

  weights_are_positive : (x count : ℕ) → All (λ w. 1 ≤ w) (weights_behind x count)
  weights_are_positive x count =
      All-map (λ w. 1 ≤ w) (λ n. weight_by (nth_behind x n)) (range_with_len 1 count)
      (all_range (λ n. 1 ≤ weight_by (nth_behind x n)) 1 count (λ n low high. omega arith))

  weights_are : All HasWeights files
  weights_are =
      of_files HasWeights (λ c.
      let x = first_number plan.start c in
      let ends = grid_arcs plan.side in
      All-map (λ (arc : ArcLine). 1 ≤ arc.weight) arc_of (drawn_for c)
      (All-weaker (λ p. AreNodes plan.side p.0 × (1 ≤ p.1)) (λ p. 1 ≤ p.1) (λ p small. small.1) (drawn_for c)
      (all_zip (AreNodes plan.side) (λ w. 1 ≤ w) ends (weights_behind x (length ends)) (ends_are_nodes plan.side) (weights_are_positive x (length ends)))))

  pub no_zero_arc : (a : ℕ) → ¬ IsZeroArc files a
  no_zero_arc a zero_arc =
      let some : 0 < length files = omega (arith, is.some_criteria, length-map-range_with_len (file_of plan) 1 plan.criteria) in
      let file = file_of plan 0 in
      no_zero (get_or files 0 file).arcs (a - 1) (All-get_or HasWeights files 0 file some weights_are)
      (All-get_or (λ f. IsSomeAnd (slice_get f.arcs (a - 1)) (λ (arc : ArcLine). arc.weight ≡ 0)) files 0 file some zero_arc.zero)
