-- The weights that stand at an arc's place, as files begin and arcs come.
use Rattle.std.proofs.Common.{◌≡◌, ◌≢◌, ℕ, ◌+◌, ◌<◌, List, [], ◌∷◌, ◌++◌, length, take, set, get_or, inl, inr, arith, sym, ap, ◌∙◌}
use Rattle.std.specs.Option.{option_map_or}
use Rattle.std.proofs.lemmas.Bool.{cases_eq}
use Rattle.std.proofs.lemmas.List.{map_push, take_more, take_more_set, same_from_push}
use Rattle.std.proofs.lemmas.List.{get_or-set_same, get_or-set_other, get_or_push, get_or_append_left, get_or_read}
use Rattle.arc_graph.specs.declared.file.ArcLine.{ArcLine}
use Rattle.arc_graph.specs.Files.{ArcFile, empty_file, with_arc}
use Rattle.arc_graph.specs.Agreement.{vector_at, weight_at}
use Rattle.arc_graph.specs.Stored.{IsStoredState}
use Rattle.list_laws.proofs.Gets.{get_added, get_elsewhere}

weight_added : (last : ArcFile) (a : ArcLine) (place : ℕ) → place ≡ length last.arcs → weight_at place (with_arc last a) ≡ a.weight
weight_added last a place at = ap (λ o. option_map_or (λ (arc : ArcLine). arc.weight) o 0) (get_added last.arcs a place at)

-- at other places the file's weight stays
pub weight_elsewhere : (last : ArcFile) (a : ArcLine) (place : ℕ) → place ≢ length last.arcs → weight_at place (with_arc last a) ≡ weight_at place last
weight_elsewhere last a place apart = ap (λ o. option_map_or (λ (arc : ArcLine). arc.weight) o 0) (get_elsewhere last.arcs a place apart)

vector_push : (front : List ArcFile) (last : ArcFile) (place : ℕ) → vector_at (front ++ last ∷ []) place ≡ vector_at front place ++ weight_at place last ∷ []
vector_push front last place = map_push (weight_at place) front last

-- a file that begins has the weight 0 at each place
pub vector_with_new : (files : List ArcFile) (nodes begun place : ℕ) (v : List ℕ) → begun < 4 → IsStoredState begun v → take begun v ≡ vector_at files place
    → take (begun + 1) v ≡ vector_at (files ++ empty_file nodes ∷ []) place
vector_with_new files nodes begun place v room stored kept =
    take_more v begun 0 (omega (arith, stored.four))
    ∙ ap (λ x. take begun v ++ x ∷ []) (stored.filler begun (omega arith))
    ∙ ap (λ xs. xs ++ 0 ∷ []) kept
    ∙ sym (vector_push files (empty_file nodes) place)

-- the arcs of one file, with one more
pub vectors_with_first : (vectors : List (List ℕ)) (last : ArcFile) (a : ArcLine) → length vectors ≡ length last.arcs
    → ((place : ℕ) → place < length vectors → take 1 (get_or vectors place []) ≡ vector_at (last ∷ []) place)
    → (place : ℕ) → place < length vectors + 1 → take 1 (get_or (vectors ++ (a.weight ∷ 0 ∷ 0 ∷ 0 ∷ []) ∷ []) place []) ≡ vector_at (with_arc last a ∷ []) place
vectors_with_first vectors last a count kept place within = elim (cases_eq place (length vectors)) [
  | inl at ↦
      ap (take 1) (get_or_push vectors (a.weight ∷ 0 ∷ 0 ∷ 0 ∷ []) [] place (sym at)) ∙ ap (λ x. x ∷ []) (sym (weight_added last a place (at ∙ count)))
  | inr apart ↦
      ap (take 1) (get_or_append_left vectors ((a.weight ∷ 0 ∷ 0 ∷ 0 ∷ []) ∷ []) [] place (omega arith))
      ∙ kept place (omega arith)
      ∙ ap (λ x. x ∷ []) (sym (weight_elsewhere last a place (λ e. apart (e ∙ sym count))))
]

-- the vector of another place stays
pub vector_elsewhere : (front : List ArcFile) (last : ArcFile) (a : ArcLine) (place : ℕ) → place ≢ length last.arcs
    → vector_at (front ++ last ∷ []) place ≡ vector_at (front ++ with_arc last a ∷ []) place
vector_elsewhere front last a place apart =
    vector_push front last place
    ∙ ap (λ x. vector_at front place ++ x ∷ []) (sym (weight_elsewhere last a place apart))
    ∙ sym (vector_push front (with_arc last a) place)

-- the weight of the last file at a place is written
vector_with_weight : (front : List ArcFile) (last : ArcFile) (a : ArcLine) (i place : ℕ) (v : List ℕ) → i < length v → place ≡ length last.arcs
    → take (i + 1) v ≡ vector_at (front ++ last ∷ []) place → take (i + 1) (set v i a.weight) ≡ vector_at (front ++ with_arc last a ∷ []) place
vector_with_weight front last a i place v room at kept =
    let both = sym (take_more v i 0 room) ∙ kept ∙ vector_push front last place in
    let before = same_from_push (take i v) (vector_at front place) (get_or v i 0) (weight_at place last) both in
    take_more_set v i a.weight room
    ∙ ap (λ xs. xs ++ a.weight ∷ []) before.0
    ∙ ap (λ x. vector_at front place ++ x ∷ []) (sym (weight_added last a place at))
    ∙ sym (vector_push front (with_arc last a) place)

-- so is the vector at each place, once the weight is written at that of the arc
pub vectors_with_weight : (vectors : List (List ℕ)) (front : List ArcFile) (last : ArcFile) (a : ArcLine) (i come place : ℕ) (v : List ℕ) → i < length v
    → come ≡ length last.arcs → come < length vectors → place < length vectors → v ≡ get_or vectors come v
    → ((p : ℕ) → p < length vectors → take (i + 1) (get_or vectors p []) ≡ vector_at (front ++ last ∷ []) p)
    → take (i + 1) (get_or (set vectors come (set v i a.weight)) place []) ≡ vector_at (front ++ with_arc last a ∷ []) place
vectors_with_weight vectors front last a i come place v room come_is there within read kept = elim (cases_eq place come) [
  | inl at ↦
      let here : v ≡ get_or vectors place [] = get_or_read vectors come v there read [] ∙ ap (λ p. get_or vectors p []) (sym at) in
      ap (λ p. take (i + 1) (get_or (set vectors come (set v i a.weight)) p [])) at
      ∙ ap (take (i + 1)) (get_or-set_same vectors come (set v i a.weight) [] there)
      ∙ vector_with_weight front last a i place v room (at ∙ come_is) (ap (take (i + 1)) here ∙ kept place within)
  | inr apart ↦
      ap (take (i + 1)) (get_or-set_other vectors come place (set v i a.weight) [] apart)
      ∙ kept place within
      ∙ vector_elsewhere front last a place (λ e. apart (e ∙ sym come_is))
]
