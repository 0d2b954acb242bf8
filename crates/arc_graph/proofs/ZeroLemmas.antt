-- Which arcs have only zero weights, and what network the others make.
use Rattle.std.proofs.Common.{◌≡◌, ℕ, ◌+◌, ◌-◌, ◌<◌, ◌≤◌, zero, suc, true, List, [], ◌∷◌, ◌∙◌}
use Rattle.std.proofs.Common.{Option, Some, None, length, sum, get_or, inl, inr, arith, sym, subst, ap, refl}
use Rattle.std.specs.Prelude.{slice_get, position, IsSomeAnd}
use Rattle.std.specs.Bool.{Decides}
use Rattle.std.proofs.lemmas.Bool.Decides.{Decides-like}
use Rattle.std.specs.Prelude.{All}
use Rattle.std.proofs.lemmas.List.Elements.{All-nil, All-cons, All-head, All-tail, All-get_or}
use Rattle.list_laws.proofs.Gets.{all_from_get, is_some_within, position_none}
use Rattle.std.specs.Option.{option_map, option_map_or}
use Rattle.std.proofs.lemmas.Bool.{cases_eq, true≢false}
use Rattle.std.proofs.lemmas.List.{length-map}
use Rattle.std.proofs.lemmas.List.Quantifiers.{position-Some}
use Rattle.std.proofs.lemmas.List.Sums.{sum_by-cons}
use Rattle.std.proofs.lemmas.Option.{slice_get-map}
use Rattle.arc_graph.specs.declared.file.ArcLine.{ArcLine}
use Rattle.arc_graph.specs.Files.{ArcFile, size_of, ends_of}
use Rattle.arc_graph.specs.Agreement.{AgreeInSize, IsZeroArc, vector_at, weight_at}
use Rattle.arc_graph.specs.Joiner.{Joiner, IsJoiner}
use Rattle.list_laws.specs.Least.{IsLeastWith}
use Rattle.arc_graph.specs.JoinerHolds.{JoinerHolds}
use Rattle.arc_graph.specs.Stored.{IsStoredState, is_zero}
use Rattle.arc_graph.proofs.Places.{zero_decides, sum_front}

-- the weight of the arc at a place is 0 in the file
abbrev HasZero : ℕ → ArcFile → Type 0
HasZero place f = IsSomeAnd (slice_get f.arcs place) (λ (arc : ArcLine). arc.weight ≡ 0)

zero_of : (arcs : List ArcLine) (place : ℕ) → place < length arcs → option_map_or (λ (arc : ArcLine). arc.weight) (slice_get arcs place) 0 ≡ 0
    → IsSomeAnd (slice_get arcs place) (λ (arc : ArcLine). arc.weight ≡ 0)
zero_of [] place within none = absurd (omega arith)
zero_of (x ∷ xs) zero within none = none
zero_of (x ∷ xs) (suc place) within none = zero_of xs place (omega arith) none

weight_of : (o : Option ArcLine) → IsSomeAnd o (λ (arc : ArcLine). arc.weight ≡ 0) → option_map_or (λ (arc : ArcLine). arc.weight) o 0 ≡ 0
weight_of (Some arc) is = is
weight_of None is = absurd is

-- a vector adds up to 0 exactly where each file's weight is 0
all_zero : (files : List ArcFile) (place : ℕ) → All (λ f. place < length f.arcs) files → sum (vector_at files place) ≡ 0
    → All (HasZero place) files
all_zero [] place have none = All-nil (HasZero place)
all_zero (f ∷ fs) place have none =
    let parts = sum_by-cons (λ n. n) (weight_at place f) (vector_at fs place) in
    All-cons (HasZero place) f fs (zero_of f.arcs place (All-head (λ g. place < length g.arcs) f fs have) (omega (arith, parts)))
    (all_zero fs place (All-tail (λ g. place < length g.arcs) f fs have) (omega (arith, parts)))

none_left : (files : List ArcFile) (place : ℕ) → All (HasZero place) files → sum (vector_at files place) ≡ 0
none_left [] place zeros = refl
none_left (f ∷ fs) place zeros =
    let first = weight_of (slice_get f.arcs place) (All-head (HasZero place) f fs zeros) in
    omega (arith, sum_by-cons (λ n. n) (weight_at place f) (vector_at fs place), first, none_left fs place (All-tail (HasZero place) f fs zeros))

-- files that agree in size have as many arcs
same_arcs : (first : ArcFile) (others : List ArcFile) → AgreeInSize (first ∷ others)
    → (i : ℕ) (f : ArcFile) → slice_get (first ∷ others) i ≡ Some f → length f.arcs ≡ length first.arcs
same_arcs first others sizes i f at =
    let place : i ≡ i + 1 - 1 = omega arith in
    elim (cases_eq (length f.arcs) (length first.arcs)) [
      | inl same ↦ same
      | inr other ↦ absurd (sizes (i + 1) (record {
        first = size_of first;
        other = size_of f;
        sizes_are = record {
          counted = omega arith;
          first_is = refl;
          other_is = slice_get-map size_of (first ∷ others) (i + 1 - 1) ∙ ap (option_map size_of) (subst (λ n. slice_get (first ∷ others) n ≡ Some f) place at);
        };
        differs = λ e. other (ap (λ (s : ℕ × ℕ). s.1) e);
      }))
    ]

-- at each place of the first file the test tells whether the arc has only zero weights
pub zero_at : (j : Joiner) (first : ArcFile) (others : List ArcFile) (place : ℕ) → IsJoiner j → JoinerHolds j (first ∷ others) → AgreeInSize (first ∷ others)
    → place < length j.ends → Decides (is_zero (get_or j.vectors place [])) (IsZeroArc (first ∷ others) (place + 1))
zero_at j first others place kept stands sizes within =
    let files = first ∷ others in
    let v = get_or j.vectors place [] in
    let stored : IsStoredState j.begun v = All-get_or (IsStoredState j.begun) j.vectors place [] (omega (arith, kept.matched)) kept.stored in
    let total : sum v ≡ sum (vector_at files place) = sym (sum_front j.begun v stored.filler) ∙ ap sum (stands.weights place within) in
    let count : length j.ends ≡ length first.arcs = ap length (stands.ends first refl) ∙ length-map first.arcs ends_of in
    let have : All (λ f. place < length f.arcs) files =
    all_from_get (λ f. place < length f.arcs) files (λ i f at. let same = same_arcs first others sizes i f at in omega arith) in
    let here : place ≡ place + 1 - 1 = omega arith in
    Decides-like (is_zero v)
    (λ none. record { counted = omega arith; zero = subst (λ p. All (HasZero p) files) here (all_zero files place have (sym total ∙ none)) })
    (λ only. total ∙ none_left files place (subst (λ p. All (HasZero p) files) (sym here) only.zero))
    (zero_decides v stored.four)

-- an arc with only zero weights is one of the first file's, and the test tells of it
known_zero : (j : Joiner) (first : ArcFile) (others : List ArcFile) (a : ℕ) → IsJoiner j → JoinerHolds j (first ∷ others) → AgreeInSize (first ∷ others)
    → IsZeroArc (first ∷ others) a → (a - 1 < length j.vectors) × (is_zero (get_or j.vectors (a - 1) []) ≡ true)
known_zero j first others a kept stands sizes only =
    let inside = is_some_within _ first.arcs (a - 1) (All-head (HasZero (a - 1)) first others only.zero) in
    let count : length j.ends ≡ length first.arcs = ap length (stands.ends first refl) ∙ length-map first.arcs ends_of in
    let there : a - 1 < length j.ends = omega arith in
    let here : a ≡ a - 1 + 1 = omega (arith, only.counted) in
    (omega (arith, kept.matched), (zero_at j first others (a - 1) kept stands sizes there).1 (subst (IsZeroArc (first ∷ others)) here only))

-- the first place that tests as zero is that of the least such arc
pub zero_known : (j : Joiner) (files : List ArcFile) (place : ℕ) → IsJoiner j → 1 ≤ j.begun → JoinerHolds j files → AgreeInSize files
    → position is_zero j.vectors ≡ Some place → IsLeastWith (IsZeroArc files) (place + 1)
zero_known j [] place kept some stands sizes known = absurd (omega (arith, stands.begun))
zero_known j (first ∷ others) place kept some stands sizes known =
    let first_at = position-Some is_zero j.vectors place [] known in
    let there : place < length j.ends = omega (arith, first_at.0, kept.matched) in
    record {
      holds = (zero_at j first others place kept stands sizes there).0 first_at.1;
      none_below = λ a below only.
          let tested = (known_zero j first others a kept stands sizes only).1 in
          let before = first_at.2 (a - 1) (omega (arith, only.counted)) in absurd cc;
    }

-- and where none does, there is none
pub none_known : (j : Joiner) (files : List ArcFile) → IsJoiner j → 1 ≤ j.begun → JoinerHolds j files → AgreeInSize files → position is_zero j.vectors ≡ None
    → (a : ℕ) → ¬ IsZeroArc files a
none_known j [] kept some stands sizes known a only = absurd (omega (arith, stands.begun))
none_known j (first ∷ others) kept some stands sizes known a only =
    let tested = known_zero j first others a kept stands sizes only in
    let fails = position_none is_zero j.vectors [] known (a - 1) tested.0 in true≢false (sym tested.1 ∙ fails)
