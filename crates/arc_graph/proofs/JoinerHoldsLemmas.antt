-- What a joiner stands for, as files begin and arcs come.
use Rattle.std.proofs.Common.{◌≡◌, ◌≢◌, ℕ, ◌+◌, ◌-◌, ◌<◌, ◌≤◌, zero, suc, List, [], ◌∷◌, ◌++◌, ◌∙◌}
use Rattle.std.proofs.Common.{Option, Some, length, map, take, set, get_or, inl, inr, arith, sym, subst, ap, refl}
use Rattle.std.specs.Prelude.{slice_get}
use Rattle.std.proofs.lemmas.Option.{slice_get_within, same_Some}
use Rattle.std.proofs.lemmas.List.{length-map, length-set, map_push, set_at, take_more, length_push, nil_from_length}
use Rattle.arc_graph.specs.declared.file.ArcLine.{ArcLine}
use Rattle.arc_graph.specs.Files.{ArcFile, size_of, ends_of, empty_file, with_arc}
use Rattle.arc_graph.specs.Agreement.{IsOtherSize, DiffersInSize, DiffersInEnds, vector_at}
use Rattle.arc_graph.specs.Joiner.{Joiner, IsJoiner}
use Rattle.list_laws.specs.Least.{IsLeastIfAny}
use Rattle.arc_graph.specs.JoinerHolds.{JoinerHolds, sizes_said}
use Rattle.arc_graph.specs.Faults.{AreLeastIfAny}
use Rattle.std.proofs.lemmas.List.Elements.{All-get_or}
use Rattle.list_laws.proofs.Gets.{get_in_push, get_added}
use Rattle.list_laws.proofs.Least.{AddsNumber, least_same}
use Rattle.arc_graph.proofs.OtherEndsLemmas.{AddsPair, pair_same, pair_if, pair_without}
use Rattle.arc_graph.specs.declared.join.OtherEnds.{OtherEnds}
use Rattle.arc_graph.proofs.EndsLemmas.{HasOther, adds_arc, arc_at, ends_read, no_other_ends, ends_with_new, ends_before_new}
use Rattle.arc_graph.specs.declared.graph.Ends.{Ends}
use Rattle.arc_graph.specs.Layout.{pair_of}
use Rattle.arc_graph.specs.Stored.{IsStoredState}
use Rattle.arc_graph.proofs.Places.{}
use Rattle.arc_graph.proofs.WeightLemmas.{vector_with_new, vectors_with_first, vector_elsewhere, vectors_with_weight}
use Rattle.arc_graph.proofs.SizeLemmas.{adds_size, no_other_size}

set_own : (files : List ArcFile) (i : ℕ) (size : ℕ × ℕ) → ((file : ArcFile) → slice_get files i ≡ Some file → size_of file ≡ size)
    → set (map size_of files) i size ≡ map size_of files
set_own [] i size own = refl
set_own (f ∷ fs) zero size own = ap (λ s. s ∷ map size_of fs) (sym (own f refl))
set_own (f ∷ fs) (suc i) size own = ap (λ s. size_of f ∷ s) (set_own fs i size own)

-- where the file begun last has come whole, the sizes that were said are those that came
pub said_whole : (j : Joiner) (files : List ArcFile) → j.come ≡ j.due_arcs → JoinerHolds j files → sizes_said j files ≡ map size_of files
said_whole j files whole stands = set_own files (j.begun - 1) (j.due_nodes, j.due_arcs) (λ file at. stands.last file at ∙ ap (λ n. (j.due_nodes, n)) whole)

-- the sizes of the files before, and that which the last is to have
pub said_last : (j : Joiner) (front : List ArcFile) (last : ArcFile) → length front + 1 ≡ j.begun
    → sizes_said j (front ++ last ∷ []) ≡ map size_of front ++ (j.due_nodes, j.due_arcs) ∷ []
said_last j front last begun =
    let place : length (map size_of front) ≡ j.begun - 1 = omega (arith, length-map front size_of) in
    ap (λ s. set s (j.begun - 1) (j.due_nodes, j.due_arcs)) (map_push size_of front last)
    ∙ set_at (map size_of front) (size_of last) [] (j.due_nodes, j.due_arcs) (j.begun - 1) place

-- what the beginning of one file more adds
pub adds_file : (j : Joiner) (files : List ArcFile) (nodes arcs : ℕ) → 1 ≤ j.begun → j.come ≡ j.due_arcs → JoinerHolds j files
    → AddsNumber (IsOtherSize (sizes_said j files)) (IsOtherSize (map size_of files ++ (nodes, arcs) ∷ [])) (j.begun + 1)
    (¬ ((nodes ≡ j.nodes) × (arcs ≡ length j.ends)))
adds_file j [] nodes arcs some whole stands = absurd (omega (arith, stands.begun))
adds_file j (first ∷ others) nodes arcs some whole stands =
    let sizes = map size_of others in
    let first_nodes = stands.nodes first refl in
    let first_arcs : length j.ends ≡ length first.arcs = ap length (stands.ends first refl) ∙ length-map first.arcs ends_of in
    let count : length sizes + 2 ≡ j.begun + 1 = omega (arith, length-map others size_of, stands.begun) in
    let N : Type 0 = ¬ ((nodes ≡ j.nodes) × (arcs ≡ length j.ends)) in
    let P : List (ℕ × ℕ) → ℕ → Type 0 = λ said n. AddsNumber (IsOtherSize said) (IsOtherSize (size_of first ∷ sizes ++ (nodes, arcs) ∷ [])) n N in
    let adds = adds_size (size_of first) (nodes, arcs) sizes N
    (λ other e. other (ap (λ (s : ℕ × ℕ). s.0) e ∙ sym first_nodes, ap (λ (s : ℕ × ℕ). s.1) e ∙ sym first_arcs))
    (λ other same. let e = same.0 ∙ first_nodes in let f = same.1 ∙ first_arcs in other cc) in
    subst (λ said. P said (j.begun + 1)) (sym (said_whole j (first ∷ others) whole stands)) (subst (P (size_of first ∷ sizes)) count adds)

-- what the file begun last has
pub last_has : (j : Joiner) (front : List ArcFile) (last : ArcFile) → JoinerHolds j (front ++ last ∷ [])
    → (length front + 1 ≡ j.begun) × (last.nodes ≡ j.due_nodes) × (length last.arcs ≡ j.come)
last_has j front last stands =
    let count : length front + 1 ≡ j.begun = omega (arith, length_push front last, stands.begun) in
    let size = stands.last last (get_added front last (j.begun - 1) (omega arith)) in
    (count, ap (λ (s : ℕ × ℕ). s.0) size, ap (λ (s : ℕ × ℕ). s.1) size)

-- what one arc more of a later file adds
pub adds_here : (j : Joiner) (front : List ArcFile) (last : ArcFile) (a : ArcLine) (ends : List Ends) (e : Ends) → 2 ≤ j.begun → j.ends ≡ map pair_of ends
    → j.come < length j.ends → e ≡ get_or ends j.come e → JoinerHolds j (front ++ last ∷ [])
    → AddsPair (DiffersInEnds (front ++ last ∷ [])) (DiffersInEnds (front ++ with_arc last a ∷ [])) (j.come + 1) j.begun (ends_of a ≢ pair_of e)
adds_here j [] last a ends e later kept within read stands = absurd (omega (arith, stands.begun))
adds_here j (first ∷ more) last a ends e later kept within read stands =
    let has = last_has j (first ∷ more) last stands in
    let inside : j.come < length ends = omega (arith, within, ap length kept, length-map ends pair_of) in
    let here : slice_get (map ends_of first.arcs) j.come ≡ Some (pair_of e) =
    subst (λ (es : List (ℕ × ℕ)). slice_get es j.come ≡ Some (pair_of e)) (sym kept ∙ stands.ends first refl) (ends_read ends j.come e inside read) in
    let found = arc_at first.arcs j.come (pair_of e) here in
    let D = DiffersInEnds (first ∷ more ++ last ∷ []) in
    let E = DiffersInEnds (first ∷ more ++ with_arc last a ∷ []) in
    let by_come = subst (λ n. AddsPair D E (n + 1) (length more + 2) (HasOther first n a)) has.2 (adds_arc first last more a) in
    let by_begun = subst (λ n. AddsPair D E (j.come + 1) n (HasOther first j.come a)) (omega (arith, has.0)) by_come in
    pair_if _ _ _ _ _ _
    (λ other same. other.differs (same ∙ found.2 ∙ ap ends_of (same_Some _ _ (sym found.1 ∙ other.arc_is))))
    (λ differs. record { arc = found.0; arc_is = found.1; differs = λ same. differs (same ∙ sym found.2) }) by_begun

-- The first file begins.
pub begin_first : (j : Joiner) (files : List ArcFile) (nodes arcs : ℕ) → IsJoiner j → j.begun ≡ 0 → JoinerHolds j files
    → JoinerHolds (record j { nodes = nodes; begun = j.begun + 1; due_nodes = nodes; due_arcs = arcs; come = 0 }) (files ++ empty_file nodes ∷ [])
begin_first j (f ∷ fs) nodes arcs kept none stands = absurd (omega (arith, stands.begun))
begin_first j [] nodes arcs kept none stands =
    let new = empty_file nodes in
    let begun : Joiner = record j { nodes = nodes; begun = j.begun + 1; due_nodes = nodes; due_arcs = arcs; come = 0 } in
    record {
      begun = omega arith;
      last = λ file at. elim (get_in_push [] new file (j.begun + 1 - 1) at) [ inl before ↦ absurd cc | inr added ↦ ap size_of added.1 ];
      nodes = λ first at. ap (λ (f : ArcFile). f.nodes) (same_Some new first at);
      ends = λ first at. nil_from_length j.ends (kept.none_begun none) ∙ ap (λ (f : ArcFile). map ends_of f.arcs) (same_Some new first at);
      weights = λ place within. absurd (omega (arith, kept.none_begun none));
      other_size = least_same (IsOtherSize (sizes_said j [])) (IsOtherSize (sizes_said begun (new ∷ []))) j.other_size
          (λ f is. absurd (no_other_size [] f (omega arith) is))
          (λ f is. absurd (no_other_size (sizes_said begun (new ∷ [])) f (omega (arith, length-set (size_of new ∷ []) (j.begun + 1 - 1) (nodes, arcs))) is))
          stands.other_size;
      other_ends = pair_same (DiffersInEnds []) (DiffersInEnds (new ∷ [])) j.other_ends (λ a f d. absurd (no_other_ends [] a f (omega arith) d))
          (λ a f d. absurd (no_other_ends (new ∷ []) a f (omega arith) d)) stands.other_ends;
    }

-- A later file begins.
pub begin_later : (j : Joiner) (files : List ArcFile) (nodes arcs : ℕ) (known : Option ℕ) → IsJoiner j → 1 ≤ j.begun → j.begun < 4 → JoinerHolds j files
    → IsLeastIfAny (IsOtherSize (map size_of files ++ (nodes, arcs) ∷ [])) known
    → JoinerHolds (record j { begun = j.begun + 1; due_nodes = nodes; due_arcs = arcs; come = 0; other_size = known }) (files ++ empty_file nodes ∷ [])
begin_later j [] nodes arcs known kept some room stands least = absurd (omega (arith, stands.begun))
begin_later j (first ∷ others) nodes arcs known kept some room stands least =
    let files = first ∷ others in
    let new = empty_file nodes in
    let begun : Joiner = record j { begun = j.begun + 1; due_nodes = nodes; due_arcs = arcs; come = 0; other_size = known } in
    record {
      begun = omega (arith, length_push others new, stands.begun);
      last = λ file at. elim (get_in_push files new file (j.begun + 1 - 1) at) [
        | inl before ↦ let within = slice_get_within files (j.begun + 1 - 1) file before in absurd (omega (arith, within, stands.begun))
        | inr added ↦ ap size_of added.1
      ];
      nodes = stands.nodes;
      ends = stands.ends;
      weights = λ place within.
          vector_with_new files nodes j.begun place (get_or j.vectors place []) room
          (All-get_or (IsStoredState j.begun) j.vectors place [] (omega (arith, kept.matched)) kept.stored) (stands.weights place within);
      other_size = subst (λ said. IsLeastIfAny (IsOtherSize said) known) (sym (said_last begun files new (omega (arith, stands.begun)))) least;
      other_ends = pair_same (DiffersInEnds files) (DiffersInEnds (files ++ new ∷ [])) j.other_ends (ends_with_new first new others)
          (λ a f d. ends_before_new first new others a f refl d) stands.other_ends;
    }

-- the last file with one arc more
last_more : (j : Joiner) (front : List ArcFile) (last : ArcFile) (a : ArcLine) → JoinerHolds j (front ++ last ∷ [])
    → (file : ArcFile) → slice_get (front ++ with_arc last a ∷ []) (j.begun - 1) ≡ Some file → size_of file ≡ (j.due_nodes, j.come + 1)
last_more j front last a stands file at =
    let has = last_has j front last stands in
    elim (get_in_push front (with_arc last a) file (j.begun - 1) at) [
      | inl before ↦ let within = slice_get_within front (j.begun - 1) file before in absurd (omega (arith, within, has.0))
      | inr added ↦
          let count : length (last.arcs ++ a ∷ []) ≡ j.come + 1 = omega (arith, length_push last.arcs a, has.2) in
          ap size_of added.1 ∙ ap (λ n. (n, length (last.arcs ++ a ∷ []))) has.1 ∙ ap (λ n. (j.due_nodes, n)) count
    ]

-- what was said of the sizes stays when an arc comes
said_more : (j : Joiner) (front : List ArcFile) (last : ArcFile) (a : ArcLine) → JoinerHolds j (front ++ last ∷ [])
    → sizes_said j (front ++ last ∷ []) ≡ sizes_said j (front ++ with_arc last a ∷ [])
said_more j front last a stands =
    let count = (last_has j front last stands).0 in said_last j front last count ∙ sym (said_last j front (with_arc last a) count)

-- The next arc of the first file comes.
pub arc_first : (j : Joiner) (front : List ArcFile) (last : ArcFile) (a : ArcLine) → IsJoiner j → j.begun ≡ 1 → JoinerHolds j (front ++ last ∷ [])
    → JoinerHolds (record j { ends = j.ends ++ ends_of a ∷ []; vectors = j.vectors ++ (a.weight ∷ 0 ∷ 0 ∷ 0 ∷ []) ∷ []; come = j.come + 1 })
    (front ++ with_arc last a ∷ [])
arc_first j (f ∷ fs) last a kept one stands = absurd (omega (arith, length_push fs last, stands.begun))
arc_first j [] last a kept one stands =
    let has = last_has j [] last stands in
    let ends_kept = stands.ends last refl in
    record {
      begun = stands.begun;
      last = last_more j [] last a stands;
      nodes = λ first at. stands.nodes last refl ∙ ap (λ (f : ArcFile). f.nodes) (same_Some (with_arc last a) first at);
      ends = λ first at.
          ap (λ es. es ++ ends_of a ∷ []) ends_kept
          ∙ sym (map_push ends_of last.arcs a)
          ∙ ap (λ (f : ArcFile). map ends_of f.arcs) (same_Some (with_arc last a) first at);
      weights = λ place within.
          let inside : place < length j.vectors + 1 = omega (arith, length_push j.ends (ends_of a), kept.matched) in
          let count : length j.vectors ≡ length last.arcs = kept.matched ∙ ap length ends_kept ∙ length-map last.arcs ends_of in
          let old = λ (p : ℕ) (w : p < length j.vectors).
          subst (λ n. take n (get_or j.vectors p []) ≡ vector_at (last ∷ []) p) one (stands.weights p (omega (arith, kept.matched))) in
          subst (λ n. take n (get_or (j.vectors ++ (a.weight ∷ 0 ∷ 0 ∷ 0 ∷ []) ∷ []) place []) ≡ vector_at (with_arc last a ∷ []) place) (sym one)
          (vectors_with_first j.vectors last a count old place inside);
      other_size = subst (λ said. IsLeastIfAny (IsOtherSize said) j.other_size) (said_more j [] last a stands) stands.other_size;
      other_ends = pair_same (DiffersInEnds (last ∷ [])) (DiffersInEnds (with_arc last a ∷ [])) j.other_ends
          (λ x f d. absurd (no_other_ends (last ∷ []) x f (omega arith) d))
          (λ x f d. absurd (no_other_ends (with_arc last a ∷ []) x f (omega arith) d)) stands.other_ends;
    }

-- The next arc of a later file comes.
arc_later : (j : Joiner) (front : List ArcFile) (last : ArcFile) (a : ArcLine) (vectors : List (List ℕ)) (known : Option OtherEnds) → 2 ≤ j.begun
    → JoinerHolds j (front ++ last ∷ [])
    → ((place : ℕ) → place < length j.ends → take j.begun (get_or vectors place []) ≡ vector_at (front ++ with_arc last a ∷ []) place)
    → AreLeastIfAny (DiffersInEnds (front ++ with_arc last a ∷ [])) known
    → JoinerHolds (record j { vectors = vectors; come = j.come + 1; other_ends = known }) (front ++ with_arc last a ∷ [])
arc_later j [] last a vectors known later stands weights least = absurd (omega (arith, stands.begun))
arc_later j (first ∷ more) last a vectors known later stands weights least = record {
  begun = omega (arith, length_push more last, length_push more (with_arc last a), stands.begun);
  last = last_more j (first ∷ more) last a stands;
  nodes = stands.nodes;
  ends = stands.ends;
  weights = weights;
  other_size = subst (λ said. IsLeastIfAny (IsOtherSize said) j.other_size) (said_more j (first ∷ more) last a stands) stands.other_size;
  other_ends = least;
}

-- It has a place of its own.
pub arc_within : (j : Joiner) (front : List ArcFile) (last : ArcFile) (a : ArcLine) (v : List ℕ) (known : Option OtherEnds) → IsJoiner j → 2 ≤ j.begun
    → j.come < length j.ends → v ≡ get_or j.vectors j.come v → JoinerHolds j (front ++ last ∷ [])
    → AreLeastIfAny (DiffersInEnds (front ++ with_arc last a ∷ [])) known
    → JoinerHolds (record j { vectors = set j.vectors j.come (set v (j.begun - 1) a.weight); come = j.come + 1; other_ends = known })
    (front ++ with_arc last a ∷ [])
arc_within j front last a v known kept later within read stands least =
    let has = last_has j front last stands in
    let there : j.come < length j.vectors = omega (arith, kept.matched) in
    let stored : IsStoredState j.begun v = subst (IsStoredState j.begun) (sym read) (All-get_or (IsStoredState j.begun) j.vectors j.come v there kept.stored) in
    let next : j.begun - 1 + 1 ≡ j.begun = omega arith in
    let old = λ (p : ℕ) (w : p < length j.vectors).
    subst (λ n. take n (get_or j.vectors p []) ≡ vector_at (front ++ last ∷ []) p) (sym next) (stands.weights p (omega (arith, kept.matched))) in
    let written = set j.vectors j.come (set v (j.begun - 1) a.weight) in
    let new = λ (place : ℕ) (inside : place < length j.ends).
    subst (λ n. take n (get_or written place []) ≡ vector_at (front ++ with_arc last a ∷ []) place) next
    (vectors_with_weight j.vectors front last a (j.begun - 1) j.come place v (omega (arith, stored.four, kept.files)) (sym has.2) there
    (omega (arith, kept.matched)) read old) in
    arc_later j front last a written known later stands new least

-- The first file has no such arc.
pub arc_past : (j : Joiner) (front : List ArcFile) (last : ArcFile) (a : ArcLine) → 2 ≤ j.begun → length j.ends ≤ j.come → JoinerHolds j (front ++ last ∷ [])
    → JoinerHolds (record j { come = j.come + 1 }) (front ++ with_arc last a ∷ [])
arc_past j [] last a later past stands = absurd (omega (arith, stands.begun))
arc_past j (first ∷ more) last a later past stands =
    let front = first ∷ more in
    let has = last_has j front last stands in
    let count : length j.ends ≡ length first.arcs = ap length (stands.ends first refl) ∙ length-map first.arcs ends_of in
    let no_arc : ¬ HasOther first (length last.arcs) a = λ other.
    let within = slice_get_within first.arcs (length last.arcs) other.arc other.arc_is in omega (arith, within, has.2) in
    arc_later j front last a j.vectors j.other_ends later stands
    (λ place inside. stands.weights place inside ∙ vector_elsewhere front last a place (λ e. omega (arith, has.2)))
    (pair_without _ _ _ _ _ j.other_ends (adds_arc first last more a) no_arc stands.other_ends)

-- once the files have come whole, the least that differs in size is told
pub size_whole : (j : Joiner) (files : List ArcFile) → j.come ≡ j.due_arcs → JoinerHolds j files → IsLeastIfAny (DiffersInSize files) j.other_size
size_whole j files whole stands = subst (λ said. IsLeastIfAny (IsOtherSize said) j.other_size) (said_whole j files whole stands) stands.other_size

-- one arc more of a list of arcs has come
pub stands_more : (j : Joiner) (files : List ArcFile) (nodes : ℕ) (arcs : List ArcLine) (i : ℕ) (d : ArcLine) → i < length arcs
    → JoinerHolds j (files ++ with_arc (record { nodes = nodes; arcs = take i arcs }) (get_or arcs i d) ∷ [])
    → JoinerHolds j (files ++ record { nodes = nodes; arcs = take (i + 1) arcs } ∷ [])
stands_more j files nodes arcs i d within stands =
    subst (λ xs. JoinerHolds j (files ++ record { nodes = nodes; arcs = xs } ∷ [])) (sym (take_more arcs i d within)) stands
