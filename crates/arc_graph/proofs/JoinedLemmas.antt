-- What network a joiner makes of files that agree.
use Rattle.std.proofs.Common.{◌≡◌, ℕ, ◌+◌, ◌<◌, ◌≤◌, false, List, [], ◌∷◌, ◌∙◌}
use Rattle.std.proofs.Common.{Option, Some, None, cond, length, map, take, get_or, inl, inr, arith, sym, zero-add, ap, refl}
use Rattle.std.proofs.lemmas.Bool.{cases_Bool}
use Rattle.std.specs.List.{enumerate_from}
use Rattle.std.proofs.lemmas.List.{length-map, get_or-map, same_lists}
use Rattle.std.proofs.lemmas.List.FromFn.{length-enumerate_from, get_or-enumerate_from}
use Rattle.arc_graph.specs.declared.file.ArcLine.{ArcLine}
use Rattle.arc_graph.specs.Files.{ArcFile, ends_of}
use Rattle.arc_graph.specs.Agreement.{Agree, joined, vector_at}
use Rattle.arc_graph.specs.Joiner.{Joiner, IsJoiner}
use Rattle.arc_graph.specs.JoinerHolds.{JoinerHolds}
use Rattle.road_network.specs.Network.{IsNetwork}
use Rattle.arc_graph.specs.Stored.{is_zero, state_in, states_of}
use Rattle.arc_graph.proofs.Places.{states_in}
use Rattle.arc_graph.proofs.ZeroLemmas.{zero_at}

-- the places of an arc that isn't all zero say its vector
state_joined : (j : Joiner) (first : ArcFile) (others : List ArcFile) (place : ℕ) → IsJoiner j → JoinerHolds j (first ∷ others) → Agree (first ∷ others)
    → place < length j.ends → state_in j.begun (get_or j.vectors place []) ≡ Some (vector_at (first ∷ others) place)
state_joined j first others place kept stands agree within =
    let v = get_or j.vectors place [] in
    let test : is_zero v ≡ false = elim (cases_Bool (is_zero v)) [
      | inl zero ↦ absurd (agree.arcs (place + 1) (inr ((zero_at j first others place kept stands agree.sizes within).0 zero)))
      | inr other ↦ other
    ] in
    ap (λ t. cond t None (Some (take j.begun v))) test ∙ ap Some (stands.weights place within)

states_joined : (j : Joiner) (first : ArcFile) (others : List ArcFile) → IsJoiner j → JoinerHolds j (first ∷ others) → Agree (first ∷ others)
    → states_of j.begun j.vectors ≡ map (λ (p : ℕ × ArcLine). Some (vector_at (first ∷ others) p.0)) (enumerate_from 0 first.arcs)
states_joined j first others kept stands agree =
    let state_of_arc : ℕ × ArcLine → Option (List ℕ) = λ p. Some (vector_at (first ∷ others) p.0) in
    let arcs = enumerate_from 0 first.arcs in
    let any : ArcLine = record { tail = 0; head = 0; weight = 0 } in
    let ends : length j.ends ≡ length first.arcs = ap length (stands.ends first refl) ∙ length-map first.arcs ends_of in
    let count : length arcs ≡ length first.arcs = length-enumerate_from 0 first.arcs in
    let left : length (states_of j.begun j.vectors) ≡ length j.vectors = length-map j.vectors (state_in j.begun) in
    let right : length (map state_of_arc arcs) ≡ length arcs = length-map arcs state_of_arc in
    same_lists (states_of j.begun j.vectors) (map state_of_arc arcs) (omega (arith, kept.matched)) (λ k d inside.
    get_or-map (state_in j.begun) j.vectors k [] d (omega arith)
    ∙ state_joined j first others k kept stands agree (omega (arith, kept.matched))
    ∙ ap (λ n. Some (vector_at (first ∷ others) n)) (sym (zero-add k))
    ∙ ap state_of_arc (sym (get_or-enumerate_from 0 first.arcs k (0, any) (omega (arith, kept.matched))))
    ∙ sym (get_or-map state_of_arc arcs k (0, any) d (omega (arith, kept.matched))))

-- what a joiner keeps of files that agree is their network
pub network_joined : (j : Joiner) (files : List ArcFile) → IsJoiner j → 1 ≤ j.begun → JoinerHolds j files → Agree files
    → record { nodes = j.nodes; ends = j.ends; criteria = j.begun; states = states_of j.begun j.vectors } ≡ joined files
network_joined j [] kept some stands agree = absurd (omega (arith, stands.begun))
network_joined j (first ∷ others) kept some stands agree =
    let nodes = stands.nodes first refl in
    let ends = stands.ends first refl in
    let criteria = stands.begun in
    let states = states_joined j first others kept stands agree in cc

-- what a joiner keeps of two files or more is a network
pub is_network : (j : Joiner) → IsJoiner j → 2 ≤ j.begun
    → IsNetwork (record { nodes = j.nodes; ends = j.ends; criteria = j.begun; states = states_of j.begun j.vectors })
is_network j kept two = record {
  two = two;
  four = kept.files;
  tails = kept.tails;
  heads = kept.heads;
  matched = length-map j.vectors (state_in j.begun) ∙ kept.matched;
  vectors = (states_in j.begun j.vectors (record { two = two; four = kept.files; count = omega (arith, kept.matched, kept.arcs); each = kept.stored })).vectors;
}
