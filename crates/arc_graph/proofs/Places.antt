-- The four places of an arc: what they say, and what stays when one is written.
use Rattle.std.proofs.Common.{◌≡◌, ℕ, ◌^◌, ◌<◌, ◌≤◌, zero, suc, true, false, cond, List, [], ◌∷◌, Option, Some, None, IfSome, length, take, sum, get_or, arith, ap, subst, sym, ◌∙◌, ◌-◌, refl, Bool, set, length-set, get_or-set_other, ◌≢◌, Decides}
use Rattle.std.specs.Prelude.{nat_eq, replicate, slice_index, slice_get}
use Rattle.std.specs.Prelude.{All}
use Rattle.std.proofs.lemmas.List.Elements.{All-take, All-set, All-map, All-weaker}
use Rattle.std.specs.Cmp.Lexicographic.{pointwise}
use Rattle.std.proofs.lemmas.List.{length-map, length-take}
use Rattle.std.proofs.lemmas.List.Sums.{sum_by-cons}
use Rattle.road_network.specs.Network.{IsVector}
use Rattle.std.specs.Option.{option_map, option_and_then}
use Rattle.std.proofs.lemmas.Bool.Decides.{not_from_Decides, Decides-and, Decides-eqb, Decides-like}
use Rattle.std.proofs.lemmas.Option.{slice_get-map, slice_get-get_or}
use Rattle.list_laws.proofs.Members.{all_got}
use Rattle.cost_vector.specs.declared.label.ArcNo.{ArcNo}
use Rattle.arc_graph.specs.Graph.{Weights, AreWeights, arc_state}
use Rattle.arc_graph.specs.Stored.{IsStoredState, AreStoredStates, is_zero, state_in, states_of}

-- all numbers of a list are 0 exactly where they add up to 0
zeros_sum : (xs : List ℕ) → Decides (pointwise nat_eq xs (replicate (length xs) 0)) (sum xs ≡ 0)
zeros_sum [] = (λ _. refl, λ _. refl)
zeros_sum (x ∷ xs) =
    let both = Decides-and (nat_eq x 0) (pointwise nat_eq xs (replicate (length xs) 0)) (Decides-eqb x 0) (zeros_sum xs) in
    let parts = sum_by-cons (λ n. n) x xs in
    Decides-like _ (λ zeros. omega (arith, parts, zeros.0, zeros.1)) (λ none. (omega (arith, parts, none), omega (arith, parts, none))) both

-- so with the four places of an arc
pub zero_decides : (places : List ℕ) → length places ≡ 4 → Decides (is_zero places) (sum places ≡ 0)
zero_decides places four = subst (λ n. Decides (pointwise nat_eq places (replicate n 0)) (sum places ≡ 0)) four (zeros_sum places)

-- what lies past the front adds nothing
pub sum_front : (n : ℕ) (xs : List ℕ) → ((i : ℕ) → n ≤ i → slice_index xs i ≡ 0) → sum (take n xs) ≡ sum xs
sum_front zero [] filler = refl
sum_front (suc n) [] filler = refl
sum_front zero (x ∷ xs) filler =
    let first : x ≡ 0 = filler 0 (omega arith) in
    let rest : 0 ≡ sum xs = sum_front zero xs (λ i h. filler (suc i) (omega arith)) in omega (arith, sum_by-cons (λ n. n) x xs)
sum_front (suc n) (x ∷ xs) filler =
    let rest : sum (take n xs) ≡ sum xs = sum_front n xs (λ i h. filler (suc i) (omega arith)) in
    omega (arith, sum_by-cons (λ n. n) x xs, sum_by-cons (λ n. n) x (take n xs))

-- what four places say is shut, or a vector
vector_in : (criteria : ℕ) (places : List ℕ) (t : Bool) → criteria ≤ 4 → IsStoredState criteria places → is_zero places ≡ t
    → IfSome (cond t None (Some (take criteria places))) (IsVector criteria)
vector_in criteria places true most stored test = tt
vector_in criteria places false most stored test = record {
  whole = omega (arith, length-take criteria places, stored.four);
  nonzero =
      let some = not_from_Decides (is_zero places) (zero_decides places stored.four) test in
      omega (arith, some, sum_front criteria places stored.filler);
}

-- its weights have 32 bits
small_in : (criteria : ℕ) (places : List ℕ) (t : Bool) → IsStoredState criteria places
    → IfSome (cond t None (Some (take criteria places))) (All (λ x. x < 2 ^ 32))
small_in criteria places true stored = tt
small_in criteria places false stored = All-take (λ x. x < 2 ^ 32) criteria places stored.small

-- the same of all arcs
pub states_in : (criteria : ℕ) (vectors : List (List ℕ)) → AreStoredStates criteria vectors
    → AreWeights (record { criteria = criteria; states = states_of criteria vectors })
states_in criteria vectors stored = record {
  vectors = All-map (λ s. IfSome s (IsVector criteria)) (state_in criteria) vectors
      (All-weaker (IsStoredState criteria) _ (λ v is. vector_in criteria v (is_zero v) stored.four is refl) vectors stored.each);
  small = All-map (λ s. IfSome s (All (λ x. x < 2 ^ 32))) (state_in criteria) vectors
      (All-weaker (IsStoredState criteria) _ (λ v. small_in criteria v (is_zero v)) vectors stored.each);
}

-- what holds of each vector holds of an arc's
pub holds_of_state : (P : List ℕ → Type 0) (w : Weights) (a : ArcNo) → All (λ s. IfSome s P) w.states → IfSome (arc_state w.states a) P
holds_of_state P w a all = by_state (slice_get w.states (a.0 - 1)) refl where
  by_state : (o : Option (Option (List ℕ))) → slice_get w.states (a.0 - 1) ≡ o → IfSome (option_and_then (λ s. s) o) P
  by_state None is = tt
  by_state (Some s) is = all_got (λ s. IfSome s P) w.states (a.0 - 1) s all is

-- the state of an arc is what its places say
pub state_by_places : (criteria : ℕ) (vectors : List (List ℕ)) (w : Weights) (a : ArcNo) (places : List ℕ) (t : Bool)
    → record { criteria = criteria; states = states_of criteria vectors } ≡ w → 1 ≤ a.0 → a.0 ≤ length w.states
    → places ≡ get_or vectors (a.0 - 1) places → pointwise nat_eq places (replicate 4 0) ≡ t
    → arc_state w.states a ≡ cond t None (Some (take criteria places))
state_by_places criteria vectors w a places t view counted there at test =
    let same : length w.states ≡ length (states_of criteria vectors) = ap (λ (v : Weights). length v.states) (sym view) in
    let within : a.0 - 1 < length vectors = omega (arith, same, length-map vectors (state_in criteria)) in
    ap (λ v. arc_state v.states a) (sym view)
    ∙ ap (option_and_then (λ s. s)) (slice_get-map (state_in criteria) vectors (a.0 - 1))
    ∙ ap (λ o. option_and_then (λ s. s) (option_map (state_in criteria) o)) (slice_get-get_or vectors (a.0 - 1) places within)
    ∙ ap (state_in criteria) (sym at)
    ∙ ap (λ b. cond b None (Some (take criteria places))) test

-- the place of a file is written
pub stored_after_set : (files : ℕ) (places : List ℕ) (x : ℕ) → 1 ≤ files → x < 2 ^ 32 → IsStoredState files places
    → IsStoredState files (set places (files - 1) x)
stored_after_set files places x some small stored = record {
  four = length-set places (files - 1) x ∙ stored.four;
  small = All-set (λ n. n < 2 ^ 32) places (files - 1) x small stored.small;
  filler = λ i past. let apart : i ≢ files - 1 = omega arith in get_or-set_other places (files - 1) i x 0 apart ∙ stored.filler i past;
}
