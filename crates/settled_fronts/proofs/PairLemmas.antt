-- The settled pairs of all nodes: which they are, that each stands there once, and how many they are.
use Rattle.std.proofs.Common.{◌≡◌, ◌≢◌, ◌↔◌, ℕ, inl, inr, subst, zero, suc, ◌+◌, List, [], ◌∷◌, length, map, get_or, sym, ap, refl, ◌∙◌, arith}
use Rattle.std.specs.Prelude.{AllPairs, Contains}
use Rattle.std.specs.List.{sum_by}
use Rattle.std.proofs.lemmas.List.{length-append, length-map}
use Rattle.std.proofs.lemmas.List.Elements.{Contains-append_cases, Contains-append_left, Contains-append_right}
use Rattle.std.proofs.lemmas.List.Sums.{sum_by-cons}
use Rattle.list_laws.proofs.Members.{in_map, in_none, of_map}
use Rattle.list_laws.proofs.OnceLaws.{pairs_append}
use Rattle.list_laws.proofs.Pairs.{pairs_map, pairs_none}
use Rattle.settled_fronts.specs.NodeFronts.{Fronts, costs_at, pairs_from, settled_pairs}

-- the costs of a front
abbrev Costs : Type 0
Costs = List (List ℕ)

-- the pairs of a node with its costs
abbrev pairs_of : ℕ → Costs → List (ℕ × List ℕ)
pairs_of v costs = map (λ c. (v, c)) costs

-- a pair of the nodes from n on is of one of them, and of a cost there
of_pairs : (n : ℕ) (fs : List Costs) (p : ℕ × List ℕ) → Contains (pairs_from n fs) p → (k : ℕ) × (p.0 ≡ n + k) × Contains (get_or fs k []) p.1
of_pairs n [] p there = absurd (in_none p there)
of_pairs n (f ∷ fs) p there = elim (Contains-append_cases (pairs_of n f) (pairs_from (n + 1) fs) p there) [
  | inl here ↦ let (e, e_in, is) = of_map (λ e. (n, e)) f p here in rw is (zero, omega arith, e_in)
  | inr later ↦ let (k, at, c_in) = of_pairs (n + 1) fs p later in (suc k, omega (arith, at), c_in)
]

-- and each of these pairs is there
in_pairs : (n : ℕ) (fs : List Costs) (v k : ℕ) (c : List ℕ) → v ≡ n + k → Contains (get_or fs k []) c → Contains (pairs_from n fs) (v, c)
in_pairs n [] v k c at there = absurd (in_none c there)
in_pairs n (f ∷ fs) v zero c at there =
    let same : v ≡ n = omega arith in
    rw same (Contains-append_left (pairs_of n f) (pairs_from (n + 1) fs) (n, c) (in_map (λ e. (n, e)) f c there))
in_pairs n (f ∷ fs) v (suc k) c at there =
    Contains-append_right (pairs_of n f) (pairs_from (n + 1) fs) (v, c) (in_pairs (n + 1) fs v k c (omega arith) there)

-- a pair is settled exactly where its cost is at its node
pub in_settled_pairs : (f : Fronts) (v : ℕ) (c : List ℕ) → Contains (settled_pairs f) (v, c) ↔ Contains (costs_at f v) c
in_settled_pairs f v c = (
  λ there. let (k, at, c_in) = of_pairs 0 f.costs (v, c) there in subst (λ u. Contains (costs_at f u) c) (omega (arith, at)) c_in,
  in_pairs 0 f.costs v v c (omega arith),
)

-- each stands there once, where each cost stands once at its node
pairs_once : (n : ℕ) (fs : List Costs) → ((k : ℕ) → AllPairs ◌≢◌ (get_or fs k [])) → AllPairs ◌≢◌ (pairs_from n fs)
pairs_once n [] once = pairs_none ◌≢◌
pairs_once n (f ∷ fs) once = pairs_append ◌≢◌ (pairs_of n f) (pairs_from (n + 1) fs)
    (pairs_map ◌≢◌ ◌≢◌ (λ c. (n, c)) (λ a b other same. other (ap (λ (p : ℕ × List ℕ). p.1) same)) f (once 0))
    (pairs_once (n + 1) fs (λ k. once (suc k))) (λ p q p_in q_in same.
    let (_, _, is) = of_map (λ e. (n, e)) f p p_in in
    let (k, later, _) = of_pairs (n + 1) fs q q_in in
    omega (arith, later, ap (λ (r : ℕ × List ℕ). r.0) (sym is ∙ same)))

pub settled_pairs_once : (f : Fronts) → ((v : ℕ) → AllPairs ◌≢◌ (costs_at f v)) → AllPairs ◌≢◌ (settled_pairs f)
settled_pairs_once f = pairs_once 0 f.costs

-- they are as many as the costs of all nodes
pub pairs_counted : (n : ℕ) (fs : List Costs) → length (pairs_from n fs) ≡ sum_by length fs
pairs_counted n [] = refl
pairs_counted n (f ∷ fs) =
    omega (arith, length-append {A = ℕ × List ℕ}, length-map {B = ℕ × List ℕ} f (λ c. (n, c)), pairs_counted (n + 1) fs, sum_by-cons length f fs)
