-- Vectors of costs, place by place.
use Rattle.std.proofs.Common.{◌≡◌, ℕ, zero, suc, ◌+◌, ◌<◌, ◌≤◌, List, [], ◌∷◌, length, get_or, All, min, subst, arith}
use Rattle.std.proofs.lemmas.List.Elements.{AllZip-get_or, All-get_or}
use Rattle.cost_vector.specs.Costs.{AtMost, plus}
use Rattle.cost_vector.proofs.Vectors.{AtMost-length, length-plus}

pub AtMost_from_places : (a b : List ℕ) → length a ≡ length b → ((k : ℕ) → k < length a → get_or a k 0 ≤ get_or b k 0) → AtMost a b
AtMost_from_places [] [] e h = tt
AtMost_from_places [] (y ∷ ys) e h = absurd (omega arith)
AtMost_from_places (x ∷ xs) [] e h = absurd (omega arith)
AtMost_from_places (x ∷ xs) (y ∷ ys) e h =
    (h 0 (omega arith), AtMost_from_places xs ys (omega arith) (λ k w. h (suc k) (omega arith)))

pub get_or-plus : (a w : List ℕ) (k : ℕ) → length a ≡ length w → get_or (plus a w) k 0 ≡ get_or a k 0 + get_or w k 0
get_or-plus [] [] k e = omega arith
get_or-plus [] (y ∷ ys) k e = absurd (omega arith)
get_or-plus (x ∷ xs) [] k e = absurd (omega arith)
get_or-plus (x ∷ xs) (y ∷ ys) zero e = omega arith
get_or-plus (x ∷ xs) (y ∷ ys) (suc k) e = get_or-plus xs ys k (omega arith)

-- a sum whose components are below a bound, place by place
pub sum_below : (bound : ℕ) (a w : List ℕ) (k : ℕ) → length a ≡ length w → All (λ x. x < bound) (plus a w) → k < length a
    → get_or a k 0 + get_or w k 0 < bound
sum_below bound a w k e h within =
    let inside : k < length (plus a w) = omega (arith, length-plus a w e) in
    subst (λ x. x < bound) (get_or-plus a w k e) (All-get_or (λ x. x < bound) (plus a w) k 0 inside h)

-- a vector of the lesser components of two
pub record IsMeet (least a b : List ℕ) : Type 0 where
  pub as_long : length least ≡ length a
  pub as_long_other : length least ≡ length b
  pub lesser : (k : ℕ) → k < length least → get_or least k 0 ≡ min (get_or a k 0) (get_or b k 0)

module _ {least a b : List ℕ} (m : IsMeet least a b) where
  pub below_this : AtMost least a
  below_this = AtMost_from_places least a m.as_long (λ k w. omega (arith, m.lesser k w))

  pub below_other : AtMost least b
  below_other = AtMost_from_places least b m.as_long_other (λ k w. omega (arith, m.lesser k w))

  pub greatest : (c : List ℕ) → AtMost c a → AtMost c b → AtMost c least
  greatest c h k =
      let long = AtMost-length c a h in
      let as_long = m.as_long in
      AtMost_from_places c least (omega arith)
      (λ i w. let inside : i < length least = omega arith in
      omega (arith, AllZip-get_or ◌≤◌ c a i 0 0 h w, AllZip-get_or ◌≤◌ c b i 0 0 k w, m.lesser i inside))
