-- The replies of all lanes, one after another.
use Rattle.std.proofs.Common.{◌≡◌, ◌∙◌, ◌+◌, ◌++◌, ◌<◌, ℕ, List, [], ap, arith, get_or, length, map, sym}
use Rattle.std.specs.List.{range_with_len}
use Rattle.std.proofs.lemmas.List.FromFn.{get_or-range_with_len, length-range_with_len}
use Rattle.std.proofs.lemmas.List.{get_or-map}
use Rattle.route_top.specs.Lanes.{heading}

-- the part of the lane at this place, where the first lane has this number
abbrev pub part_of : ℕ → List (List ℕ) → ℕ → List ℕ
part_of first replies n = heading (first + n) ++ get_or replies n []

-- the places of the lanes
abbrev pub numbers : List (List ℕ) → List ℕ
numbers replies = range_with_len 0 (length replies)

module _ (replies : List (List ℕ)) (n : ℕ) (within : n < length replies) where
  -- the next lane is at the next of these places
  pub next_number : n ≡ get_or (numbers replies) n 0
  next_number = let at = get_or-range_with_len 0 (length replies) n 0 within in omega (arith, at)

  pub within_numbers : n < length (numbers replies)
  within_numbers = omega (arith, within, length-range_with_len 0 (length replies))

-- what is sent of the lane at this place is its part
pub part_is : {L : Type 0} (sent : L → List ℕ) (first : ℕ) (links : List L) (n : ℕ) (link : L) → n < length links → link ≡ get_or links n link
    → heading (first + n) ++ sent link ≡ part_of first (map sent links) n
part_is sent first links n link within is =
    ap (λ l. heading (first + n) ++ l) (sym (get_or-map sent links n link [] within ∙ ap sent (sym is)))
