-- A list that is changed from its front on, element by element.
use Rattle.std.proofs.Common.{◌≡◌, ℕ, ◌<◌, List, ◌++◌, length, get_or, take, drop, map, arith}
use Rattle.std.proofs.lemmas.Grind.{common_steps}

-- the next element is as it was
pub not_yet : {X : Type 0} (f : X → X) (xs ys : List X) (k : ℕ) (d : X) → k < length xs → ys ≡ map f (take k xs) ++ drop k xs
    → get_or ys k d ≡ get_or xs k d
not_yet f xs ys k d within so_far = grind (arith, common_steps)
