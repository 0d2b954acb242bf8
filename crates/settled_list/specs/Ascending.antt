-- Costs without their first component, which tell what is covered among costs in ascending order.
use Rattle.std.specs.Prelude.{◌≡◌, ℕ, ◌<◌, List, [], ◌∷◌, length, All, Contains}
use Rattle.settled_front.specs.Fronts.{IsCovered}
use Rattle.settled_front.specs.Staircase.{second}

-- a cost without its first component
abbrev pub rest : List ℕ → List ℕ
rest [] = []
rest (x ∷ xs) = xs

-- the second component of the last cost, or the bound if there is none
abbrev pub last_second : ℕ → List (List ℕ) → ℕ
last_second bound [] = bound
last_second bound (c ∷ costs) = last_second (second c) costs

-- Each rest is that of a cost, and of each cost some rest is at most its own.
pub record AreRestsOf (costs rests : List (List ℕ)) : Type 0 where
  pub some : All (λ c. 0 < length c) costs
  pub from : (r : List ℕ) → Contains rests r → (c : List ℕ) × Contains costs c × (rest c ≡ r)
  pub below : (c : List ℕ) → Contains costs c → IsCovered rests (rest c)
