-- How the components of a cost are stored.
use Rattle.std.specs.Prelude.{◌≡◌, ℕ, ◌<◌, List, length, All}

-- d parts, each below the bound
pub record IsStored (d bound : ℕ) (parts : List ℕ) : Type 0 where
  pub long : length parts ≡ d
  pub fits : All (λ x. x < bound) parts
