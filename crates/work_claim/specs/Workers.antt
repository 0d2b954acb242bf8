-- Who does numbered pieces of work.
use Rattle.std.specs.Prelude.{ℕ, Bool}

-- so many workers, on the threads of a runtime, and the gate that they pass before each piece
pub record Workers (R G : Type 0) : Type 0 where
  pub rt : R
  pub count : ℕ
  pub gate : G
  -- whether all of them do what is shared, however late helpers came
  pub all : Bool
