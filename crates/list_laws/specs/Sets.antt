-- Lists that stand for sets: what they contain counts, and neither how often nor in which order.
use Rattle.std.specs.Prelude.{◌≡◌, ◌≢◌, ℕ, ◌+◌, ◌↔◌, List, length, All, AllPairs, Contains}

-- both contain the same
abbrev pub SameMembers : {X : Type 0} → List X → List X → Type 0
SameMembers {X} xs ys = (x : X) → Contains xs x ↔ Contains ys x

-- `after` contains what `before` does, but not x
abbrev pub Loses : {X : Type 0} → List X → X → List X → Type 0
Loses {X} before x after = (y : X) → Contains after y ↔ (Contains before y × (y ≢ x))

-- the list has exactly what P holds of, each once
pub record ListsOnce {X : Type 0} (P : X → Type 0) (xs : List X) : Type 0 where
  pub exact : (x : X) → Contains xs x ↔ P x
  pub once : AllPairs ◌≢◌ xs

-- the list contains more than n different things
pub record HasMoreThan {X : Type 0} (n : ℕ) (xs : List X) : Type 0 where
  pub members : List X
  pub more : length members ≡ n + 1
  pub distinct : AllPairs ◌≢◌ members
  pub each : All (Contains xs) members
