-- What is kept of a round's candidates, of which some are open.
use Rattle.std.specs.Prelude.{◌≡◌, ◌≢◌, ◌⊎◌, ◌↔◌, List, AllPairs, Contains}
use Rattle.cost_vector.specs.Costs.{AtMost, Dominates}
use Rattle.waiting_queue.specs.Taking.{HasSpot}
use Rattle.waiting_item.specs.Waiting.{Spot}

-- each candidate has a spot
module _ {X : Type 0} (spot : X → Spot) where
  -- a member of the spot's node costs at most as much
  pub record HasBelow (xs : List X) (s : Spot) : Type 0 where
    pub by : X
    pub member : Contains xs by
    pub node : (spot by).node ≡ s.node
    pub at_most : AtMost (spot by).cost s.cost

  -- s is the spot of a candidate and open, and no open candidate of its node dominates it
  pub record Survives (Open : Spot → Type 0) (candidates : List X) (s : Spot) : Type 0 where
    pub candidate : HasSpot spot candidates s
    pub is_open : Open s
    pub undominated : (x : X) → Contains candidates x → Open (spot x) → (spot x).node ≡ s.node → ¬ Dominates (spot x).cost s.cost

  -- Exactly the spots that survive are kept, each once, and so each candidate isn't open, or one that is kept at its node costs at
  -- most as much.
  pub record KeepsSurvivors (Open : Spot → Type 0) (candidates kept : List X) : Type 0 where
    pub exact : (s : Spot) → HasSpot spot kept s ↔ Survives Open candidates s
    pub once : AllPairs (λ a b. spot a ≢ spot b) kept
    pub among : (x : X) → Contains kept x → Contains candidates x
    pub rest : (x : X) → Contains candidates x → (¬ Open (spot x)) ⊎ HasBelow kept (spot x)

  -- if both are of one node, the earlier doesn't cost at most as much as the later, which doesn't dominate it
  abbrev pub AreNeeded : X → X → Type 0
  AreNeeded a b = (spot a).node ≡ (spot b).node → (¬ AtMost (spot a).cost (spot b).cost) × (¬ Dominates (spot b).cost (spot a).cost)

  -- Open candidates are kept that are all needed, and each candidate isn't open, or one that is kept at its node costs at most as
  -- much. So what is kept survives, and nothing else does.
  pub record KeepsNeeded (Open : Spot → Type 0) (candidates kept : List X) : Type 0 where
    pub among : (x : X) → Contains kept x → Contains candidates x × Open (spot x)
    pub needed : AllPairs AreNeeded kept
    pub rest : (x : X) → Contains candidates x → (¬ Open (spot x)) ⊎ HasBelow kept (spot x)
