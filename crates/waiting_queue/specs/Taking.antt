-- What is taken of a list that stands for a set of spots, of which some are open.
-- Source: P. Sanders and L. Mandow, "Parallel label-setting multi-objective shortest path search", IPDPS 2013.
use Rattle.std.specs.Prelude.{◌≡◌, ℕ, ◌+◌, ◌⊎◌, ◌↔◌, List, [], ◌∷◌, AllPairs, Contains}
use Rattle.cost_vector.specs.Costs.{Dominates}
use Rattle.waiting_item.specs.Waiting.{Spot, SpotLess}

-- each member has a spot
module _ {X : Type 0} (spot : X → Spot) where
  -- s is the spot of a member
  abbrev pub HasSpot : List X → Spot → Type 0
  HasSpot xs s = (x : X) × Contains xs x × (spot x ≡ s)

  -- the cost of some member's spot dominates c
  abbrev pub IsDominatedIn : List X → List ℕ → Type 0
  IsDominatedIn xs c = (x : X) × Contains xs x × Dominates (spot x).cost c

  -- the cost of no member's open spot dominates c
  abbrev pub IsUndominatedBy : (Spot → Type 0) → List X → List ℕ → Type 0
  IsUndominatedBy Open xs c = (x : X) → Contains xs x → Open (spot x) → ¬ Dominates (spot x).cost c

  -- no spot comes before one that stands before it in the list
  abbrev pub AreSorted : List X → Type 0
  AreSorted = AllPairs (λ a b. ¬ SpotLess (spot b) (spot a))

  -- Exactly the open spots are taken whose cost no open spot's dominates, ascending and each once. What stays is dominated by
  -- one that was taken, and what leaves was taken or isn't open. Equal costs at different nodes don't dominate each other.
  pub record TakesOpen (Open : Spot → Type 0) (before took after : List X) : Type 0 where
    pub taken : (s : Spot) → HasSpot took s ↔ (HasSpot before s × Open s × IsUndominatedBy Open before s.cost)
    pub among : (x : X) → Contains took x → Contains before x
    pub ascending : AllPairs (λ a b. SpotLess (spot a) (spot b)) took
    pub stays : (x : X) → Contains after x → Contains before x × IsDominatedIn took (spot x).cost
    pub leaves : (x : X) → Contains before x → Contains after x ⊎ (HasSpot took (spot x) ⊎ (¬ Open (spot x)))

  -- The same of spots: a member may also leave whose spot is still there.
  pub record TakesOpenSpots (Open : Spot → Type 0) (before took after : List X) : Type 0 where
    pub taken : (s : Spot) → HasSpot took s ↔ (HasSpot before s × Open s × IsUndominatedBy Open before s.cost)
    pub among : (x : X) → Contains took x → Contains before x
    pub ascending : AllPairs (λ a b. SpotLess (spot a) (spot b)) took
    pub stays : (x : X) → Contains after x → Contains before x × IsDominatedIn took (spot x).cost
    pub leaves : (x : X) → Contains before x → HasSpot after (spot x) ⊎ (HasSpot took (spot x) ⊎ (¬ Open (spot x)))

  -- Some open spots are set apart, as each part of the list sets apart those that it takes. What stays is dominated by one of them,
  -- and what leaves was set apart or isn't open.
  pub record SetsApart (Open : Spot → Type 0) (before apart after : List X) : Type 0 where
    pub held : (x : X) → Contains apart x → Contains before x × Open (spot x)
    pub stays : (x : X) → Contains after x → Contains before x × IsDominatedIn apart (spot x).cost
    pub leaves : (x : X) → Contains before x → HasSpot after (spot x) ⊎ (HasSpot apart (spot x) ⊎ (¬ Open (spot x)))

-- a step is counted where something was taken
abbrev pub Counts : {X : Type 0} → List X → ℕ → ℕ → Type 0
Counts [] before after = after ≡ before
Counts (x ∷ xs) before after = after ≡ before + 1
