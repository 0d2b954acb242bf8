-- A search by bulk rounds as contracts see it: its settled costs, and what waits.
-- Source: P. Sanders and L. Mandow, "Parallel label-setting multi-objective shortest path search", IPDPS 2013.
use Rattle.std.specs.Prelude.{◌≡◌, ℕ, ◌⊎◌, ◌↔◌, List, [], Option, replicate, slice_index_or, Contains}
use Rattle.cost_vector.specs.Costs.{AtMost, Dominates, Within}
use Rattle.waiting_item.specs.Waiting.{Waiting}
pub use Rattle.waiting_item.specs.Waiting.{Spot, SpotLess}

-- what waits: a spot, and the node from which it was reached, or 0 where none is told
abbrev pub Item : Type 0
Item = Waiting

-- x is the spot of one of the items
abbrev pub HasSpot : List Item → Spot → Type 0
HasSpot items x = (i : Item) × Contains items i × (i.spot ≡ x)

-- What is searched and within which budget; by node the settled costs, of which membership alone counts; what waits, of which
-- some may be stale; and the spots that the open round has taken, ascending. Between rounds none is taken.
pub record Core : Type 0 where
  pub nodes : ℕ
  pub criteria : ℕ
  pub start : ℕ
  pub target : ℕ
  pub limit : List (Option ℕ)
  pub budget : ℕ
  pub settled : List (List (List ℕ))
  pub queue : List Item
  pub taken : List Spot

-- the settled costs of the node v
abbrev pub costs_at : Core → ℕ → List (List ℕ)
costs_at core v = slice_index_or core.settled v []

-- the spot is settled
abbrev pub IsSettledIn : Core → Spot → Type 0
IsSettledIn core x = Contains (costs_at core x.node) x.cost

-- the spot waits
abbrev pub Waits : Core → Spot → Type 0
Waits core = HasSpot core.queue

-- ---- what keeps a spot from being taken

-- some settled cost of its node is at most its cost
pub record IsCoveredIn (core : Core) (x : Spot) : Type 0 where
  pub by : List ℕ
  pub settled : Contains (costs_at core x.node) by
  pub at_most : AtMost by x.cost

-- some settled cost of the target dominates c
pub record IsBeatenIn (core : Core) (c : List ℕ) : Type 0 where
  pub by : List ℕ
  pub settled : Contains (costs_at core core.target) by
  pub dominates : Dominates by c

-- c isn't within the limit, or a settled cost of the target dominates it
abbrev pub IsBarred : Core → List ℕ → Type 0
IsBarred core c = (¬ Within core.limit c) ⊎ IsBeatenIn core c

-- the spot is covered or barred: then it stays so, since settled costs stay
abbrev pub IsSpent : Core → Spot → Type 0
IsSpent core x = IsCoveredIn core x ⊎ IsBarred core x.cost

-- ---- calls

-- what is searched and the budget have stayed
pub record SameSearch (before after : Core) : Type 0 where
  pub nodes : after.nodes ≡ before.nodes
  pub criteria : after.criteria ≡ before.criteria
  pub start : after.start ≡ before.start
  pub target : after.target ≡ before.target
  pub limit : after.limit ≡ before.limit
  pub budget : after.budget ≡ before.budget

-- the spot of the start, at no cost
abbrev pub start_spot : Core → Spot
start_spot core = record { cost = replicate core.criteria 0; node = core.start }

-- a search for this in which the start alone waits
pub record IsNewSearch (nodes criteria start target : ℕ) (limit : List (Option ℕ)) (budget : ℕ) (core : Core) : Type 0 where
  pub nodes_are : core.nodes ≡ nodes
  pub criteria_are : core.criteria ≡ criteria
  pub start_is : core.start ≡ start
  pub target_is : core.target ≡ target
  pub limit_is : core.limit ≡ limit
  pub budget_is : core.budget ≡ budget
  pub none_settled : (x : Spot) → ¬ IsSettledIn core x
  pub waiting : (x : Spot) → Waits core x ↔ (x ≡ start_spot core)
  pub none_taken : core.taken ≡ []
