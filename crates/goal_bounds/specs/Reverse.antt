-- The search, backwards from the target, for the least component that walks to it have.
-- Source: E. W. Dijkstra, A note on two problems in connexion with graphs, Numerische Mathematik 1 (1959).
use Rattle.std.specs.Prelude.{◌≡◌, ◌≢◌, ℕ, ◌+◌, ◌-◌, ◌^◌, ◌<◌, ◌≤◌, ◌⊎◌, List, length, slice_index, sum, Contains}
use Rattle.std.specs.declared.cmp.Reverse.{Reverse}
use Rattle.std.specs.declared.cmp.Ordering.{Ordering}
use Rattle.std.specs.Ordering.{nat_cmp, ordering_then}
use Rattle.road_network.specs.Network.{Network, IsNode, Leads}
use Rattle.road_network.specs.Walks.{IsWalk}
use Rattle.goal_laws.specs.Goal.{HasWalkOf}
use Rattle.goal_bounds.specs.declared.reverse.Reached.{Reached}

-- a node with one component of the cost of a walk from there, in a heap that has the least on top
abbrev pub Item : Type 0
Item = Reverse Reached

-- the item of the node v at the number x
abbrev pub item : ℕ → ℕ → Item
item x v = record { 0 = record { value = x; node = record { 0 = v } } }

-- the order of the heap: the lesser number first
abbrev pub by_value : Item → Item → Ordering
by_value x y = ordering_then (nat_cmp y.0.value x.0.value) (nat_cmp y.0.node.0 x.0.node.0)

-- for which component it searches, and from where; the least number known for each node, and the items that wait
pub record ReverseSearch : Type 0 where
  pub target : ℕ
  pub criterion : ℕ
  pub values : List ℕ
  pub items : List Item

-- stands for a node from which no walk is known
abbrev pub unreached : ℕ
unreached = 2 ^ 64 - 1

-- the least number known for the node v
abbrev pub value_at : ReverseSearch → ℕ → ℕ
value_at s v = slice_index s.values v

-- along each arc into v no less is found than is known where it leads from
abbrev pub IsExpanded : Network → ReverseSearch → ℕ → Type 0
IsExpanded net s v = (k u : ℕ) (w : List ℕ) → Leads net k u w v → value_at s u ≤ value_at s v + slice_index w s.criterion

-- What each state of the search for component j to t keeps: each number is that of a walk, and each node whose number is
-- known waits at it or is expanded.
pub record IsReverse (net : Network) (t j : ℕ) (s : ReverseSearch) : Type 0 where
  pub target_is : s.target ≡ t
  pub criterion_is : s.criterion ≡ j
  pub target_node : IsNode net.nodes t
  pub criterion_there : j < net.criteria
  pub count : length s.values ≡ net.nodes + 1
  pub started : value_at s t ≡ 0
  pub known : (v : ℕ) → IsNode net.nodes v → value_at s v ≢ unreached → HasWalkOf net v t j (value_at s v)
  pub waiting : (i : Item) → Contains s.items i → HasWalkOf net i.0.node.0 t j i.0.value
  pub expanded : (v : ℕ) → IsNode net.nodes v → IsExpanded net s v ⊎ Contains s.items (item (value_at s v) v)

-- no item that waits is less than what is known for v
abbrev pub IsFinal : ReverseSearch → ℕ → Type 0
IsFinal s v = (i : Item) → Contains s.items i → value_at s v ≤ i.0.value

-- x is the least component j that walks from v to t have
pub record IsLeastOf (net : Network) (v t j x : ℕ) : Type 0 where
  pub walk : HasWalkOf net v t j x
  pub least : (p c : List ℕ) → IsWalk net v p t c → x ≤ slice_index c j

-- no walk leads from v to t
abbrev pub NoneLeads : Network → ℕ → ℕ → Type 0
NoneLeads net v t = (p c : List ℕ) → ¬ IsWalk net v p t c

-- what falls with each step
abbrev pub weight_of : ReverseSearch → ℕ
weight_of s = sum s.values + length s.items

-- y is what is found for u along an arc into v, for which x is known
pub record IsFoundAlong (net : Network) (j v x u y : ℕ) : Type 0 where
  pub arc : ℕ
  pub by : List ℕ
  pub leads : Leads net arc u by v
  pub value : y ≡ x + slice_index by j

-- The search has gone back along the arcs that P holds of, from the node v for which x is known: what is less is known
-- and waits.
pub record GoesBack (net : Network) (v x : ℕ) (P : ℕ → Type 0) (before after : ReverseSearch) : Type 0 where
  pub target : after.target ≡ before.target
  pub criterion : after.criterion ≡ before.criterion
  pub count : length after.values ≡ length before.values
  pub lower : (u : ℕ) → value_at after u ≤ value_at before u
  pub reached : (k u : ℕ) (w : List ℕ) → P k → Leads net k u w v → value_at after u ≤ x + slice_index w before.criterion
  pub kept : (i : Item) → Contains before.items i → Contains after.items i
  pub changed : (u : ℕ) → (value_at after u ≡ value_at before u)
      ⊎ (Contains after.items (item (value_at after u) u) × IsFoundAlong net before.criterion v x u (value_at after u))
  pub come : (i : Item) → Contains after.items i → Contains before.items i ⊎ IsFoundAlong net before.criterion v x i.0.node.0 i.0.value
  pub weight : weight_of after ≤ weight_of before
