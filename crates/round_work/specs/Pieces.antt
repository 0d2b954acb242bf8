-- The pieces into which taken items are cut, and what comes of one.
use Rattle.std.specs.Prelude.{◌≡◌, ◌≢◌, ℕ, ◌*◌, ◌<◌, ◌++◌, List, [], Option, Some, None, length, map, take, drop, flat_map, All}
use Rattle.std.specs.Global.{Vec}
use Rattle.road_network.specs.Network.{Network, IsNode}
use Rattle.waiting_item.specs.declared.item.Item.{Item}
use Rattle.waiting_item.specs.Waiting.{Waiting, as_waiting}
use Rattle.round_work.specs.Onward.{HaveRoom, onward_of}

-- how many items are a piece; the last piece may have fewer
abbrev pub piece_size : ℕ
piece_size = 64

-- lists of elements of some type
module _ {X : Type 0} where
  -- behind what was there stands such a list
  pub record Appends (Gives : List X → Type 0) (before after : List X) : Type 0 where
    pub more : List X
    pub whole : after ≡ before ++ more
    pub gives : Gives more

  -- such a list, or none where there is no room
  abbrev pub GivesIfRoom : Type 0 → (List X → Type 0) → Option (Vec X) → Type 0
  GivesIfRoom TooWide Gives None = TooWide
  GivesIfRoom TooWide Gives (Some list) = Gives list.items

  -- a list joined of lists
  abbrev pub all_of : List (Vec X) → List X
  all_of = flat_map (λ list. list.items)

  -- the list that was found, if any
  abbrev pub found_in : Option (Vec X) → List X
  found_in None = []
  found_in (Some list) = list.items

  -- each list was found, and all of them stand behind what was there
  pub record AppendsFound (lists : List (Option (Vec X))) (before after : List X) : Type 0 where
    pub each : All (λ list. list ≢ None) lists
    pub whole : after ≡ before ++ flat_map found_in lists

-- costs are of some type
module _ {C : Type 0} where
  -- the items of a piece
  abbrev pub items_of : List (Item C) → ℕ → List (Item C)
  items_of taken piece = take piece_size (drop (piece * piece_size) taken)

  -- the network has d criteria, and the items are of its nodes
  pub record AreReady (d : ℕ) (net : Network) (taken : List (Item C)) : Type 0 where
    pub criteria : net.criteria ≡ d
    pub each : All (λ i. IsNode net.nodes i.node.0) taken

  -- there is such a piece of them
  pub record CanDo (d : ℕ) (net : Network) (taken : List (Item C)) (piece : ℕ) : Type 0 where
    pub ready : AreReady d net taken
    pub there : piece * piece_size < length taken

-- costs have these components
module _ {C : Type 0} (components : C → List ℕ) where
  -- where the search goes on from the items
  abbrev pub onward_in : Network → List (Item C) → List Waiting
  onward_in net items = onward_of net (map (as_waiting components) items)

  -- the items are these, and there is room for each
  pub record AreWithRoom (bound : ℕ) (ws : List Waiting) (items : List (Item C)) : Type 0 where
    pub exact : map (as_waiting components) items ≡ ws
    pub room : HaveRoom bound ws
