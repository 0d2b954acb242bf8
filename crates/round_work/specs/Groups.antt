-- Candidates cut into one group for each node, and runs of groups.
use Rattle.std.specs.Prelude.{◌≡◌, ◌≢◌, ℕ, ◌*◌, ◌<◌, ◌≤◌, ◌++◌, List, length, take, drop, flat_map, All, AllPairs, Contains}
use Rattle.waiting_item.specs.declared.item.Item.{Item}

-- so many runs come to each worker at most, on the average
abbrev pub runs_per_worker : ℕ
runs_per_worker = 8

-- costs are of some type
module _ {C : Type 0} where
  -- their nodes ascend
  abbrev pub AscendByNode : List (Item C) → Type 0
  AscendByNode = AllPairs (λ l m. l.node.0 ≤ m.node.0)

  -- no candidate is of the node of one of the others
  abbrev pub AreApart : List (Item C) → List (Item C) → Type 0
  AreApart candidates others = (l m : Item C) → Contains candidates l → Contains others m → l.node.0 ≢ m.node.0

  -- candidates of one node
  abbrev pub HaveOneNode : List (Item C) → Type 0
  HaveOneNode group = (l m : Item C) → Contains group l → Contains group m → l.node.0 ≡ m.node.0

  -- groups of candidates, each with all candidates of one node
  pub record AreGroups (groups : List (List (Item C))) : Type 0 where
    pub each : All HaveOneNode groups
    pub apart : AllPairs AreApart groups

  -- the candidates of all groups
  abbrev pub joined : List (List (Item C)) → List (Item C)
  joined = flat_map (λ g. g)

  -- the candidates are the first group and others, which are of later nodes
  pub record SplitsGroup (candidates group others : List (Item C)) : Type 0 where
    pub whole : candidates ≡ group ++ others
    pub some : 0 < length group
    pub first : HaveOneNode group
    pub behind : AreApart group others
    pub sorted : AscendByNode others

  -- the groups of the run of this number, where so many are a run; the last run may have fewer
  abbrev pub run_of : ℕ → List (List (Item C)) → ℕ → List (List (Item C))
  run_of size groups run = take size (drop (run * size) groups)

  -- there is such a run of the groups
  pub record CanMergeRun (size : ℕ) (list : List (List (Item C))) (run : ℕ) : Type 0 where
    pub there : run * size < length list
    pub groups : AreGroups list
