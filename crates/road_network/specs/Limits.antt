-- How large a network, a budget and the number of an epoch may be.
use Rattle.std.specs.Prelude.{ℕ, ◌-◌, ◌^◌}

-- the most nodes of a network
abbrev pub max_nodes : ℕ
max_nodes = 2 ^ 23

-- the most arcs of a network
abbrev pub max_arcs : ℕ
max_arcs = 2 ^ 24

-- the greatest budget of a query
abbrev pub max_budget : ℕ
max_budget = 50000000

-- the greatest number of an epoch
abbrev pub max_epoch : ℕ
max_epoch = 2 ^ 32 - 1
