-- The ranges of the values of words.
use Rattle.std.specs.Prelude.{ℕ, ◌-◌, ◌^◌}
use Rattle.cost_vector.specs.Costs.{max_criteria, min_criteria}

-- the budget of a query that gives none
abbrev pub default_budget : ℕ
default_budget = 10000000

-- the budget of a query whose labels are listed, where none is given
abbrev pub default_listed : ℕ
default_listed = 1000000

-- the greatest budget of a query whose labels are listed
abbrev pub max_listed : ℕ
max_listed = 4000000

-- the greatest number that may stand for a node
abbrev pub max_node : ℕ
max_node = 2 ^ 32 - 1

-- the greatest number that a plan may start with
abbrev pub max_start : ℕ
max_start = 2 ^ 32 - 1

-- the workers of a command that gives none
abbrev pub default_workers : ℕ
default_workers = 1

-- the most workers
abbrev pub max_workers : ℕ
max_workers = 64

-- the lanes of sessions where none are given
abbrev pub default_lanes : ℕ
default_lanes = 1

-- the most lanes of sessions
abbrev pub max_lanes : ℕ
max_lanes = 16

-- the most links of each lane of a server
abbrev pub max_links : ℕ
max_links = 1000000000

-- the links of each lane where none are given
abbrev pub default_links : ℕ
default_links = 1000000000

-- the most feeds of a follower
abbrev pub max_feeds : ℕ
max_feeds = 64

-- the feeds of a follower where no number is given
abbrev pub default_feeds : ℕ
default_feeds = 1

-- the number of the first epoch where none is given
abbrev pub default_epoch : ℕ
default_epoch = 0

-- the fewest weight files: each is one criterion
abbrev pub min_files : ℕ
min_files = min_criteria

-- the most weight files
abbrev pub max_files : ℕ
max_files = max_criteria
