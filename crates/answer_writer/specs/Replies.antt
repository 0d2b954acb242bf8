-- The replies to queries. Fields are separated by one space, numbers are decimal without leading zeros, and each line ends
-- by LF.
use Rattle.std.specs.Prelude.{ℕ, List, [], ◌∷◌, ◌++◌, Option, Some, None, length, codes, decimal}
use Rattle.std.specs.List.{between, flat_map}
use Rattle.cost_vector.specs.declared.label.ArcNo.{ArcNo}
use Rattle.road_network.specs.Answers.{Route}
use Rattle.road_network.specs.declared.query.AnswerKind.{AnswerKind}
use Rattle.road_network.specs.declared.query.AnswerKind.TheVariants.{Costs, Walks}
use Rattle.road_network.specs.declared.query.Query.{Query}

-- the end of a line
abbrev pub end_line : List ℕ
end_line = 10 ∷ []

-- a space, and then a number in decimal
abbrev pub and_number : ℕ → List ℕ
and_number n = codes " " ++ decimal n

-- a space, and then the number of an arc
abbrev pub and_arc : ArcNo → List ℕ
and_arc a = and_number a.0

-- a space, and then a bound, or `-` where there is none
abbrev pub and_bound : Option ℕ → List ℕ
and_bound None = codes " -"
and_bound (Some most) = and_number most

-- `v C1 .. CD`, one cost
abbrev pub cost_line : List ℕ → List ℕ
cost_line cost = codes "v" ++ flat_map and_number cost ++ end_line

-- `p C1 .. CD L A1 .. AL`, one cost with the L arcs of its walk
abbrev pub walk_line : Route → List ℕ
walk_line r = codes "p" ++ flat_map and_number r.cost ++ and_number (length r.arcs) ++ flat_map and_number r.arcs ++ end_line

-- `r K S T F`, how many costs the answer at epoch K to a query from S to T has
abbrev pub head_line : ℕ → ℕ → ℕ → ℕ → List ℕ
head_line epoch s t count = codes "r" ++ and_number epoch ++ and_number s ++ and_number t ++ and_number count ++ end_line

-- `l K S T B1 .. BD F`, the same within a limit
abbrev pub limit_line : ℕ → ℕ → ℕ → List (Option ℕ) → ℕ → List ℕ
limit_line epoch s t limit count =
    codes "l" ++ and_number epoch ++ and_number s ++ and_number t ++ flat_map and_bound limit ++ and_number count ++ end_line

-- its first line, which has the limit where there is one
abbrev pub first_line_within : ℕ → ℕ → ℕ → Option (List (Option ℕ)) → ℕ → List ℕ
first_line_within epoch s t None count = head_line epoch s t count
first_line_within epoch s t (Some limit) count = limit_line epoch s t limit count

-- the first line of the answer to a query
abbrev pub first_line : ℕ → Query → ℕ → List ℕ
first_line epoch query count = first_line_within epoch query.from query.to query.limit count

-- the line of each best cost
abbrev pub line_of : AnswerKind → Route → List ℕ
line_of Costs r = cost_line r.cost
line_of Walks r = walk_line r

-- the lines of the best costs at the places from `from` on and below `to`
abbrev pub lines_between : AnswerKind → List Route → ℕ → ℕ → List ℕ
lines_between kind routes from to = flat_map (line_of kind) (between from to routes)

-- the answer to a query: its first line, and then a line for each best cost
abbrev pub reply_of : AnswerKind → ℕ → Query → List Route → List ℕ
reply_of kind epoch query routes = first_line epoch query (length routes) ++ flat_map (line_of kind) routes

-- `x K S T` and why a query is refused
abbrev pub refusal : ℕ → ℕ → ℕ → List ℕ → List ℕ
refusal epoch s t why = codes "x" ++ and_number epoch ++ and_number s ++ and_number t ++ why ++ end_line

-- `x K S T node`: S or T is no node
abbrev pub node_refusal : ℕ → ℕ → ℕ → List ℕ
node_refusal epoch s t = refusal epoch s t (codes " node")

-- `x K S T budget`: the query passes its budget
abbrev pub budget_refusal : ℕ → ℕ → ℕ → List ℕ
budget_refusal epoch s t = refusal epoch s t (codes " budget")
