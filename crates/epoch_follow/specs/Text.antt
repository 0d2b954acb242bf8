-- The text of a feed: its first line `feed M D B`, and then for each epoch a message, the line `g E P`, P lines `s A W1 .. WD` or
-- `x A`, and the line `end E`. Each line ends by LF, with single spaces and decimals without leading zeros.
use Rattle.std.specs.Prelude.{ℕ, ◌+◌, ◌-◌, List, [], ◌∷◌, ◌++◌, length, codes, slice_range, Option, Some, None}
use Rattle.std.specs.List.{flat_map}
use Rattle.answer_writer.specs.Replies.{and_number, end_line}
use Rattle.arc_graph.specs.declared.change.Change.{Change}
use Rattle.arc_graph.specs.Graph.{Graph}
use Rattle.arc_graph.specs.History.{History, sets_of}

-- what the first line says: how many arcs and how many criteria there are, and the number of the first epoch
pub record FeedHead : Type 0 where
  pub arcs : ℕ
  pub criteria : ℕ
  pub first : ℕ

-- what the feeds of a store over this graph say
abbrev pub head_of : Graph → ℕ → FeedHead
head_of g first = record { arcs = length g.ends; criteria = g.criteria; first = first }

-- `feed M D B`
abbrev pub head_line : FeedHead → List ℕ
head_line head = codes "feed" ++ and_number head.arcs ++ and_number head.criteria ++ and_number head.first ++ end_line

-- `s A W1 .. WD`, an arc with its new weights, or `x A` where it is shut
abbrev pub state_line : ℕ → Option (List ℕ) → List ℕ
state_line arc (Some w) = codes "s" ++ and_number arc ++ flat_map and_number w ++ end_line
state_line arc None = codes "x" ++ and_number arc ++ end_line

-- the line of a change
abbrev pub change_line : Change → List ℕ
change_line c = state_line c.arc.0 c.weight

-- `g E P`, an epoch and how many changes made it
abbrev pub begin_line : ℕ → ℕ → List ℕ
begin_line epoch count = codes "g" ++ and_number epoch ++ and_number count ++ end_line

-- `end E`
abbrev pub end_of_message : ℕ → List ℕ
end_of_message epoch = codes "end" ++ and_number epoch ++ end_line

-- the message of an epoch
abbrev pub message : ℕ → List Change → List ℕ
message epoch cs = begin_line epoch (length cs) ++ flat_map change_line cs ++ end_of_message epoch

-- the messages of epochs that follow one another, of which the first has this number
abbrev pub messages : ℕ → List (List Change) → List ℕ
messages epoch [] = []
messages epoch (cs ∷ css) = message epoch cs ++ messages (epoch + 1) css

-- The feed of the sets number i to j of a history, counted from 1, where set k makes the epoch `first + k`. With j = i - 1 it is
-- the first line alone.
abbrev pub feed_text : FeedHead → History → ℕ → ℕ → List ℕ
feed_text head h i j = head_line head ++ messages (head.first + i) (slice_range (sets_of h) (i - 1) j)
