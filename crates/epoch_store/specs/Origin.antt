-- Which store it is, by what it began with.
use Rattle.std.specs.Prelude.{ℕ, length}
use Rattle.logbook.specs.Pages.{Book}
use Rattle.arc_graph.specs.Graph.{Weights}
use Rattle.arc_graph.specs.History.{History, Operator, IsOperator, IsPublished, epoch_after, number_after, sets}

-- the most readers of a store
abbrev pub max_readers : ℕ
max_readers = 16

-- its chronicle, the number of its first epoch, and the first weights
pub record Origin : Type 0 where
  pub chronicle : Book
  pub first : ℕ
  pub base : Weights

-- how many arcs its weights have
abbrev pub arcs_of : Origin → ℕ
arcs_of o = length o.base.states

-- how many criteria
abbrev pub criteria_of : Origin → ℕ
criteria_of o = o.base.criteria

-- the number of the last epoch of a history
abbrev pub last_number : Origin → History → ℕ
last_number o h = number_after o.first (sets h)

-- the weights of the last epoch of a history
abbrev pub last_weights : Origin → History → Weights
last_weights o h = epoch_after o.base h (sets h)

-- the history is one that the store's operator may have published
abbrev pub IsPublishedIn : Origin → History → Type 0
IsPublishedIn o h = IsPublished (arcs_of o) (criteria_of o) o.first h

-- the store's operator may stand like this
abbrev pub IsOperatorIn : Origin → Operator → Type 0
IsOperatorIn o operator = IsOperator (arcs_of o) (criteria_of o) o.first operator
