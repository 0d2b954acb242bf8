-- What readers find, and how a publication changes it.
use Rattle.std.specs.Prelude.{ℕ, Bool, true, false, List, [], ◌∷◌, ◌++◌, map, fold, slice_set}
use Rattle.arc_graph.specs.declared.change.Change.{Change}
use Rattle.arc_graph.specs.Graph.{Weights}
use Rattle.arc_graph.specs.History.{History, with_changes}
use Rattle.arc_graph.specs.History.HistoryEntry.{Changes, Closed}
use Rattle.arc_graph.specs.Pages.{page_of}

-- A history that was drawn up, with its place in the chronicle.
pub record Drawn : Type 0 where
  pub place : ℕ
  pub history : History

-- a history, or the closed one that it becomes
abbrev pub ended_if : Bool → History → History
ended_if false h = h
ended_if true h = h ++ Closed ∷ []

-- An epoch, with a number for each page of its weights, and the history that led to it, which the code keeps as a witness.
pub record Published : Type 0 where
  pub number : ℕ
  pub weights : Weights
  pub pages : List ℕ
  pub history : History

-- the history of an open store with these change sets
abbrev pub of_sets : List (List Change) → History
of_sets css = map Changes css

-- one publication: the next epoch's number, its changes, and the whole history
pub record Publication : Type 0 where
  pub number : ℕ
  pub changes : List Change
  pub history : History

-- the page of the change's arc has this number
abbrev pub with_page_number : ℕ → List ℕ → Change → List ℕ
with_page_number number pages c = slice_set pages (page_of c.arc.0) number

-- the pages of all changes have it
abbrev pub with_page_numbers : ℕ → List ℕ → List Change → List ℕ
with_page_numbers number pages cs = fold (with_page_number number) pages cs

-- what readers find after a publication
abbrev pub with_publication : Published → Publication → Published
with_publication p q = record {
  number = q.number;
  weights = with_changes p.weights q.changes;
  pages = with_page_numbers q.number p.pages q.changes;
  history = q.history;
}

-- the publication of an epoch, by the change sets of before and those that are pending
abbrev pub epoch_of : ℕ → List (List Change) → List Change → Publication
epoch_of number css cs = record { number = number; changes = cs; history = of_sets css ++ Changes cs ∷ [] }
