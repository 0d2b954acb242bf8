-- The chronicle of a store: a list, in proofs alone, of the histories that its operator drew up. A history that wasn't
-- published in the end, for want of memory, stands in it too.
use Rattle.std.specs.Prelude.{◌≡◌, ℕ, ◌==◌, true, List, [], ◌∷◌, ◌++◌, length, MatchBool, fold}
use Rattle.logbook.specs.Pages.{Book, Cell, Named, Step, View}
use Rattle.arc_graph.specs.History.{History}

-- the history that was drawn up last, or the empty one
abbrev pub latest : List History → History
latest log = fold (λ _ h. h) [] log

-- The first word counts the histories. A book has two words, of which this one leaves the second at 0.
pub record IsChronicle (cells : List Cell) (log : List History) : Type 0 where
  pub words : cells ≡ (length log, true) ∷ (0, true) ∷ []

-- the word that counts them
abbrev pub count_of : Book → Named
count_of b = record { tracked = true; key = 0; book = b }

-- where the number found is the one expected, the history was added to those that were seen
abbrev pub AddsHistory : Step History → View History ℕ → ℕ → View History ℕ → Type 0
AddsHistory s v found w = MatchBool (found == s.old) (w.0 ≡ v.0 ++ s.ask ∷ []) (Unit {0})
