-- What was found, whatever the width and the number of criteria.
use Rattle.std.specs.Prelude.{ℕ}
use Rattle.walk_readback.specs.Found.{FoundCosts}
use Rattle.node_lists.specs.FoundLists.{FoundLists, found_in}
use Rattle.sweep_search.specs.declared.width.SweptAtWidth.{SweptAtWidth}
use Rattle.sweep_search.specs.declared.width.SweptAtWidth.TheVariants.{Narrow, Wide}
use Rattle.sweep_search.specs.declared.swept.Swept.{Swept}
use Rattle.sweep_search.specs.declared.swept.Swept.TheVariants.{Two, Three, Four}

-- the costs of all nodes in order
abbrev pub lists_at_width : {D : ℕ} {N NPart W WPart : Type 0} → SweptAtWidth D N NPart W WPart → FoundLists
lists_at_width (Narrow found) = found
lists_at_width (Wide found) = found

abbrev pub lists_of : Swept → FoundLists
lists_of (Two found) = lists_at_width found
lists_of (Three found) = lists_at_width found
lists_of (Four found) = lists_at_width found

-- and what was found by them
abbrev pub found_at_width : {D : ℕ} {N NPart W WPart : Type 0} → SweptAtWidth D N NPart W WPart → FoundCosts
found_at_width found = found_in (lists_at_width found)

abbrev pub found_of : Swept → FoundCosts
found_of found = found_in (lists_of found)
