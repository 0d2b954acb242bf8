-- What a search has found, at either width.
use Rattle.std.specs.Prelude.{ℕ}
use Rattle.walk_readback.specs.Found.{FoundCosts}
use Rattle.found_fronts.specs.declared.width.FoundAtWidth.{FoundAtWidth}
use Rattle.found_fronts.specs.declared.width.FoundAtWidth.TheVariants.{Narrow, Wide}

-- what was found, whatever the width
abbrev pub found_of : {D : ℕ} {F Cost Part Wide WideCost WidePart : Type 0} → FoundAtWidth D F Cost Part Wide WideCost WidePart → FoundCosts
found_of (Narrow found) = found
found_of (Wide found) = found
