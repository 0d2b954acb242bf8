-- What a query found.
use Rattle.walk_readback.specs.Found.{FoundCosts}
use Rattle.found_fronts.specs.FoundAtWidth.{found_of as found_at_width}
use Rattle.found_fronts.specs.declared.findings.Findings.{Findings}
use Rattle.found_fronts.specs.declared.findings.Findings.TheVariants.{Two, Three, Four}

-- what was found, whatever the number of criteria
abbrev pub found_of : Findings → FoundCosts
found_of (Two found) = found_at_width found
found_of (Three found) = found_at_width found
found_of (Four found) = found_at_width found
