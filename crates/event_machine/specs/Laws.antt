-- Words for the laws of the search.
use Rattle.std.specs.Prelude.{◌⊎◌, Contains}
use Rattle.road_network.specs.Labels.{Label}
use Rattle.event_machine.specs.Machine.{SearchState, IsEntry}

-- the label is an entry or a candidate
abbrev pub IsKnown : SearchState → Label → Type 0
IsKnown s y = IsEntry s y ⊎ Contains s.candidates y
