use Rattle.std.proofs.Common.{◌≡◌, take}
use Rattle.arc_graph.specs.Stored.{IsStoredState}
use Rattle.arc_graph.proofs.weights.places_of_vector.Given as goal

abbrev pub invariant-loop-i : goal.invariant-loop-i
invariant-loop-i l = record { stored : IsStoredState l.i l.places; vector : take l.i l.places ≡ take l.i l.weight }
