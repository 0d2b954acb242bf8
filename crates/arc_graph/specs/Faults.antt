-- Which fault of an arc a joiner tells.
use Rattle.std.specs.Prelude.{◌≡◌, ℕ, ◌<◌, ◌≤◌, Option, Some, None, nat_lt, if◌then◌else◌}
use Rattle.arc_graph.specs.declared.join.Disagreement.{Disagreement}
use Rattle.arc_graph.specs.declared.join.Disagreement.TheVariants.{Ends, ZeroArc}
use Rattle.arc_graph.specs.declared.join.OtherEnds.{OtherEnds}
use Rattle.list_laws.specs.Least.{IsLeastWith}

-- the least arc that differs in some file, and there the least such file, if there is one
abbrev pub AreLeastIfAny : (ℕ → ℕ → Type 0) → Option OtherEnds → Type 0
AreLeastIfAny Differs None = (a f : ℕ) → ¬ Differs a f
AreLeastIfAny Differs (Some e) = IsLeastWith (λ a. (f : ℕ) × Differs a f) e.arc × IsLeastWith (Differs e.arc) e.file

-- of what was told, if anything, and what stands here, that of the lesser arc, and at the same arc what was told
abbrev pub IsEarlier : Option OtherEnds → OtherEnds → OtherEnds → Type 0
IsEarlier None here e = e ≡ here
IsEarlier (Some known) here e = (known.arc ≤ here.arc → e ≡ known) × (here.arc < known.arc → e ≡ here)

-- the fault of the lesser arc, where one has other ends and one only zero weights, and of other ends at the same arc
abbrev pub arc_fault_of : Option OtherEnds → Option ℕ → Option Disagreement
arc_fault_of None None = None
arc_fault_of None (Some arc) = Some (ZeroArc arc)
arc_fault_of (Some e) None = Some (Ends e.arc e.file)
arc_fault_of (Some e) (Some arc) = if nat_lt arc e.arc then Some (ZeroArc arc) else Some (Ends e.arc e.file)
