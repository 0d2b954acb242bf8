-- Room for the arcs of one walk.
use Rattle.std.specs.Prelude.{ℕ, List}
use Rattle.cost_vector.specs.declared.label.ArcNo.{ArcNo}

-- the arcs of a walk, and for how many there is room in all
pub record Room : Type 0 where
  pub arcs : List ArcNo
  pub holds : ℕ
