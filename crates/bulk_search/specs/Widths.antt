-- A search at either width.
use Rattle.std.specs.Prelude.{ℕ}
use Rattle.bulk_rounds.specs.Cores.{Core}
use Rattle.bulk_search.specs.declared.rounds.Rounds.{Rounds}
use Rattle.bulk_search.specs.declared.rounds.Rounds.TheVariants.{Narrow, Wide}

-- its core, whatever the width
abbrev pub core_of : {D : ℕ} {F Cost Part Wide WideCost WidePart : Type 0} → Rounds D F Cost Part Wide WideCost WidePart → Core
core_of (Narrow rounds) = rounds.core
core_of (Wide rounds) = rounds.core
