-- What the command `check` replies of a network.
use Rattle.std.specs.Prelude.{◌≡◌, ℕ, List, [], length}
use Rattle.road_network.specs.Network.{Network}
use Rattle.still_commands.specs.Outcome.{Outcome, done, no_memory}
use Rattle.still_commands.specs.Texts.{check_reply}

-- The reply has these sizes, unless memory runs out before it is made. No network is refused.
abbrev pub TellsSizes : ℕ → ℕ → ℕ → Outcome → List ℕ → Type 0
TellsSizes nodes arcs criteria done text = text ≡ check_reply nodes arcs criteria
TellsSizes nodes arcs criteria no_memory text = text ≡ []
TellsSizes nodes arcs criteria outcome text = ⊥

-- the reply has the network's sizes
abbrev pub CheckReplies : Network → Outcome → List ℕ → Type 0
CheckReplies net = TellsSizes net.nodes (length net.ends) net.criteria
