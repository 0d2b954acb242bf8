-- The routes of an answer, by what a search has found.
use Rattle.std.specs.Prelude.{◌≡◌, ℕ, List, Option}
use Rattle.road_network.specs.Network.{Network}
use Rattle.road_network.specs.Answers.{IsAnswer, Route}
use Rattle.walk_readback.specs.Found.{FoundCosts, IsFound, IsWellFound}

-- What was found over this network tells the routes of an answer, within whatever limit that is.
pub record TellsRoutes (net : Network) (f : FoundCosts) : Type 0 where
  pub nodes : f.nodes ≡ net.nodes
  pub criteria : f.criteria ≡ net.criteria
  pub found : IsFound f
  pub limit : List (Option ℕ)
  pub well_found : IsWellFound net limit f

-- These are the routes of the answer that was found.
pub record AreRoutes (net : Network) (f : FoundCosts) (routes : List Route) : Type 0 where
  pub limit : List (Option ℕ)
  pub well_found : IsWellFound net limit f
  pub answer : IsAnswer net f.start f.target limit routes
