-- The lines of an answer's routes, which are made window by window, and each window piece by piece.
use Rattle.std.specs.Prelude.{◌≡◌, ℕ, ◌+◌, ◌*◌, ◌<◌, ◌≤◌, List, Option, Some, length, min, slice_get}
use Rattle.road_network.specs.Network.{Network}
use Rattle.road_network.specs.Answers.{Route}
use Rattle.road_network.specs.declared.query.AnswerKind.{AnswerKind}
use Rattle.route_io.specs.Forms.{SureSink}
use Rattle.walk_readback.specs.Found.{FoundCosts}
use Rattle.answer_writer.specs.Replies.{lines_between}
use Rattle.answer_writer.specs.Routes.{AreRoutes, TellsRoutes}

-- at most so many costs are a window
abbrev pub window_size : ℕ
window_size = 4096

-- so many costs of a window are a piece; the last one may have fewer
abbrev pub piece_size : ℕ
piece_size = 64

module _ (net : Network) (f : FoundCosts) where
  -- The costs at these places are a window, each with its route.
  pub record IsWindow (from to : ℕ) : Type 0 where
    pub tells : TellsRoutes net f
    pub rises : from ≤ to
    pub few : to ≤ from + window_size
    pub there : to ≤ length f.costs

  -- a window has a piece of this number
  pub record CanMake (from to piece : ℕ) : Type 0 where
    pub window : IsWindow from to
    pub begins : from + piece * piece_size < to

  -- the text has the lines of the routes at the places of this piece, whichever these routes are
  abbrev pub IsPiece : AnswerKind → ℕ → ℕ → ℕ → List ℕ → Type 0
  IsPiece kind from to piece text = (routes : List Route) → AreRoutes net f routes
      → text ≡ lines_between kind routes (from + piece * piece_size) (min to (from + (piece + 1) * piece_size))

  -- The texts are those of all pieces of a window, in their order, where there was memory for them.
  pub record AreTexts (kind : AnswerKind) (from to : ℕ) (texts : List (Option SureSink)) : Type 0 where
    pub begin : (piece : ℕ) → piece < length texts → from + piece * piece_size < to
    pub end : to ≤ from + length texts * piece_size
    pub each : (piece : ℕ) (text : SureSink) → slice_get texts piece ≡ Some (Some text) → IsPiece kind from to piece text.sent
