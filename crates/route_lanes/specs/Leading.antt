-- What becomes of a feed that is written of what an operator publishes.
use Rattle.std.specs.Prelude.{◌≡◌, ℕ, false, [], Result, Ok, Err}
use Rattle.route_io.specs.Sinks.{SinkState, Sends}
use Rattle.route_io.specs.declared.fault.WriteFault.{WriteFault}
use Rattle.arc_graph.specs.Graph.{Graph, IsGraph, Weights}
use Rattle.arc_graph.specs.History.{Operator, sets, with_none_pending}
use Rattle.epoch_follow.specs.Text.{feed_text, head_of}
use Rattle.epoch_store.specs.Origin.{IsOperatorIn, Origin}
use Rattle.link_doors.specs.Links.{LinkState}
use Rattle.session_core.specs.declared.context.LinkPolicy.{LinkPolicy}
use Rattle.session_core.specs.declared.fault.ReplyFault.{ReplyFault}
use Rattle.session_core.specs.declared.fault.ReplyFault.TheVariants as fault
use Rattle.session_core.specs.declared.end.SessionEnd.{SessionEnd}
use Rattle.session_core.specs.Links.{Serves, is_starved}
use Rattle.session_core.specs.Operators.{IsOperatorBye, OperatorRun}

-- A link of an operator was served from nothing published on, and memory didn't run out in it; the feed of all that it left
-- published, within the limits of the store, was sent with this result.
pub record IsFeedWritten (graph : Graph) (o : Origin) (policy : LinkPolicy) (before after : LinkState) (out sent : SinkState)
    (result : Result (Unit {0}) WriteFault) : Type 0 where
  pub is_graph : IsGraph graph
  pub left : Operator
  pub operator : IsOperatorIn o (with_none_pending left)
  pub end : SessionEnd
  pub remembered : is_starved end ≡ false
  pub serves : Serves (OperatorRun o) (IsOperatorBye o) policy (record { published = []; pending = [] }) left
      before.from after.from before.to after.to end
  pub sends : Sends out sent (feed_text (head_of graph o.first) left.published 1 (sets left.published)) result

-- the same, unless memory ran out before the feed's first byte
abbrev pub WritesPublished : Graph → Origin → LinkPolicy → LinkState → LinkState → SinkState → SinkState
    → Result (Unit {0}) ReplyFault → Type 0
WritesPublished graph o policy before after out sent (Ok done) = IsFeedWritten graph o policy before after out sent (Ok tt)
WritesPublished graph o policy before after out sent (Err (fault.Out cut)) =
    IsFeedWritten graph o policy before after out sent (Err cut)
WritesPublished graph o policy before after out sent (Err (fault.OutOfMemory want)) = sent ≡ out

-- The same over a store that began with this number and these weights.
pub record WritesFeed (graph : Graph) (weights : Weights) (first : ℕ) (policy : LinkPolicy) (before after : LinkState) (out sent : SinkState)
    (result : Result (Unit {0}) ReplyFault) : Type 0 where
  pub origin : Origin
  pub first_is : origin.first ≡ first
  pub base_is : origin.base ≡ weights
  pub writes : WritesPublished graph origin policy before after out sent result
