-- What a link shows to contracts.
use Rattle.route_io.specs.declared.link.Link.{Link}
use Rattle.route_io.specs.Sinks.{SinkState}
use Rattle.route_io.specs.Sources.{SourceState}

-- what a link shows: its source and its sink
pub record LinkState : Type 0 where
  pub from : SourceState
  pub to : SinkState

-- the same, by what its source and its sink show
abbrev pub state_of : {S K : Type 0} → (S → SourceState) → (K → SinkState) → Link S K → LinkState
state_of from_state to_state link = record { from = from_state link.from; to = to_state link.to }
