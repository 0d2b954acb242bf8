use Rattle.std.proofs.Common.{◌≡◌, ◌+◌, All, vec_len}
use Rattle.epoch_store.specs.Readers.{unread}
use Rattle.route_lanes.specs.Served.{IsFresh}
use Rattle.route_lanes.proofs.session_lane.session_lanes.Given as goal

-- each reader waits or has its lane, and has seen nothing
abbrev pub invariant-loop-reader : goal.invariant-loop-reader
invariant-loop-reader g l = record {
  count : vec_len l.rest + vec_len l.lanes ≡ vec_len l.initial.rest;
  waiting : All (λ x. x ≡ unread) l.rest.items;
  seated : All (λ lane. IsFresh lane.session) l.lanes.items;
}

abbrev pub decreases-loop-reader : goal.decreases-loop-reader
decreases-loop-reader g l = vec_len l.rest
