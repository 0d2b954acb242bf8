use Rattle.std.proofs.Common.{◌-◌}
use Rattle.route_lanes.specs.Visits.{ServedSoFar}
use Rattle.route_lanes.proofs.visits.serve_door.Given as goal

-- the links so far were served and given back, and the next one can be served
abbrev pub invariant-links : goal.invariant-links
invariant-links g l = record {
  ready : g.P.Attendant.ready l.setting l.party;
  so_far : ServedSoFar (g.P.Attendant.visits l.setting) l.initial.party l.party (g.D.Door.state l.initial.door) (g.D.Door.state l.door) l.want;
}

abbrev pub decreases-links : goal.decreases-links
decreases-links g l = (g.D.Door.state l.door).links - (g.D.Door.state l.door).given
