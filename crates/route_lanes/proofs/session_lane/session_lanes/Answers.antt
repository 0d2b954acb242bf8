use Rattle.std.proofs.Common.{◌≡◌, [], Some, ap, ◌∙◌, arith}
use Rattle.std.proofs.lemmas.List.Elements.{All-pop, All-push}
use Rattle.epoch_store.specs.Readers.{EpochReader, unread}
use Rattle.route_lanes.specs.declared.session_lane.SessionLane.{SessionLane}
use Rattle.route_lanes.specs.Served.{IsFresh}
use Rattle.route_lanes.proofs.session_lane.session_lanes.Goals as goal

pub loop-reader-preserved : goal.loop-reader-preserved
loop-reader-preserved g c =
    let all = c.loop-reader in
    let waiting : EpochReader → Type 0 = λ x. x ≡ unread in
    let seated : SessionLane g.row.T.Denot g.row.E.Denot → Type 0 = λ lane. IsFresh lane.session in
    let parts = All-pop waiting all.rest.items c.pop.new.self.items (Some c.in-Some.reader) c.in-Some.ensures.items all.invariant.waiting in
    let fresh : IsFresh c.in_ok-new.field-0 = c.in_ok-new.ensures ∙ ap (λ (x : EpochReader). record { seen = x.seen; named = [] }) parts.1 in
    record {
      count = omega (arith, all.invariant.count, c.in-Some.ensures.cases, c.in_ok-push.ensures.len);
      waiting = parts.0;
      seated = rw c.in_ok-push.ensures.items (All-push seated all.lanes.items _ all.invariant.seated fresh);
    }
