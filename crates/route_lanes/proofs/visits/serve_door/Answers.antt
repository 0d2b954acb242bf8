use Rattle.std.proofs.Common.{[], ap, refl, ◌∙◌}
use Rattle.core.specs.Option.{option_or}
use Rattle.route_lanes.specs.Visits.{first_told, unvisited}
use Rattle.route_lanes.proofs.VisitLemmas.{before_visits, so_far_more}
use Rattle.route_lanes.proofs.visits.serve_door.Goals as goal

pub links-init : goal.links-init
unfolding first_told
links-init g c = record {
  ready = c.requires.ready;
  so_far = record { visits = []; led = unvisited; back = before_visits (g.D.Door.state c.args.door.now); wants = refl };
}

pub links-preserved : goal.links-preserved
links-preserved g c =
    let joined = c.or-want.ensures ∙ ap (option_or c.links.want) c.want_of.ensures in record {
      ready = c.in-Ok-Some.ensures.stays;
      so_far = so_far_more (g.P.Attendant.visits c.args.setting.now) _ _ _ _ _ _ _ _ c.in-Ok-Some.end c.links.invariant.so_far
          (rw c.in-Ok-Some.field-0-is at c.in-Ok-Some.ensures.serves) joined;
    }
