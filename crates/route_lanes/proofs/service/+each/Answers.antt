use Rattle.route_lanes.proofs.ServiceLemmas.{all_serve_append, only_one}
use Rattle.route_lanes.specs.Services.{CallLeaves}
use Rattle.route_lanes.proofs.service.+each.Goals as goal

pub serve_each-returns-then-parties-eq1 : goal.serve_each-returns-then-parties-eq1
serve_each-returns-then-parties-eq1 g t c =
    only_one (CallLeaves g.W.Fn c.args.serve.now) c.args.parties.now c.args.links.now _ _ _ c.if-parties-eq1.true c.serve_one.ensures

pub serve_each-returns : goal.serve_each-returns
serve_each-returns g t c =
    let whole = all_serve_append (CallLeaves g.W.Fn c.args.serve.now) c.serve_halves.ensures.left c.serve_halves.ensures.right in
    rw (c.split_at_mut-left.ensures.value, c.split_at_mut-left_links.ensures.value) whole
