use Rattle.std.proofs.Common.{Err, ap, ◌∙◌, arith}
use Rattle.road_network.specs.Queries.{limit_of}
use Rattle.sweep_core.proofs.RoomLaws.{no_room_is_narrow}
use Rattle.sweep_search.proofs.searching.find_wide.Goals as goal

pub unreachable-requires : goal.unreachable-requires
unreachable-requires g c =
    let net = c.args.network.now in let query = c.args.query.now in let road = c.nodes.ensures.network in
    let is = g.met.P.Potential.consistent net query.to road c.requires.query.to in
    let none = c.find_at_width.ensures.too_wide (c.in-Err-TooWide.is ∙ ap (λ f. Err f) c.in-Err-TooWide.field-0-is) in
    let narrow = no_room_is_narrow net road query.from query.to (limit_of net.criteria query) (g.P.Potential.height net query.to) is g.W.Cost.Part.Part.bound none in
    omega (arith, narrow, c.requires.room)
