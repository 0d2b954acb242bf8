use Rattle.std.proofs.Common.{◌*◌, Err, sym, ap}
use Rattle.list_laws.proofs.Members.{each_in, in_map}
use Rattle.road_network.specs.Network.{IsNode}
use Rattle.waiting_item.specs.declared.item.Item.{Item}
use Rattle.waiting_item.specs.Waiting.{as_waiting}
use Rattle.waiting_queue.proofs.JoiningLemmas.{in_flat}
use Rattle.round_work.specs.Onward.{onward}
use Rattle.round_work.specs.Pieces.{piece_size}
use Rattle.round_work.proofs.OnwardLemmas.{in_cut}
use Rattle.round_work.proofs.pieces.TakenItems.append_piece.Goals as goal

pub relax_into-requires-clause-node : goal.relax_into-requires-clause-node
relax_into-requires-clause-node g c = each_in (λ (i : Item g.row.C.Denot). IsNode c.args.self.now.network.now.nodes i.node.0) _ c.requires.ready.each _
    (in_cut _ _ (c.args.piece * piece_size) piece_size _ c.item-item.result c.cut-item-items.ensures c.loop-item-test.true c.item-item.is)

pub returns-in_err-relax_into-clause-too_wide : goal.returns-in_err-relax_into-clause-too_wide
returns-in_err-relax_into-clause-too_wide g c = λ e.
    let gives = rw e at c.from_residual.ensures.1 in
    let wide = c.in_err-relax_into.ensures.too_wide (ap (λ f. Err f) (sym gives)) in
    let there = in_cut _ _ (c.args.piece * piece_size) piece_size _ c.item-item.result c.cut-item-items.ensures c.loop-item-test.true c.item-item.is in
    let member = in_flat (onward c.args.self.now.network.now) _ _ wide.one (in_map (as_waiting g.C.StoredCost.components) _ _ there) wide.member in
    record { one = wide.one; member = member; exceeds = wide.exceeds }
