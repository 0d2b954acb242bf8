use Rattle.std.proofs.Common.{List, sym}
use Rattle.std.proofs.lemmas.Result.{IfOk-weaker}
use Rattle.waiting_item.specs.declared.item.Item.{Item}
use Rattle.round_work.specs.Pieces.{AreWithRoom, onward_in, piece_size}
use Rattle.round_work.proofs.OnwardLemmas.{all_found, gives_none, on_both}
use Rattle.round_work.proofs.relaxing.relax.Goals as goal

pub returns : goal.returns
returns g c =
    let components = g.C.StoredCost.components in
    let bound = g.C.Part.Part.bound in
    let net = c.args.network.now in
    let found = all_found (λ (items : List (Item g.row.C.Denot)). AreWithRoom components bound (onward_in components net items)) (on_both components bound net)
    _ (gives_none components bound) piece_size _ _ _ c.pieces.ensures.all (rw (sym c.deref.ensures.value) at c.in_ok-lists.ensures) in
    record {
      candidates = IfOk-weaker c.append_found.result _ _ (λ u appends. (found.0 _ _ c.clear.ensures.items appends).exact) c.append_found.ensures.appends;
      room = IfOk-weaker c.append_found.result _ _ (λ u appends. (found.0 _ _ c.clear.ensures.items appends).room) c.append_found.ensures.appends;
      too_wide = λ e. found.1 (c.append_found.ensures.too_wide e);
    }
