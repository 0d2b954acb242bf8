use Rattle.std.proofs.Common.{◌*◌, sym, arith}
use Rattle.std.specs.Global.{Vec}
use Rattle.std.proofs.lemmas.List.{length-map}
use Rattle.rayon.proofs.ListFacts.{IfOk-then}
use Rattle.waiting_item.specs.declared.item.Item.{Item}
use Rattle.waiting_item.specs.Waiting.{spot_in}
use Rattle.round_work.specs.Groups.{runs_per_worker}
use Rattle.round_work.proofs.GroupLemmas.{KeepsOfGroups, groups_both}
use Rattle.round_work.proofs.OnwardLemmas.{all_pieces}
use Rattle.round_work.proofs.SurvivorLemmas.{keeps_none}
use Rattle.round_work.proofs.merging.merge_sorted.Goals as goal

pub prove-unreachable-requires : goal.prove-unreachable-requires
prove-unreachable-requires g c =
    let last = c.count-pieces.ensures.each (c.args.workers.now.count * runs_per_worker) (omega (arith, c.run_size-size.ensures.workers, c.if-prove.true)) in
    grind (arith, last, c.run_size-size.ensures.enough, c.len.ensures, c.deref.ensures.len)

pub returns : goal.returns
returns g c =
    let parts = g.C.StoredCost.components in
    let Open = g.K.Look.IsOpen c.args.look.now in
    let groups = rw (sym c.deref.ensures.value) at c.in_ok-groups.ensures.groups in
    rw (c.in_ok-groups.ensures.whole, sym c.deref.ensures.value)
    (IfOk-then c.run_pieces.result _ _ c.run_pieces.ensures (λ outs given.
    all_pieces (KeepsOfGroups parts Open) (groups_both parts Open) (λ (list : Vec (Item g.row.C.Denot)). list.items) (λ apart. keeps_none (spot_in parts) Open)
    c.run_size-size.result _ outs.items (rw (length-map, given.count) c.count-pieces.ensures.all) (λ i out is apart. given.each i out is) groups.apart))
