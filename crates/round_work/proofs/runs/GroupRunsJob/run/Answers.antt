use Rattle.std.proofs.Common.{Bor, List, ◌*◌, append-nil, arith, take_all}
use Rattle.std.proofs.lemmas.List.{drop-map, map-append, take-map}
use Rattle.list_laws.proofs.Members.{each_in, in_map}
use Rattle.list_laws.proofs.Pairs.{pairs_take}
use Rattle.waiting_item.specs.declared.item.Item.{Item}
use Rattle.waiting_queue.proofs.ShadowLemmas.{pairs_drop}
use Rattle.round_work.specs.Groups.{AreApart, HaveOneNode}
use Rattle.round_work.proofs.GroupLemmas.{groups_both}
use Rattle.round_work.proofs.OnwardLemmas.{in_cut, take_next}
use Rattle.round_work.proofs.runs.GroupRunsJob.run.Goals as goal

pub merge_group-requires : goal.merge_group-requires
merge_group-requires g c =
    each_in HaveOneNode _ c.requires.groups.each _ (in_map (λ (group : Bor (List (Item g.row.C.Denot))). group.now) _ _
    (in_cut _ _ (c.args.piece * c.args.self.now.size) _ _ c.group-item.result c.cut-group-items.ensures c.loop-i-test.true c.group-item.is))

pub loop-i-preserved : goal.loop-i-preserved
loop-i-preserved g c =
    let adds = c.in_ok-merge_group.ensures in
    rw (adds.whole, take_next c.cut-group-items.result.now c.loop-i.i c.group-item.result c.loop-i-test.true c.group-item.is, map-append)
    (groups_both g.C.StoredCost.components (g.K.Look.IsOpen c.args.self.now.look.now) _ _ c.loop-i.kept.items adds.more c.loop-i.invariant
    (λ apart. rw append-nil adds.gives))

pub returns : goal.returns
returns g c =
    let all = take_all c.loop-i.i c.cut-group-items.result.now (omega (arith, c.loop-i-test.false)) in
    (rw (all, c.cut-group-items.ensures, ← take-map, ← drop-map) at c.loop-i.invariant)
    (pairs_take AreApart c.args.self.now.size _ (pairs_drop AreApart (c.args.piece * c.args.self.now.size) _ c.requires.groups.apart))
