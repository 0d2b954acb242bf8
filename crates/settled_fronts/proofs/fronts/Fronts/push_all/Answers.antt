use Rattle.std.proofs.Common.{◌^◌, ◌<◌, drop, length, map, ap, arith, rules, subst, sym, ◌∙◌}
use Rattle.std.proofs.lemmas.List.{take_at}
use Rattle.std.proofs.lemmas.List.Elements.{Contains-get_or}
use Rattle.list_laws.proofs.Members.{in_map}
use Rattle.settled_fronts.specs.NodeFronts.{Fronts, IsKept, kept_fronts}
use Rattle.settled_fronts.specs.Settling.{SettlesAll}
use Rattle.waiting_item.specs.Waiting.{spot_in}
use Rattle.settled_fronts.proofs.SettlingLemmas.{accepted, all_settled}
use Rattle.settled_fronts.proofs.fronts.Fronts.push_all.Goals as goal

pub reach_all-requires-clause-nodes : goal.reach_all-requires-clause-nodes
reach_all-requires-clause-nodes g c = λ k d within.
    let node = c.requires.nodes _ (in_map (spot_in g.F.Cost.StoredCost.components) c.args.items.now _ (Contains-get_or c.args.items.now k d within)) in
    omega (arith, node.0)

pub reach_all-requires-clause-within : goal.reach_all-requires-clause-within
reach_all-requires-clause-within g c = λ k d within.
    let node = c.requires.nodes _ (in_map (spot_in g.F.Cost.StoredCost.components) c.args.items.now _ (Contains-get_or c.args.items.now k d within)) in
    omega (arith, node.1, ap (λ (f : Fronts). f.nodes) c.self.view_is, c.self.invariant.placed.some)

pub share-requires-clause-accepted : goal.share-requires-clause-accepted
share-requires-clause-accepted g c κs within =
    let made = c.in_ok-reach_all.ensures in
    let room : length c.reach_all.new.fronts.items < 2 ^ 64 = search rules in
    rw (c.deref-2.ensures.value, c.deref_mut.ensures.value)
    (accepted (g.F.Cost.StoredCost.components) g.F.SettledFront.costs c.reach_all.new.fronts.items c.args.items.now c.args.self made.kept
    (made.same ∙ c.self.view_is) c.requires made.reached room)

pub invariant_of-result : goal.invariant_of-result
invariant_of-result g c =
    let made = c.in_ok-reach_all.ensures in
    let whole = take_at c.share.new.places (drop (length c.share.new.places) c.reach_all.new.fronts.items) c.reach_all.new.fronts.len
    (omega (arith, c.deref_mut.ensures.len, c.share.auto.places)) in
    subst (λ xs. IsKept g.row.D g.F.Cost.Part.Part.bound c.reach_all.new.places.items (map g.F.SettledFront.costs xs)) (sym whole)
    (all_settled g.F.Cost.StoredCost.components g.F.SettledFront.costs c.reach_all.new.fronts.items c.args.items.now c.args.self made.kept
    (made.same ∙ c.self.view_is) c.requires made.reached c.share.new.places (rw (c.deref-2.ensures.value, c.deref_mut.ensures.value) at c.in_ok-share.ensures)).0

pub returns : goal.returns
returns g c =
    let made = c.in_ok-reach_all.ensures in
    let whole = take_at c.share.new.places (drop (length c.share.new.places) c.reach_all.new.fronts.items) c.reach_all.new.fronts.len
    (omega (arith, c.deref_mut.ensures.len, c.share.auto.places)) in
    subst (λ xs. SettlesAll c.args.self (kept_fronts c.reach_all.new.places.items (map g.F.SettledFront.costs xs))
    (map (spot_in g.F.Cost.StoredCost.components) c.args.items.now)) (sym whole)
    (all_settled g.F.Cost.StoredCost.components g.F.SettledFront.costs c.reach_all.new.fronts.items c.args.items.now c.args.self made.kept
    (made.same ∙ c.self.view_is) c.requires made.reached c.share.new.places (rw (c.deref-2.ensures.value, c.deref_mut.ensures.value) at c.in_ok-share.ensures)).1
