use Rattle.std.proofs.Common.{◌≡◌, ◌+◌, ℕ, [], ◌∷◌, map, replicate, rules}
use Rattle.node_lists.proofs.KeptLemmas.{kept_at_first, none_by}
use Rattle.node_lists.proofs.lists.NodeListsSettledLists.new.Goals as goal

pub invariant_of-result : goal.invariant_of-result
invariant_of-result g c =
    let places : c.in_ok-places.places.items ≡ replicate {A = ℕ} (c.args.nodes + 1) 0 = search rules in
    rw (places, c.in_ok-push.ensures.items, c.new-lists.ensures.items, c.new.ensures)
    (kept_at_first g.row.D _ c.args.nodes c.requires.two c.requires.four c.requires.nodes)

pub returns : goal.returns
returns g c =
    let places : c.in_ok-places.places.items ≡ replicate {A = ℕ} (c.args.nodes + 1) 0 = search rules in
    let begun : map g.L.SettledList.costs c.push.new.self.items ≡ [] ∷ [] = rw (c.in_ok-push.ensures.items, c.new-lists.ensures.items, c.new.ensures) in
    rw (places, begun) (none_by (c.args.nodes + 1))
