use Rattle.std.proofs.Common.{◌≡◌, ◌+◌, ℕ, [], ◌∷◌, map, replicate, rules}
use Rattle.settled_fronts.proofs.PlacedLemmas.{kept_new, none_placed}
use Rattle.settled_fronts.proofs.fronts.Fronts.new.Goals as goal

pub invariant_of-result : goal.invariant_of-result
invariant_of-result g c =
    let places : c.in_ok-places.places.items ≡ replicate {A = ℕ} (c.args.nodes + 1) 0 = search rules in
    rw (places, c.in_ok-push.ensures.items, c.new-fronts.ensures.items, c.new.ensures)
    (kept_new g.row.D _ c.args.nodes c.requires.two c.requires.four c.requires.nodes)

pub returns-clause-none : goal.returns-clause-none
returns-clause-none g c v =
    let places : c.in_ok-places.places.items ≡ replicate {A = ℕ} (c.args.nodes + 1) 0 = search rules in
    let begun : map g.F.SettledFront.costs c.push.new.self.items ≡ [] ∷ [] = rw (c.in_ok-push.ensures.items, c.new-fronts.ensures.items, c.new.ensures) in
    rw (places, begun) (none_placed (c.args.nodes + 1) v)
