use Rattle.std.proofs.Common.{◌≡◌, ◌∷◌, ◌++◌, [], map, refl}
use Rattle.waiting_item.specs.Waiting.{as_waiting}
use Rattle.bulk_core.proofs.StartLemmas.{is_new, new_is_kept, start_of}
use Rattle.bulk_core.proofs.rounds.Core.new.Goals as goal

-- the start alone waits
waits : (g : _) (c : goal.After-new-3 g)
    → c.new-2.result ++ map (as_waiting g.F.Cost.StoredCost.components) c.push.new.self.items ≡ start_of g.row.D c.args.start.0 ∷ []
waits g c = rw (c.new-2.ensures, c.in_ok-push.ensures.items, c.new-fresh.ensures.items, c.start_item.ensures) refl

pub invariant_of-result : goal.invariant_of-result
invariant_of-result g c = let settled = c.in_ok-new.ensures in
    rw c.new-3.ensures.items (new_is_kept _ settled.none (waits g c) c.requires.criteria (rw settled.nodes c.requires.start)
    (rw (settled.nodes, settled.target) c.requires.target) c.requires.budget)

pub returns : goal.returns
returns g c = let settled = c.in_ok-new.ensures in
    is_new _ settled.none (waits g c) settled.nodes settled.target settled.limit (rw c.new-3.ensures.items refl)
