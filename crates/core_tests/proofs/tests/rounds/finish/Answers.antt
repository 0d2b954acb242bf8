use Rattle.std.proofs.Common.{rules, ◌∙◌}
use Rattle.list_laws.proofs.Members.{all_from_in}
use Rattle.bulk_rounds.specs.Cores.{IsSpent}
use Rattle.bulk_rounds.specs.Kept.{IsKeptItem}
use Rattle.bulk_core.proofs.KeptLemmas.{spots_of_items}
use Rattle.bulk_search.proofs.OnwardLemmas.{closed_is_spent, ends_over, items_at_nodes, keeps_all, onward_kept}
use Rattle.core_tests.proofs.tests.rounds.finish.Goals as goal

pub relax-requires-clause-nodes : goal.relax-requires-clause-nodes
relax-requires-clause-nodes g c κs within =
    items_at_nodes _ c.args.network.now c.args.search.now c.taken-taken.result.now c.requires.is_open c.taken-taken.ensures.spots

pub finish-requires : goal.finish-requires
finish-requires g c =
    let spots = spots_of_items _ c.taken-taken.result.now ∙ c.taken-taken.ensures.spots in
    let each = onward_kept c.args.network.now c.nodes.ensures.network.network c.args.search.now c.requires.is_open _ spots c.taken-taken.ensures.from in
    (search rules, rw (c.deref.ensures.value, c.in_ok-relax.ensures.candidates) (all_from_in (IsKeptItem c.args.search.now) _ each))

pub returns : goal.returns
returns g c =
    let core = c.args.search.now in
    let spots = spots_of_items _ c.taken-taken.result.now ∙ c.taken-taken.ensures.spots in
    let puts = rw (c.deref.ensures.value, c.in_ok-relax.ensures.candidates) at c.in_ok-finish.ensures.put in
    ends_over c.args.network.now c.nodes.ensures.network.network core c.requires.is_open _ spots c.taken-taken.ensures.from _
    (closed_is_spent core (IsSpent core) (λ x. (λ spent. spent, λ spent. spent))) _ c.finish.new.self (keeps_all _ _) puts
