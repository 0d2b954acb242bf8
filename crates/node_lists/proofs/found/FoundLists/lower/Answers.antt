use Rattle.std.proofs.Common.{ap, map, ◌∙◌, Vec, Global, rules}
use Rattle.std.proofs.lemmas.Grind.{get_or_default_zero}
use Rattle.std.specs.Vec.{with_items}
use Rattle.node_lists.specs.FoundLists.{FoundLists}
use Rattle.node_lists.proofs.LoweredLemmas.{lowered_items}
use Rattle.node_lists.proofs.FoundLemmas.{are_found_after, lowers_after, lowers_none, within_places}
use Rattle.node_lists.proofs.found.FoundLists.lower.Goals as goal

pub invariant_of-self : goal.invariant_of-self
invariant_of-self g c =
    let f = c.self.inside in
    let costs = λ (l : Vec g.row.C.Denot Global). map g.C.StoredCost.components l.items in
    let within = within_places f.places.items (map costs f.lists.items) (ap (λ (z : FoundLists). z.lists) c.self.view_is) c.requires.node in
    let at = c.index.ensures ∙ get_or_default_zero f.places.items c.args.node.0 c.index.result.now within in
    are_found_after costs f.lists.items (with_items c.index_mut.result.now c.lower_all.new.costs)
    c.self.invariant within at (search rules) c.index_mut.ensures.value
    (lowered_items g.C.StoredCost.components c.args.by.now c.index_mut.result.now c.lower_all.new.costs (rw c.deref_mut.ensures.value at c.lower_all.ensures))

pub returns-then-place-ne0 : goal.returns-then-place-ne0
returns-then-place-ne0 g c =
    let f = c.self.inside in
    let costs = λ (l : Vec g.row.C.Denot Global). map g.C.StoredCost.components l.items in
    let within = within_places f.places.items (map costs f.lists.items) (ap (λ (z : FoundLists). z.lists) c.self.view_is) c.requires.node in
    let at = c.index.ensures ∙ get_or_default_zero f.places.items c.args.node.0 c.index.result.now within in
    rw (← c.self.view_is) (lowers_after costs f.lists.items (with_items c.index_mut.result.now c.lower_all.new.costs)
    c.self.invariant within at (search rules) c.index_mut.ensures.value
    (lowered_items g.C.StoredCost.components c.args.by.now c.index_mut.result.now c.lower_all.new.costs (rw c.deref_mut.ensures.value at c.lower_all.ensures)))

pub returns-else-place-ne0 : goal.returns-else-place-ne0
returns-else-place-ne0 g c =
    let f = c.self.inside in
    let costs = λ (l : Vec g.row.C.Denot Global). map g.C.StoredCost.components l.items in
    let within = within_places f.places.items (map costs f.lists.items) (ap (λ (z : FoundLists). z.lists) c.self.view_is) c.requires.node in
    rw (← c.self.view_is) (lowers_none c.args.by.now c.self.invariant within (search rules))
