use Rattle.std.proofs.Common.{◌≡◌, ◌∷◌, ◌<◌, ◌≤◌, length, get_or, ap, sym, subst, ◌∙◌, arith, rules}
use Rattle.std.specs.Prelude.{All, IsPermutation}
use Rattle.std.specs.BinaryHeap.{heap_items}
use Rattle.std.proofs.lemmas.Result.{on_ok_weaker}
use Rattle.goal_bounds.specs.Reverse.{GoesBack, IsReverse, Item, ReverseSearch, value_at}
use Rattle.goal_bounds.proofs.ReverseLemmas.{known_at_node, none_less, one_fewer, popped_at_node, popped_is_small, with_expanded, with_items, without_item}
use Rattle.goal_bounds.proofs.reverse.ReverseSearch.step.Goals as goal

pub index-requires : goal.index-requires
index-requires c =
    let road = c.nodes.ensures.network in let s = c.args.self.now in let i = c.in-Some.field-0 in let items = heap_items c.pop.new.self in
    let taken = subst (λ (z : ReverseSearch). IsPermutation z.items (i ∷ items)) c.self.view_is c.in-Some.ensures.permutation in
    let node = popped_at_node c.args.network.now road s.target s.criterion s c.requires i items taken in
    let count = ap (λ (z : ReverseSearch). length z.values) c.self.view_is in
    let within : i.0.node.0 < length c.self.inside.values.items = omega (arith, node.1, count, c.requires.count) in
    search rules

pub returns-then-index-least-clause-reverse : goal.returns-then-index-least-clause-reverse
returns-then-index-least-clause-reverse c =
    let road = c.nodes.ensures.network in let s = c.args.self.now in let i = c.in-Some.field-0 in let items = heap_items c.pop.new.self in
    let taken = subst (λ (z : ReverseSearch). IsPermutation z.items (i ∷ items)) c.self.view_is c.in-Some.ensures.permutation in
    let node = popped_at_node c.args.network.now road s.target s.criterion s c.requires i items taken in
    let read = known_at_node c.args.network.now s.target s.criterion s c.requires i.0.node.0 c.index.result.now node
    (subst (λ (z : ReverseSearch). c.index.result.now ≡ get_or z.values i.0.node.0 c.index.result.now) c.self.view_is c.index.ensures) in
    subst (λ z. IsReverse c.args.network.now s.target s.criterion (with_items z items)) (sym c.self.view_is)
    (without_item c.args.network.now road s.target s.criterion s c.requires i items taken (λ e. c.if-index-least.true (read ∙ e)))

pub expand-requires-clause-node : goal.expand-requires-clause-node
expand-requires-clause-node c =
    let s = c.args.self.now in let i = c.in-Some.field-0 in let items = heap_items c.pop.new.self in
    let taken = subst (λ (z : ReverseSearch). IsPermutation z.items (i ∷ items)) c.self.view_is c.in-Some.ensures.permutation in
    popped_at_node c.args.network.now c.nodes.ensures.network s.target s.criterion s c.requires i items taken

pub expand-requires-clause-known : goal.expand-requires-clause-known
expand-requires-clause-known c =
    let road = c.nodes.ensures.network in let s = c.args.self.now in let i = c.in-Some.field-0 in let items = heap_items c.pop.new.self in
    let taken = subst (λ (z : ReverseSearch). IsPermutation z.items (i ∷ items)) c.self.view_is c.in-Some.ensures.permutation in
    let node = popped_at_node c.args.network.now road s.target s.criterion s c.requires i items taken in
    let read = known_at_node c.args.network.now s.target s.criterion s c.requires i.0.node.0 c.index.result.now node
    (subst (λ (z : ReverseSearch). c.index.result.now ≡ get_or z.values i.0.node.0 c.index.result.now) c.self.view_is c.index.ensures) in
    subst (λ z. i.0.value ≡ value_at z i.0.node.0) (sym c.self.view_is) (sym c.if-index-least.false ∙ read)

pub expand-requires-clause-room : goal.expand-requires-clause-room
expand-requires-clause-room c =
    let road = c.nodes.ensures.network in let s = c.args.self.now in let i = c.in-Some.field-0 in let items = heap_items c.pop.new.self in
    let taken = subst (λ (z : ReverseSearch). IsPermutation z.items (i ∷ items)) c.self.view_is c.in-Some.ensures.permutation in
    let node = popped_at_node c.args.network.now road s.target s.criterion s c.requires i items taken in
    let read = known_at_node c.args.network.now s.target s.criterion s c.requires i.0.node.0 c.index.result.now node
    (subst (λ (z : ReverseSearch). c.index.result.now ≡ get_or z.values i.0.node.0 c.index.result.now) c.self.view_is c.index.ensures) in
    let top = none_less i (heap_items c.self.inside.heap) (c.in-Some.ensures.heap_order c.self.invariant).1 in
    let least = subst (λ (z : ReverseSearch). All (λ (y : Item). i.0.value ≤ y.0.value) z.items) c.self.view_is top in
    popped_is_small c.args.network.now road s.target s.criterion s c.requires i items taken least (sym read ∙ c.if-index-least.false)

pub returns-clause-reverse : goal.returns-clause-reverse
returns-clause-reverse c =
    let road = c.nodes.ensures.network in let s = c.args.self.now in let i = c.in-Some.field-0 in let items = heap_items c.pop.new.self in
    let taken = subst (λ (z : ReverseSearch). IsPermutation z.items (i ∷ items)) c.self.view_is c.in-Some.ensures.permutation in
    let node = popped_at_node c.args.network.now road s.target s.criterion s c.requires i items taken in
    let read = known_at_node c.args.network.now s.target s.criterion s c.requires i.0.node.0 c.index.result.now node
    (subst (λ (z : ReverseSearch). c.index.result.now ≡ get_or z.values i.0.node.0 c.index.result.now) c.self.view_is c.index.ensures) in
    on_ok_weaker c.expand.result
    (λ back. with_expanded c.args.network.now road s.target s.criterion s c.requires i items taken c.expand.new.self (sym read ∙ c.if-index-least.false)
    (subst (λ z. GoesBack c.args.network.now i.0.node.0 i.0.value (λ k. Unit {0}) (with_items z items) c.expand.new.self) c.self.view_is back))
    c.expand.ensures

pub returns-clause-falls : goal.returns-clause-falls
returns-clause-falls c =
    let road = c.nodes.ensures.network in let s = c.args.self.now in let i = c.in-Some.field-0 in let items = heap_items c.pop.new.self in
    let taken = subst (λ (z : ReverseSearch). IsPermutation z.items (i ∷ items)) c.self.view_is c.in-Some.ensures.permutation in
    on_ok_weaker c.expand.result
    (λ back some.
    let there = subst (λ z. GoesBack c.args.network.now i.0.node.0 i.0.value (λ k. Unit {0}) (with_items z items) c.expand.new.self) c.self.view_is back in
    omega (arith, there.weight, one_fewer c.args.network.now road s.target s.criterion s c.requires i items taken))
    c.expand.ensures
