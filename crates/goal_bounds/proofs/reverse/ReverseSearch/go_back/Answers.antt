use Rattle.std.proofs.Common.{◌≡◌, ◌+◌, ◌<◌, length, get_or, sym, ap, subst, ◌∙◌, arith}
use Rattle.std.specs.BinaryHeap.{heap_items}
use Rattle.std.proofs.lemmas.List.{get_or_default}
use Rattle.road_network.specs.Network.{Leads}
use Rattle.arc_graph.specs.Graph.{head_of}
use Rattle.goal_bounds.specs.Reverse.{ReverseSearch}
use Rattle.goal_bounds.proofs.ArcLemmas.{leads_over, shut_leads_nowhere, tail_is_node}
use Rattle.goal_bounds.proofs.GoingLemmas.{goes_lower, goes_no_lower, goes_nowhere}
use Rattle.goal_bounds.proofs.reverse.ReverseSearch.go_back.Goals as goal

pub returns-in_ok-push : goal.returns-in_ok-push
returns-in_ok-push c =
    let net = c.args.network.now in let a = c.args.arc in let u = c.tail-tail.result.0 in let w = c.in-Some.weight in
    let s : ReverseSearch = record {
      target = c.self.inside.target.0;
      criterion = c.self.inside.criterion;
      values = c.self.inside.values.items;
      items = heap_items c.self.inside.heap;
    } in
    let over = leads_over net a c.requires.counted c.requires.there w (sym c.weight.ensures.state ∙ c.in-Some.is) in
    let arc = subst (λ n. Leads net a.0 n w (head_of net.ends a)) (sym c.tail-tail.ensures) over in
    let node = tail_is_node net a c.requires.counted c.requires.there c.nodes.ensures.network.network in
    let count : length s.values ≡ net.nodes + 1 = ap (λ (z : ReverseSearch). length z.values) c.self.view_is ∙ c.requires.count in
    let within : u < length s.values = omega (arith, count, node.1, c.tail-tail.ensures) in
    let read : c.index.result.now ≡ get_or s.values u 0 = c.index.ensures ∙ get_or_default s.values u c.index.result.now 0 within in
    rw (← c.self.view_is)
    (goes_lower net (head_of net.ends a) c.args.value a.0 u w arc s (c.args.value + c.from.result)
    (omega (arith, c.from.ensures, c.component.ensures)) (heap_items c.push.new.self) (omega (arith, read, c.if-found-index.true)) within
    c.in_ok-push.ensures.permutation)

pub returns-else-found-index : goal.returns-else-found-index
returns-else-found-index c =
    let net = c.args.network.now in let a = c.args.arc in let u = c.tail-tail.result.0 in let w = c.in-Some.weight in
    let s : ReverseSearch = record {
      target = c.self.inside.target.0;
      criterion = c.self.inside.criterion;
      values = c.self.inside.values.items;
      items = heap_items c.self.inside.heap;
    } in
    let over = leads_over net a c.requires.counted c.requires.there w (sym c.weight.ensures.state ∙ c.in-Some.is) in
    let arc = subst (λ n. Leads net a.0 n w (head_of net.ends a)) (sym c.tail-tail.ensures) over in
    let node = tail_is_node net a c.requires.counted c.requires.there c.nodes.ensures.network.network in
    let count : length s.values ≡ net.nodes + 1 = ap (λ (z : ReverseSearch). length z.values) c.self.view_is ∙ c.requires.count in
    let within : u < length s.values = omega (arith, count, node.1, c.tail-tail.ensures) in
    let read : c.index.result.now ≡ get_or s.values u 0 = c.index.ensures ∙ get_or_default s.values u c.index.result.now 0 within in
    rw (← c.self.view_is)
    (goes_no_lower net (head_of net.ends a) c.args.value a.0 u w arc s
    (omega (arith, read, c.from.ensures, c.component.ensures, c.if-found-index.false)))

pub returns-in_default : goal.returns-in_default
returns-in_default c =
    let net = c.args.network.now in let a = c.args.arc in
    let shut = sym c.weight.ensures.state ∙ c.in_default.is in
    goes_nowhere net (head_of net.ends a) c.args.value (λ k. k ≡ a.0) c.args.self.now
    (λ k u w same arc. absurd (shut_leads_nowhere net a shut u (head_of net.ends a) w (subst (λ n. Leads net n u w (head_of net.ends a)) same arc)))
