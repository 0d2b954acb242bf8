use Rattle.std.proofs.Common.{◌≡◌, ◌<◌, ◌≤◌, length, get_or, refl, ap, sym, ◌∙◌, arith, rules}
use Rattle.std.proofs.lemmas.Bool.{le-leb, leb-true}
use Rattle.std.specs.BinaryHeap.{heap_items}
use Rattle.std.proofs.lemmas.List.{get_or_default}
use Rattle.goal_bounds.specs.Reverse.{ReverseSearch}
use Rattle.goal_bounds.proofs.ReverseLemmas.{final_by_top, none_less}
use Rattle.goal_bounds.proofs.reverse.ReverseSearch.is_final.Goals as goal

pub returns-in-Some : goal.returns-in-Some
returns-in-Some c =
    let items = heap_items c.self.inside.heap in
    let top = c.in-Some.field-0.now in
    let s : ReverseSearch = record {
      target = c.self.inside.target.0;
      criterion = c.self.inside.criterion;
      values = c.self.inside.values.items;
      items = items;
    } in
    let within : c.args.node.0 < length s.values = let count = ap (λ (z : ReverseSearch). length z.values) c.self.view_is in omega (arith, count, c.requires) in
    let read : c.index.result.now ≡ get_or s.values c.args.node.0 0 = c.index.ensures ∙ get_or_default s.values c.args.node.0 c.index.result.now 0 within in
    let some : 0 < length items = search rules in
    rw (← c.self.view_is) (
      (λ at_most. final_by_top s c.args.node.0 top (none_less top items (c.in-Some.ensures.greatest c.self.invariant)) (let less : c.index.result.now ≤ top.0.value = leb-true c.index.result.now top.0.value at_most in omega (arith, less, read))),
      (λ final. le-leb c.index.result.now top.0.value (omega (arith, final top (0, some, sym c.in-Some.ensures.lookup), read))),
    )

pub returns-in-None : goal.returns-in-None
returns-in-None c =
    let none : length c.args.self.now.items ≡ 0 = search rules in
    ((λ any i there. omega (arith, there.1, none)), (λ final. refl))
