use Rattle.std.proofs.Common.{◌≡◌, ◌∷◌, ◌+◌, replicate, ap, subst, ◌∙◌}
use Rattle.std.specs.Prelude.{IsPermutation}
use Rattle.std.specs.BinaryHeap.{heap_items}
use Rattle.goal_bounds.specs.Reverse.{item, unreached}
use Rattle.goal_bounds.proofs.ReverseLemmas.{target_alone}
use Rattle.goal_bounds.proofs.reverse.ReverseSearch.new.Goals as goal

pub returns : goal.returns
returns c =
    let net = c.args.network.now in let t = c.args.target.0 in
    let pushed = subst (λ xs. IsPermutation (item 0 t ∷ xs) (heap_items c.push.new.self)) c.new-heap.ensures.items c.in_ok-push.ensures.permutation in
    let alone = target_alone net c.nodes.ensures.network t c.args.criterion c.requires.target c.requires.criterion (heap_items c.push.new.self) pushed in
    let values : c.in_ok-values.values.items ≡ replicate (net.nodes + 1) unreached =
    c.in_ok-values.ensures.items_if_clones_equal (λ y h. h) ∙ ap (λ n. replicate (n + 1) unreached) c.nodes.ensures.count in
    rw values alone
