use Rattle.std.proofs.Common.{ℕ, ◌∷◌, [], arith}
use Rattle.std.proofs.lemmas.List.{length-append}
use Rattle.goal_bounds.specs.Reverse.{IsReverse, ReverseSearch}
use Rattle.goal_bounds.proofs.BoundLemmas.{each_more}
use Rattle.goal_bounds.proofs.search.BoundSearch.new.Goals as goal

pub loop-criterion-preserved : goal.loop-criterion-preserved
loop-criterion-preserved c =
    let n = c.loop-criterion.criterion in
    let Has = λ (j : ℕ) (x : ReverseSearch). IsReverse c.args.network.now c.args.target.0 j x in
    rw (c.in_ok-push.ensures.items)
    (record {
      count = omega (arith, length-append c.loop-criterion.searches.items (c.in_ok-new.field-0 ∷ []), c.loop-criterion.invariant.count);
      each = each_more Has c.loop-criterion.searches.items c.in_ok-new.field-0 n c.loop-criterion.invariant.count c.loop-criterion.invariant.each c.in_ok-new.ensures;
    })
