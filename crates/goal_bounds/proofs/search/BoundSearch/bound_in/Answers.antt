use Rattle.std.proofs.Common.{◌≡◌, ◌<◌, IfSome, sym, subst, ◌∙◌, arith}
use Rattle.std.proofs.lemmas.List.{length-set}
use Rattle.goal_laws.specs.Goal.{IsBound}
use Rattle.goal_bounds.specs.Bounds.{BoundSearch}
use Rattle.goal_bounds.specs.Reverse.{IsLeastOf, IsReverse}
use Rattle.goal_bounds.proofs.BoundLemmas.{AreLeastBefore, bound_of_least, one_more_least, search_gone_on, still_least, still_reverse}
use Rattle.goal_bounds.proofs.search.BoundSearch.bound_in.Goals as goal

pub returns-in_default-clause-search : goal.returns-in_default-clause-search
returns-in_default-clause-search g c =
    let net = c.args.network.now in let t = c.args.self.now.target in let j = c.loop-j.j in let old = c.index_mut.result.now in
    let b : BoundSearch = record { target = c.loop-j.self-inside.target.0; searches = c.loop-j.self-inside.searches.items } in
    let within : j < net.criteria = omega (arith, c.loop-j-test.true, c.requires.criteria) in
    let was = subst (IsReverse net t j) (sym c.index_mut.ensures.value) (c.loop-j.invariant.search.each j old within) in
    search_gone_on net t b j c.least.new.self c.loop-j.invariant.search within (still_reverse net t j old c.least.new.self was c.in_ok-least.ensures.reverse)

pub loop-j-preserved : goal.loop-j-preserved
loop-j-preserved g c =
    let net = c.args.network.now in let t = c.args.self.now.target in let j = c.loop-j.j in let old = c.index_mut.result.now in
    let b : BoundSearch = record { target = c.loop-j.self-inside.target.0; searches = c.loop-j.self-inside.searches.items } in
    let within : j < net.criteria = omega (arith, c.loop-j-test.true, c.requires.criteria) in
    let was = subst (IsReverse net t j) (sym c.index_mut.ensures.value) (c.loop-j.invariant.search.each j old within) in
    let found = subst (λ o. IfSome o (IsLeastOf net c.args.node.0 old.target old.criterion)) c.in-Some.is c.in_ok-least.ensures.least in
    let least = still_least net c.args.node.0 t j c.in-Some.least old was found in
    record {
      search = search_gone_on net t b j c.least.new.self c.loop-j.invariant.search within (still_reverse net t j old c.least.new.self was c.in_ok-least.ensures.reverse);
      places = length-set c.loop-j.components j c.in-Some.least ∙ c.loop-j.invariant.places;
      least = one_more_least net t c.args.node.0 j c.in-Some.least c.loop-j.components
          (omega (arith, c.loop-j-test.true, c.loop-j.invariant.places)) c.loop-j.invariant.least least;
    }

pub returns-clause-exact : goal.returns-clause-exact
returns-clause-exact g c =
    let net = c.args.network.now in let t = c.args.self.now.target in
    let at_end : c.loop-j.j ≡ net.criteria = omega (arith, c.requires.criteria, c.loop-j-test.false, c.loop-j.auto.j-end) in
    subst (IsBound net c.args.node.0 t) (sym c.of_numbers.ensures)
    (bound_of_least net c.nodes.ensures.network c.args.node.0 t c.loop-j.components (c.loop-j.invariant.places ∙ sym c.requires.criteria)
    (subst (λ n. AreLeastBefore net c.args.node.0 t n c.loop-j.components) at_end c.loop-j.invariant.least).each)
