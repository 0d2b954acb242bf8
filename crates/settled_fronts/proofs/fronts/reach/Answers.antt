use Rattle.std.proofs.Common.{◌≡◌, [], ◌∷◌, ◌++◌, get_or, length, map, ap, ◌∙◌, arith, rules}
use Rattle.std.proofs.lemmas.List.{get_or-set_other, length-map, length-set, map_push}
use Rattle.settled_fronts.proofs.PlacedLemmas.{kept_more, same_costs}
use Rattle.settled_fronts.proofs.fronts.reach.Goals as goal

pub returns : goal.returns
returns g c =
    let begun = map g.F.SettledFront.costs c.args.fronts.now.items in
    let last : c.len-next.result ≡ length begun = omega (arith, c.len-next.ensures, length-map c.args.fronts.now.items g.F.SettledFront.costs) in
    let more : map g.F.SettledFront.costs c.push.new.self.items ≡ begun ++ [] ∷ [] = rw (c.in_ok-push.ensures.items, map_push, c.new.ensures) in
    record {
      kept = rw (more, last) (kept_more c.requires.kept c.requires.within (search rules));
      same = rw (more, last, length-set, same_costs c.requires.kept c.requires.within (search rules));
      place = search rules;
      reached = search rules;
      stay = λ v some. get_or-set_other c.args.places.now.items c.args.node.0 v c.len-next.result 0
          (λ is. some (ap (λ u. get_or c.args.places.now.items u 0) is ∙ (search rules)));
      long = length-set c.args.places.now.items c.args.node.0 c.len-next.result;
    }
