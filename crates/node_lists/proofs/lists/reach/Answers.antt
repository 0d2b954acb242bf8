use Rattle.std.proofs.Common.{◌≡◌, [], ◌∷◌, ◌++◌, length, map, arith, rules}
use Rattle.std.proofs.lemmas.List.{length-map, length-set, map_push}
use Rattle.settled_fronts.proofs.PlacedLemmas.{kept_more, same_costs}
use Rattle.node_lists.proofs.lists.reach.Goals as goal

pub returns : goal.returns
returns g c =
    let begun = map g.L.SettledList.costs c.args.lists.now.items in
    let last : c.len-next.result ≡ length begun = omega (arith, c.len-next.ensures, length-map c.args.lists.now.items g.L.SettledList.costs) in
    let more : map g.L.SettledList.costs c.push.new.self.items ≡ begun ++ [] ∷ [] = rw (c.in_ok-push.ensures.items, map_push, c.new.ensures) in
    record {
      kept = rw (more, last) (kept_more c.requires.kept c.requires.within (search rules));
      same = rw (more, last, length-set, same_costs c.requires.kept c.requires.within (search rules));
      place = search rules;
      reached = search rules;
    }
