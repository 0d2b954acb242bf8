use Rattle.std.proofs.Common.{◌≡◌, [], All, map}
use Rattle.route_top.proofs.follow.links_of.Given as goal

-- each script so far has its link, on which nothing was sent
abbrev pub invariant-loop-from : goal.invariant-loop-from
invariant-loop-from l = record {
  from : map (λ link. link.from) l.links.items ≡ l.yielded;
  unsent : All (λ link. link.to ≡ record { sent = []; wants = 0 }) l.links.items;
}
