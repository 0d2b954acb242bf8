use Rattle.std.proofs.Common.{◌≡◌, ◌-◌, length, slice_index_or, false, rules}
use Rattle.std.proofs.lemmas.List.{places}
use Rattle.std.specs.Ordering.{is_lt}
use Rattle.least_queue.proofs.OpenedLemmas.{upper_chain}
use Rattle.least_queue.proofs.opened.leads.Goals as goal

pub returns-in-Some-Some-clause-leads : goal.returns-in-Some-Some-clause-leads
returns-in-Some-Some-clause-leads g c h d =
    let last : slice_index_or c.args.run.now.items (length c.args.run.now.items - 1) d ≡ c.in-Some-Some.last.now = search (rules, places) in
    let not_less : is_lt (g.T.Ord.cmp c.in-Some-Some.last.now c.in-Some-Some.head.now) ≡ false = search rules in
    rw last (upper_chain g.T.Ord.cmp g.met.T.Ord.total _ _ _ not_less (c.in-Some-Some.ensures'.greatest c.requires))
