use Rattle.std.proofs.lemmas.List.Filters.{FiltersInPlace}
use Rattle.waiting_queue.proofs.ShadowLemmas.{stays}
use Rattle.waiting_queue.proofs.shadow.remove_above.Given as goal

abbrev pub invariant-loop-i : goal.invariant-loop-i
invariant-loop-i g l = let f = g.C.StoredCost.components in FiltersInPlace (stays f (f l.low)) l.fn.shadow.items l.shadow.items l.kept l.i
