use Rattle.std.proofs.Common.{◌+◌, refl, ◌∙◌, lit<}
use Rattle.cost_vector.proofs.Sums.{IsStored-each, view-each, Fits-plus, plus_is_each}
use Rattle.cost_vector.proofs.cost.Cost.plus.Goals as goal

pub overflow_add-result-2 : goal.overflow_add-result-2
overflow_add-result-2 c =
    rw c.from-2.ensures (Fits-plus c.self.invariant c.w.invariant c.self.view_is c.w.view_is c.requires.same_count c.requires.no_wrap 1 (lit< tt))

pub overflow_add-result-3 : goal.overflow_add-result-3
overflow_add-result-3 c =
    rw c.from-3.ensures (Fits-plus c.self.invariant c.w.invariant c.self.view_is c.w.view_is c.requires.same_count c.requires.no_wrap 2 (lit< tt))

pub overflow_add-result-4 : goal.overflow_add-result-4
overflow_add-result-4 c =
    rw c.from-4.ensures (Fits-plus c.self.invariant c.w.invariant c.self.view_is c.w.view_is c.requires.same_count c.requires.no_wrap 3 (lit< tt))

pub invariant_of-result : goal.invariant_of-result
invariant_of-result c =
    rw (c.from.ensures, c.from-2.ensures, c.from-3.ensures, c.from-4.ensures)
    (IsStored-each ◌+◌ refl c.self.invariant c.w.invariant c.self.view_is c.w.view_is c.requires.same_count)

pub returns : goal.returns
returns c =
    rw (c.from.ensures, c.from-2.ensures, c.from-3.ensures, c.from-4.ensures)
    (view-each ◌+◌ refl c.self.invariant c.w.invariant c.self.view_is c.w.view_is c.requires.same_count ∙ plus_is_each _ _)
