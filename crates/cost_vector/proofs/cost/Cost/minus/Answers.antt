use Rattle.std.proofs.Common.{◌-◌, refl, rules}
use Rattle.cost_vector.proofs.Sums.{IsStored-each, view-each, plus-minus}
use Rattle.cost_vector.proofs.cost.Cost.minus.Goals as goal

pub invariant_of-result : goal.invariant_of-result
invariant_of-result c =
    rw (c.from.ensures, c.from-2.ensures, c.from-3.ensures, c.from-4.ensures)
    (IsStored-each ◌-◌ refl c.self.invariant c.w.invariant c.self.view_is c.w.view_is c.requires)

pub returns-clause-difference : goal.returns-clause-difference
returns-clause-difference c =
    let view = view-each ◌-◌ refl c.self.invariant c.w.invariant c.self.view_is c.w.view_is c.requires in
    rw (c.from.ensures, c.from-2.ensures, c.from-3.ensures, c.from-4.ensures, view) (plus-minus c.args.self.now c.args.w.now (search rules))
