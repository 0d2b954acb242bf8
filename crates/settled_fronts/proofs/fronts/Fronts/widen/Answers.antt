use Rattle.std.specs.List.{each_same}
use Rattle.std.proofs.Common.{◌≡◌}
use Rattle.settled_fronts.proofs.PlacedLemmas.{kept_wider}
use Rattle.settled_fronts.proofs.fronts.Fronts.widen.Goals as goal

pub invariant_of-result : goal.invariant_of-result
invariant_of-result g c =
    let places : c.in_ok-clone.field-0.items ≡ c.self.inside.places.items = each_same _ _ c.in_ok-clone.ensures.cases.0 in
    rw (places, c.in_ok-widen_all.ensures, c.deref.ensures.value)
    (kept_wider g.row.D g.F.Cost.Part.Part.bound g.F.Wide.Cost.Part.Part.bound _ _ c.requires c.self.invariant)

pub returns : goal.returns
returns g c =
    let places : c.in_ok-clone.field-0.items ≡ c.self.inside.places.items = each_same _ _ c.in_ok-clone.ensures.cases.0 in
    rw (places, c.in_ok-widen_all.ensures, c.deref.ensures.value) c.self.view_is
