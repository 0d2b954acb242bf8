use Rattle.std.proofs.Common.{◌≤◌, nat_le, rules, tests, lit≤}
use Rattle.std.proofs.lemmas.Bool.{leb-true, le-leb}
use Rattle.std.proofs.lemmas.Iterator.{YieldsList-from_slice, YieldsList-from_zip}
use Rattle.std.proofs.lemmas.Iterator.Search.{all_from_yields_List}
use Rattle.cost_vector.proofs.Stored.{are_stored, Decides-stored}
use Rattle.cost_vector.proofs.cost.Cost.at_most.Goals as goal

pub returns : goal.returns
returns c =
    Decides-stored ◌≤◌ (lit≤ tt) (λ p. nat_le p.0 p.1) (λ x y. (leb-true x y, le-leb x y))
    (are_stored c.self.invariant c.other.invariant c.self.view_is c.other.view_is c.requires) _
    (all_from_yields_List (λ p. nat_le p.0 p.1) c.all.new.self _ _ c.all.ensures.ran
    (YieldsList-from_zip (YieldsList-from_slice c.self.inside.places cc) (YieldsList-from_slice c.other.inside.places cc))
    (λ p b q k. search (rules, tests)))
