use Rattle.std.proofs.Common.{ℕ, Bool, Decides, Option, Some, None, true, nat_le, refl, rules}
use Rattle.std.proofs.lemmas.Bool.{leb-true, le-leb}
use Rattle.std.proofs.lemmas.Bool.Decides.{same_from_decides}
use Rattle.std.proofs.lemmas.Iterator.{YieldsList-from_slice, YieldsList-from_zip}
use Rattle.std.proofs.lemmas.Iterator.Search.{all_from_yields_List}
use Rattle.cost_vector.specs.Costs.{IsAllowed}
use Rattle.cost_vector.proofs.Stored.{are_stored, Decides-stored}
use Rattle.cost_vector.proofs.limit.Limit.holds.Goals as goal

-- the test of one place
abbrev is_allowed : Option ℕ → ℕ → Bool
is_allowed None x = true
is_allowed (Some most) x = nat_le x most

Decides-is_allowed : (place : Option ℕ) (x : ℕ) → Decides (is_allowed place x) (IsAllowed place x)
Decides-is_allowed None x = (λ _. tt, λ _. refl)
Decides-is_allowed (Some most) x = (leb-true x most, le-leb x most)

pub returns : goal.returns
returns c =
    Decides-stored IsAllowed tt (λ p. is_allowed p.0 p.1) Decides-is_allowed
    (are_stored c.self.invariant c.cost.invariant c.self.view_is c.cost.view_is c.requires) _
    (all_from_yields_List (λ p. is_allowed p.0 p.1) c.all.new.self _ _ c.all.ensures.ran
    (YieldsList-from_zip (YieldsList-from_slice c.self.inside.places cc) (YieldsList-from_slice c.cost.inside.places cc))
    (λ p b q k. (refl, same_from_decides _ _ (search rules) (Decides-is_allowed p.0.now p.1.now))))
