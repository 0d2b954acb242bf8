-- What a core of this crate keeps, and the spots of its items.
use Rattle.std.proofs.Common.{◌≡◌, ◌⊎◌, ◌↔◌, ℕ, List, [], ◌∷◌, map, refl, ap, arith, All, Contains}
use Rattle.list_laws.proofs.Members.{all_from_in, each_in}
use Rattle.bulk_rounds.specs.Cores.{Core, IsSettledIn, Item, SameSearch, Spot}
use Rattle.bulk_rounds.specs.Kept.{IsFrom, IsKept}
use Rattle.bulk_rounds.proofs.KeptLemmas.{from_on}
use Rattle.waiting_item.specs.Waiting.{as_waiting, spot_in, spot_of}
use Rattle.waiting_item.specs.declared.item.Item.{Item as QueueItem}
use Rattle.bulk_core.specs.Kept.{IsKeptCore}

-- the spots of items
pub spots_of_items : {C : Type 0} (components : C → List ℕ) (items : List (QueueItem C))
    → map spot_of (map (as_waiting components) items) ≡ map (spot_in components) items
spots_of_items components [] = refl
spots_of_items components (i ∷ is) = ap (λ (xs : List Spot). spot_in components i ∷ xs) (spots_of_items components is)

-- where some spots are settled, the rest of what a core keeps stays so
pub kept_core : {before after : Core} {count new : ℕ} {took others : List Item} (same : SameSearch before after) (spots : List Spot)
    (settled : (x : Spot) → IsSettledIn after x ↔ (IsSettledIn before x ⊎ Contains spots x)) → IsKeptCore before count took → IsKept after new
    → All (IsFrom before) others → IsKeptCore after new others
kept_core {before} {after} {others = others} same spots settled was kept from =
    search (arith, all_from_in (IsFrom after) others (λ i there. from_on same spots settled i (each_in (IsFrom before) others from i there)))
