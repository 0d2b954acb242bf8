-- The laws of the order of limits.
use Rattle.std.specs.Prelude.{◌≡◌, ℕ, List, Option, Some, None, nat_eq, refl}
use Rattle.std.specs.Option.{option_eq, option_cmp}
use Rattle.std.specs.Ordering.{nat_cmp, eq_by_cmp}
use Rattle.std.specs.Cmp.{IsEquivalence, IsTotalOrder, IsPartialOrder, po, unsigned_ties, nat_eq_equiv, nat_cmp_total}
use Rattle.std.specs.Cmp.Lexicographic.{pointwise, slice_cmp, lists_equiv, lists_total, lists_ties, options_equiv, options_total}

-- equality of limits is an equivalence
pub limits_equiv : IsEquivalence (pointwise (option_eq nat_eq))
limits_equiv = lists_equiv (options_equiv nat_eq_equiv)

-- the order is total
pub limits_total : IsTotalOrder (slice_cmp (option_cmp nat_cmp))
limits_total = lists_total (options_total nat_cmp_total)

-- places tie where they are equal
places_tie : (p q : Option ℕ) → option_eq nat_eq p q ≡ eq_by_cmp (option_cmp nat_cmp) p q
places_tie None None = refl
places_tie None (Some y) = refl
places_tie (Some x) None = refl
places_tie (Some x) (Some y) = unsigned_ties x y

-- limits tie where they are equal
pub limits_tie : (a b : List (Option ℕ)) → pointwise (option_eq nat_eq) a b ≡ eq_by_cmp (slice_cmp (option_cmp nat_cmp)) a b
limits_tie = lists_ties (option_cmp nat_cmp) places_tie

-- `partial_cmp` answers by that order
pub limits_po : IsPartialOrder (pointwise (option_eq nat_eq)) (λ a b. Some (slice_cmp (option_cmp nat_cmp) a b))
limits_po = po limits_total limits_tie
