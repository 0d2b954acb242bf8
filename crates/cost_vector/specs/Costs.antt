-- Vectors of costs, as lists of their components.
-- Source: E. Q. V. Martins, On a multicriteria shortest path problem, European Journal of Operational Research 16 (1984).
use Rattle.std.specs.Prelude.{◌≡◌, ◌≢◌, ℕ, ◌+◌, ◌≤◌, List, [], ◌∷◌, Option, Some, None, replicate}
use Rattle.std.specs.List.{AllZip}
use Rattle.std.specs.declared.cmp.Ordering.{Ordering}
use Rattle.std.specs.declared.cmp.Ordering.TheVariants.{Less}
use Rattle.std.specs.Ordering.{nat_cmp}
use Rattle.std.specs.Cmp.Lexicographic.{slice_cmp}

-- the fewest criteria
abbrev pub min_criteria : ℕ
min_criteria = 2

-- the most criteria
abbrev pub max_criteria : ℕ
max_criteria = 4

-- as many components, and each is at most the other's
abbrev pub AtMost : List ℕ → List ℕ → Type 0
AtMost = AllZip ◌≤◌

-- no component is greater, and some component is smaller
pub record Dominates (a b : List ℕ) : Type 0 where
  pub at_most : AtMost a b
  pub differs : a ≢ b

-- the sum, component by component, of vectors of one length
abbrev pub plus : List ℕ → List ℕ → List ℕ
plus (x ∷ xs) (y ∷ ys) = (x + y) ∷ plus xs ys
plus _ _ = []

-- the component is at most the bound, if there is one
abbrev pub IsAllowed : Option ℕ → ℕ → Type 0
IsAllowed None x = Unit {0}
IsAllowed (Some most) x = x ≤ most

-- as many components as places, and none exceeds its place
abbrev pub Within : List (Option ℕ) → List ℕ → Type 0
Within = AllZip IsAllowed

-- no bound in any of d criteria
abbrev pub no_limit : ℕ → List (Option ℕ)
no_limit d = replicate d None

-- the order by the first components that differ
abbrev pub lex_cmp : List ℕ → List ℕ → Ordering
lex_cmp = slice_cmp nat_cmp

-- the first components that differ are in this order
abbrev pub LexLess : List ℕ → List ℕ → Type 0
LexLess a b = lex_cmp a b ≡ Less
