-- The arcs in pages: arcs are counted from 1, pages from 0.
use Rattle.std.specs.Prelude.{◌≡◌, ◌≢◌, ℕ, ◌+◌, ◌-◌, ◌*◌, ◌/◌, List, ◌++◌, length, take, drop, slice_get, slice_range}
use Rattle.std.specs.Int.{div_ceil}
use Rattle.arc_graph.specs.Graph.{Weights}

-- how many arcs stand on a page; the last page may have fewer
abbrev pub page_size : ℕ
page_size = 4096

-- the page that an arc stands on
abbrev pub page_of : ℕ → ℕ
page_of k = (k - 1) / page_size

-- how many pages so many arcs take
abbrev pub pages_of : ℕ → ℕ
pages_of arcs = div_ceil arcs page_size

-- arc k stands on the page
abbrev pub IsOnPage : ℕ → ℕ → Type 0
IsOnPage page k = page_of k ≡ page

-- a list with an element for each arc, where those of the page are taken from another such list
abbrev pub with_copied_page : {X : Type 0} → ℕ → List X → List X → List X
with_copied_page page from xs =
    take (page * page_size) xs ++ (slice_range from (page * page_size) ((page + 1) * page_size) ++ drop ((page + 1) * page_size) xs)

-- the arcs of the page have the same states in both
abbrev pub AgreeOnPage : ℕ → Weights → Weights → Type 0
AgreeOnPage page v w = (k : ℕ) → IsOnPage page k → slice_get v.states (k - 1) ≡ slice_get w.states (k - 1)

-- the arcs of the page have come to have the states that they have in `from`, and all other arcs have those of before
pub record CopiesPage (page : ℕ) (from before after : Weights) : Type 0 where
  pub criteria : after.criteria ≡ before.criteria
  pub arcs : length after.states ≡ length before.states
  pub copied : AgreeOnPage page after from
  pub others : (other : ℕ) → other ≢ page → AgreeOnPage other after before
