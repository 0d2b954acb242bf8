-- Weights by their pages: which page an arc stands on, weights that agree on pages, and what a change leaves of a page.
use Rattle.std.proofs.Common.{◌≡◌, ◌≢◌, ℕ, ◌-◌, ◌/◌, ◌+◌, ◌≤◌, ◌<◌, List, [], ◌∷◌, zero, suc, Option, None, length, set, arith, ap, ap₂, sym, ◌∙◌, refl}
use Rattle.std.specs.Prelude.{slice_get}
use Rattle.std.specs.Option.{unwrap_or}
use Rattle.std.proofs.lemmas.Option.{unwrap_or-slice_get}
use Rattle.std.proofs.lemmas.List.{ext_get_or}
use Rattle.arc_graph.specs.declared.change.Change.{Change}
use Rattle.arc_graph.specs.Graph.{Weights}
use Rattle.arc_graph.specs.Pages.{page_of, pages_of, IsOnPage, AgreeOnPage}
use Rattle.arc_graph.specs.History.{with_change}

-- each arc stands on one of the pages
pub page_there : (arcs k : ℕ) → 1 ≤ k → k ≤ arcs → page_of k < pages_of arcs
page_there arcs k counted within = omega arith

-- lists of which each place has the same are equal
same_by_get : {X : Type 0} (xs ys : List X) (d : X) → length xs ≡ length ys → ((i : ℕ) → i < length xs → slice_get xs i ≡ slice_get ys i) → xs ≡ ys
same_by_get xs ys d same each =
    ext_get_or d xs ys same (λ i within. sym (unwrap_or-slice_get xs i d) ∙ ap (λ o. unwrap_or o d) (each i within) ∙ unwrap_or-slice_get ys i d)

-- weights that agree on all pages are equal
pub same_by_pages : (v w : Weights) → v.criteria ≡ w.criteria → length v.states ≡ length w.states
    → ((page : ℕ) → page < pages_of (length v.states) → AgreeOnPage page v w) → v ≡ w
same_by_pages v w criteria arcs each =
    let states : v.states ≡ w.states = same_by_get v.states w.states None arcs (λ i within.
    let counted : i + 1 - 1 ≡ i = omega arith in
    let agree = each (page_of (i + 1)) (page_there (length v.states) (i + 1) (omega arith) (omega arith)) (i + 1) refl in
    ap (slice_get v.states) (sym counted) ∙ agree ∙ ap (slice_get w.states) counted) in
    ap₂ (λ (d : ℕ) (s : List (Option (List ℕ))). record { criteria = d; states = s }) criteria states

get_set_other : {X : Type 0} (xs : List X) (i j : ℕ) (y : X) → j ≢ i → slice_get (set xs i y) j ≡ slice_get xs j
get_set_other [] i j y apart = refl
get_set_other (x ∷ xs) zero zero y apart = absurd (apart refl)
get_set_other (x ∷ xs) zero (suc j) y apart = refl
get_set_other (x ∷ xs) (suc i) zero y apart = refl
get_set_other (x ∷ xs) (suc i) (suc j) y apart = get_set_other xs i j y (λ e. apart (ap suc e))

-- a change of an arc of another page
pub page_left : (page : ℕ) (w : Weights) (c : Change) → ¬ IsOnPage page c.arc.0 → AgreeOnPage page (with_change w c) w
page_left page w c away k on = get_set_other w.states (c.arc.0 - 1) (k - 1) c.weight (λ same. away (ap (λ n. n / 4096) (sym same) ∙ on))
