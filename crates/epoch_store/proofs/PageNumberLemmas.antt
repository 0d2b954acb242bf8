-- The numbers of pages: what they say as a history grows.
use Rattle.std.proofs.Common.{◌≡◌, ℕ, ◌+◌, ◌-◌, ◌<◌, ◌≤◌, ◌⊎◌, inl, inr, List, [], ◌∷◌, ◌++◌, length, take, drop, refl, ap, sym, subst, ◌∙◌, arith}
use Rattle.std.specs.Prelude.{slice_index, slice_range, slice_set, replicate, All}
use Rattle.std.proofs.lemmas.List.{drop-append-le, take_all, length-append, length-set, length-drop, get_or-set_same, get_or-set_other}
use Rattle.std.proofs.lemmas.Bool.{cases_eq, cases_lt}
use Rattle.std.proofs.lemmas.List.Elements.{All-nil, All-cons, All-push}
use Rattle.arc_graph.specs.declared.change.Change.{Change}
use Rattle.arc_graph.specs.History.{History, LeavePage, LeavesPage, number_after, sets, sets_of}
use Rattle.arc_graph.specs.History.HistoryEntry.{Changes}
use Rattle.arc_graph.specs.Pages.{IsOnPage, page_of}
use Rattle.arc_graph.proofs.HistoryLemmas.{sets_with_set, count_with_set}
use Rattle.epoch_store.specs.Published.{with_page_numbers}
use Rattle.epoch_store.specs.StoreRule.{ArePageNumbers}

-- a set has an arc of the page, which gets the set's number; or it has none, and the page's number stays
pub page_number_after : (n page : ℕ) (cs : List Change) (pages : List ℕ) → page < length pages
    → (slice_index (with_page_numbers n pages cs) page ≡ n) ⊎ (LeavesPage page cs × (slice_index (with_page_numbers n pages cs) page ≡ slice_index pages page))
page_number_after n page [] pages there = inr (All-nil (λ (c : Change). ¬ IsOnPage page c.arc.0), refl)
page_number_after n page (c ∷ cs) pages there =
    let at = page_of c.arc.0 in
    let next : List ℕ = slice_set pages at n in
    let within : page < length next = omega (arith, length-set pages at n) in
    elim (page_number_after n page cs next within) [
      | inl named ↦ inl named
      | inr left ↦ elim (cases_eq page at) [
        | inl here ↦ inl (left.1 ∙ (ap (slice_index next) here ∙ get_or-set_same pages at n 0 (omega arith)))
        | inr away ↦ inr (
          All-cons (λ (d : Change). ¬ IsOnPage page d.arc.0) c cs (λ on. away (sym on)) left.0,
          left.1 ∙ get_or-set_other pages at page n 0 away,
        )
      ]
    ]

-- there are as many numbers as before
pub count_of_pages : (n : ℕ) (cs : List Change) (pages : List ℕ) → length (with_page_numbers n pages cs) ≡ length pages
count_of_pages n [] pages = refl
count_of_pages n (c ∷ cs) pages = count_of_pages n cs (slice_set pages (page_of c.arc.0) n) ∙ length-set pages (page_of c.arc.0) n

-- between an epoch and itself no set has any arc
pub left_between_same : (page : ℕ) (h : History) (i k : ℕ) → i ≡ k → LeavePage page h i k
left_between_same page h i k same =
    let none : k - i ≡ 0 = omega arith in
    subst (λ (n : ℕ). All (LeavesPage page) (take n (drop i (sets_of h)))) (sym none) (All-nil (LeavesPage page))

-- a set that has no arc of the page comes behind those that have none
pub left_with_set : (page : ℕ) (h : History) (cs : List Change) (i : ℕ) → i ≤ sets h → LeavePage page h i (sets h) → LeavesPage page cs
    → LeavePage page (h ++ Changes cs ∷ []) i (sets h + 1)
left_with_set page h cs i within left leaves =
    let css = sets_of h in
    let behind : drop i (css ++ cs ∷ []) ≡ drop i css ++ cs ∷ [] = drop-append-le i css (cs ∷ []) within in
    let more : length (drop i css ++ cs ∷ []) ≤ sets h + 1 - i = simp (length-append, length-drop) (omega arith) in
    let whole : slice_range css i (sets h) ≡ drop i css = take_all (sets h - i) (drop i css) (simp length-drop (omega arith)) in
    let range : slice_range (sets_of (h ++ Changes cs ∷ [])) i (sets h + 1) ≡ slice_range css i (sets h) ++ cs ∷ [] =
    rw (sets_with_set, behind, whole) (take_all (sets h + 1 - i) (drop i css ++ cs ∷ []) more) in
    subst (All (LeavesPage page)) (sym range) (All-push (LeavesPage page) (slice_range css i (sets h)) cs left leaves)

-- before the first publication
pub numbers_first : (first count : ℕ) → ArePageNumbers first [] (replicate count first)
numbers_first first count page i there within upto = left_between_same page [] i 0 (omega arith)

-- a set comes, whose number the pages of its arcs get
pub numbers_with_set : (first : ℕ) (h : History) (cs : List Change) (pages : List ℕ) → ArePageNumbers first h pages
    → ArePageNumbers first (h ++ Changes cs ∷ []) (with_page_numbers (number_after first (sets h) + 1) pages cs)
numbers_with_set first h cs pages numbers page i there within upto =
    let n = number_after first (sets h) + 1 in
    let count = count_with_set h cs in
    let long : page < length pages = subst (λ (k : ℕ). page < k) (count_of_pages n cs pages) there in
    let left : LeavePage page (h ++ Changes cs ∷ []) i (sets h + 1) = elim (cases_lt (sets h) i) [
      | inr before ↦ elim (page_number_after n page cs pages long) [
        | inl named ↦ absurd (omega (arith, named))
        | inr stays ↦ left_with_set page h cs i before (numbers page i long before (omega (arith, stays.1))) stays.0
      ]
      | inl last ↦ left_between_same page (h ++ Changes cs ∷ []) i (sets h + 1) (omega (arith, count))
    ] in
    subst (LeavePage page (h ++ Changes cs ∷ []) i) (sym count) left
