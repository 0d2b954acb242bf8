-- What a reader is shown: a snapshot goes on to a later epoch by the pages that have changed.
use Rattle.std.proofs.Common.{◌≡◌, ℕ, ◌+◌, ◌-◌, ◌<◌, ◌≤◌, Bool, inl, inr, length, refl, ap, sym, subst, ◌∙◌, arith}
use Rattle.std.specs.Prelude.{slice_get, slice_index}
use Rattle.std.proofs.lemmas.List.{length-append}
use Rattle.std.proofs.lemmas.Bool.{cases_eq}
use mathlib.Core.List.{IsPrefix}
use Rattle.arc_graph.specs.Graph.{Weights}
use Rattle.arc_graph.specs.History.{History, epoch_after, sets, sets_of}
use Rattle.arc_graph.specs.Pages.{AgreeOnPage, CopiesPage, pages_of}
use Rattle.arc_graph.proofs.HistoryLemmas.{sets_of_both, epoch_arcs, epoch_criteria, epoch_earlier, page_left_by_sets}
use Rattle.arc_graph.proofs.PageLemmas.{same_by_pages}
use Rattle.epoch_store.specs.Origin.{Origin, arcs_of, criteria_of, last_number, last_weights}
use Rattle.epoch_store.specs.Published.{Published}
use Rattle.epoch_store.specs.StoreRule.{IsBrought, IsEpoch, IsShown}

-- a page whose number is no greater than the snapshot's is as it was
pub page_stands : (o : Origin) (seen : History) (p : Published) (w : Weights) (n page : ℕ) → IsPrefix seen p.history → IsEpoch o p
    → n ≡ last_number o seen → w ≡ last_weights o seen → page < length p.pages → slice_index p.pages page ≤ n → AgreeOnPage page w p.weights
page_stands o seen p w n page begins epoch number weights there old =
    let h = p.history in
    let i = sets seen in
    let count = ap length (sets_of_both seen begins.0) in
    let more : i ≤ sets h =
    subst (λ (later : History). i ≤ sets later) begins.1 (omega (arith, count, length-append (sets_of seen) (sets_of begins.0))) in
    let left = epoch.pages page i there more (omega (arith, number)) in
    let before : epoch_after o.base h i ≡ w =
    ap (λ later. epoch_after o.base later i) (sym begins.1) ∙ epoch_earlier o.base seen begins.0 i (omega arith) ∙ sym weights in
    let agree = page_left_by_sets page o.base h i (sets h) more left in
    λ k on. ap (λ v. slice_get v.states (k - 1)) (sym before) ∙ agree k on ∙ ap (λ v. slice_get v.states (k - 1)) (sym epoch.weights)

-- a snapshot has the first weights' criteria
pub shown_criteria : (o : Origin) (seen : History) (n : ℕ) (b : Bool) (w : Weights) → IsShown o seen n b w → w.criteria ≡ criteria_of o
shown_criteria o seen n b w is = ap (λ v. v.criteria) is.weights ∙ epoch_criteria o.base seen (sets seen)

-- and their arcs
pub shown_arcs : (o : Origin) (seen : History) (n : ℕ) (b : Bool) (w : Weights) → IsShown o seen n b w → length w.states ≡ arcs_of o
shown_arcs o seen n b w is = ap (λ v. length v.states) is.weights ∙ epoch_arcs o.base seen (sets seen)

-- no page was brought yet
pub none_brought : (from before : Weights) → before.criteria ≡ from.criteria → length before.states ≡ length from.states → IsBrought 0 from before before
none_brought from before criteria arcs = record {
  criteria = criteria;
  arcs = arcs;
  done = λ page below. absurd (omega arith);
  rest = λ page past k on. refl;
}

-- the next page is copied
pub page_brought : (from before w v : Weights) (page : ℕ) → IsBrought page from before w → CopiesPage page from w v → IsBrought (page + 1) from before v
page_brought from before w v page is copies = record {
  criteria = copies.criteria ∙ is.criteria;
  arcs = copies.arcs ∙ is.arcs;
  done = λ other below. elim (cases_eq other page) [
    | inl here ↦ subst (λ (p : ℕ). AgreeOnPage p v from) (sym here) copies.copied
    | inr away ↦ λ k on. copies.others other away k on ∙ is.done other (omega arith) k on
  ];
  rest = λ other past k on. copies.others other (λ (same : other ≡ page). absurd (omega arith)) k on ∙ is.rest other (omega arith) k on;
}

-- the next page is as it was, and that is what it has to be
pub page_kept : (from before w : Weights) (page : ℕ) → IsBrought page from before w → AgreeOnPage page before from → IsBrought (page + 1) from before w
page_kept from before w page is agree = record {
  criteria = is.criteria;
  arcs = is.arcs;
  done = λ other below. elim (cases_eq other page) [
    | inl here ↦ subst (λ (p : ℕ). AgreeOnPage p w from) (sym here) (λ k on. is.rest page (omega arith) k on ∙ agree k on)
    | inr away ↦ is.done other (omega arith)
  ];
  rest = λ other past. is.rest other (omega arith);
}

-- all pages were
pub all_brought : (from before w : Weights) (n : ℕ) → IsBrought n from before w → pages_of (length from.states) ≤ n → w ≡ from
all_brought from before w n is all =
    let below : (page : ℕ) → page < pages_of (length w.states) → page < n =
    λ page there. let within : page < pages_of (length from.states) = subst (λ (k : ℕ). page < pages_of k) is.arcs there in omega arith in
    same_by_pages w from is.criteria is.arcs (λ page there. is.done page (below page there))
