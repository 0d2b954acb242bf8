use Rattle.std.proofs.Common.{◌≡◌, ◌+◌, ◌<◌, ◌≤◌, length, sym, ◌∙◌, ap, subst, arith}
use Rattle.std.specs.Prelude.{slice_index}
use Rattle.std.proofs.lemmas.List.{get_or_default}
use mathlib.Core.List.{IsPrefix}
use Rattle.arc_graph.specs.Graph.{Weights}
use Rattle.arc_graph.specs.History.{History}
use Rattle.arc_graph.specs.Pages.{pages_of}
use Rattle.epoch_store.specs.Origin.{arcs_of}
use Rattle.epoch_store.specs.Published.{Published, ended_if}
use Rattle.epoch_store.specs.StoreRule.{IsBrought, IsEpoch}
use Rattle.epoch_store.proofs.EpochLemmas.{epoch_shown}
use Rattle.epoch_store.proofs.ShownLemmas.{page_stands, shown_criteria, shown_arcs, none_brought, page_brought, page_kept, all_brought}
use Rattle.epoch_store.proofs.reader.Shown.take_over.Goals as goal
use Rattle.epoch_store.proofs.reader.Shown.take_over.Goals.{then-index-seen, else-index-seen}

pub loop-page-init : goal.loop-page-init
loop-page-init g c =
    let own = c.self.inside in
    let w = own.snapshot.weights in
    let found = c.published.invariant in
    let seen : History = ended_if own.snapshot.closed own.history.history in
    let criteria = shown_criteria g.S.Store.origin seen own.snapshot.number own.snapshot.closed w c.self.invariant in
    let arcs = shown_arcs g.S.Store.origin seen own.snapshot.number own.snapshot.closed w c.self.invariant in
    none_brought c.published.inside.weights w (criteria ∙ sym found.0) (arcs ∙ sym found.1)

pub copy_page-requires-clause-criteria : goal.copy_page-requires-clause-criteria
copy_page-requires-clause-criteria g c = sym c.loop-page.invariant.criteria

pub copy_page-requires-clause-arcs : goal.copy_page-requires-clause-arcs
copy_page-requires-clause-arcs g c = sym c.loop-page.invariant.arcs

pub copy_page-requires-clause-there : goal.copy_page-requires-clause-there
copy_page-requires-clause-there g c =
    let there : c.loop-page.page < pages_of (arcs_of g.S.Store.origin) = omega arith in
    rw (c.loop-page.invariant.arcs, c.published.invariant.1) there

pub loop-page-preserved : goal.loop-page-preserved
loop-page-preserved g c =
    let o = g.S.Store.origin in
    let own = c.self.inside in
    let found = c.published.inside in
    let from : Weights = found.weights in
    let before : Weights = own.snapshot.weights in
    let page = c.loop-page.page in
    let seen : History = ended_if own.snapshot.closed own.history.history in
    let p : Published = record { number = found.number; weights = from; pages = found.pages.items; history = found.history.history } in
    let epoch : IsEpoch o p = subst (IsEpoch o) (sym c.published.view_is) c.requires.epoch in
    let begins : IsPrefix seen p.history = rw (c.self.view_is, ap (λ q. q.history) c.published.view_is) c.requires.begins in
    let there : page < length found.pages.items = omega arith in
    elim c.if-index-seen.branch [
      | then-index-seen w ↦
          subst (IsBrought (page + 1) from before) (sym (ap (λ s. s.snapshot.weights) w.self-inside-is))
          (page_brought from before c.loop-page.self-inside.snapshot.weights w.copy_page.new.self page c.loop-page.invariant w.copy_page.ensures)
      | else-index-seen w ↦
          let old : slice_index found.pages.items page ≤ own.snapshot.number =
          omega (arith, w.if-index-seen.false, c.index.ensures, get_or_default found.pages.items page c.index.result.now 0 there) in
          let stands = page_stands o seen p before own.snapshot.number page begins epoch c.self.invariant.number c.self.invariant.weights there old in
          subst (IsBrought (page + 1) from before) (sym (ap (λ s. s.snapshot.weights) w.self-inside-is))
          (page_kept from before c.loop-page.self-inside.snapshot.weights page c.loop-page.invariant stands)
    ]

pub invariant_of-self : goal.invariant_of-self
invariant_of-self g c =
    let o = g.S.Store.origin in
    let found = c.published.inside in
    let p : Published = record { number = found.number; weights = found.weights; pages = found.pages.items; history = found.history.history } in
    let epoch : IsEpoch o p = subst (IsEpoch o) (sym c.published.view_is) c.requires.epoch in
    let count : pages_of (arcs_of o) ≤ c.loop-page.page = omega arith in
    let all : pages_of (length found.weights.states) ≤ c.loop-page.page = rw c.published.invariant.1 count in
    let same : c.loop-page.self-inside.snapshot.weights ≡ found.weights =
    all_brought found.weights c.self.inside.snapshot.weights c.loop-page.self-inside.snapshot.weights c.loop-page.page c.loop-page.invariant all in
    rw (c.again.ensures, same) (epoch_shown o p c.args.closed epoch)
