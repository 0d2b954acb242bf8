use Rattle.std.proofs.Common.{◌≡◌, length, take}
use Rattle.arc_graph.specs.History.{with_changes}
use Rattle.arc_graph.specs.Pages.{pages_of}
use Rattle.epoch_store.specs.Origin.{arcs_of, criteria_of}
use Rattle.epoch_store.specs.Published.{with_page_numbers}
use Rattle.epoch_store.proofs.published.Published.take_in.Given as goal

-- the changes so far were taken in
abbrev pub invariant-loop-change : goal.invariant-loop-change
invariant-loop-change g l = record {
  criteria : l.self-inside.weights.criteria ≡ criteria_of g.S.Store.origin;
  arcs : length l.self-inside.weights.states ≡ arcs_of g.S.Store.origin;
  count : length l.self-inside.pages.items ≡ pages_of (arcs_of g.S.Store.origin);
  weights : l.self-inside.weights ≡ with_changes l.initial.self-inside.weights (take l.change-index l.change-items);
  pages : l.self-inside.pages.items
      ≡ with_page_numbers l.publication-inside.number l.initial.self-inside.pages.items (take l.change-index l.change-items);
}
