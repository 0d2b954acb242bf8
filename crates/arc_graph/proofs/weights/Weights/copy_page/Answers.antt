use Rattle.arc_graph.proofs.CopiedPageLemmas.{TookPage, stored_now, copied_now}
use Rattle.arc_graph.proofs.weights.Weights.copy_page.Goals as goal

took : (c : goal.After-self-1) → TookPage c.args.page c.self.inside.criteria c.other.inside.criteria c.self.inside.vectors.len c.self.inside.vectors.items
    c.other.inside.vectors.items c.deref_mut.result.now c.deref.result.now c.copy_page_of.new.to c.args.self.now c.args.other.now
took c = record {
  before_is = c.self.view_is;
  from_is = c.other.view_is;
  criteria = c.requires.criteria;
  arcs = c.requires.arcs;
  there = c.requires.there;
  size = c.self.inside.vectors.ok.0;
  held_is = c.deref_mut.ensures.value;
  read_is = c.deref.ensures.value;
  new_is = c.copy_page_of.ensures;
  stored = c.self.invariant;
  other = c.other.invariant;
}

pub invariant_of-self : goal.invariant_of-self
invariant_of-self c = stored_now (took c)

pub returns : goal.returns
returns c = copied_now (took c)
