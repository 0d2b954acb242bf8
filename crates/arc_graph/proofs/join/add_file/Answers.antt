use Rattle.std.proofs.Common.{arith, subst, sym, ◌∙◌}
use Rattle.std.proofs.lemmas.List.{take_all}
use Rattle.arc_graph.proofs.JoinerHoldsLemmas.{stands_more}
use Rattle.std.specs.Prelude.{All}
use Rattle.std.proofs.lemmas.List.Elements.{All-get_or}
use Rattle.arc_graph.specs.declared.file.ArcLine.{ArcLine}
use Rattle.road_network.specs.Network.{IsNode}
use Rattle.arc_graph.proofs.join.add_file.Goals as goal

pub push-requires-clause-tail : goal.push-requires-clause-tail
push-requires-clause-tail c =
    let Tail : ArcLine → Type 0 = λ a. IsNode c.args.file.now.nodes a.tail in
    let each = subst (All Tail) (sym c.arcs-arcs.ensures) c.nodes.ensures.contents.tails in
    rw c.loop-arc.invariant.nodes (All-get_or Tail _ c.loop-arc.arc-index _ c.loop-arc-test.true each)

pub push-requires-clause-head : goal.push-requires-clause-head
push-requires-clause-head c =
    let Head : ArcLine → Type 0 = λ a. IsNode c.args.file.now.nodes a.head in
    let each = subst (All Head) (sym c.arcs-arcs.ensures) c.nodes.ensures.contents.heads in
    rw c.loop-arc.invariant.nodes (All-get_or Head _ c.loop-arc.arc-index _ c.loop-arc-test.true each)

pub loop-arc-preserved : goal.loop-arc-preserved
loop-arc-preserved c = record {
  begun = omega (arith, c.in_ok-push.ensures.file.begun);
  nodes = omega (arith, c.in_ok-push.ensures.file.due_nodes);
  arcs = omega (arith, c.in_ok-push.ensures.file.due_arcs);
  come = omega (arith, c.in_ok-push.ensures.come);
  stands = λ files stands.
      stands_more _ files c.args.file.now.nodes c.arcs-arcs.result.now c.loop-arc.arc-index _ c.loop-arc-test.true
      (c.in_ok-push.ensures.files files _ (c.loop-arc.invariant.stands files stands));
}

pub returns-clause-files : goal.returns-clause-files
returns-clause-files c = λ files stands.
    let all = take_all c.loop-arc.arc-index c.arcs-arcs.result.now (omega arith) ∙ c.arcs-arcs.ensures in
    rw all at (c.loop-arc.invariant.stands files stands)
